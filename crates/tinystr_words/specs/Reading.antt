-- What readers make of a list of code units: a strict one its text or its fault, a lossy one always a text. A code unit
-- is a byte, or a 16-bit number.
use Rattle.std.specs.Prelude.{ℕ, ◌==◌, Bool, ◌&&◌, ◌||◌, nat_lt, List, length, map, take, slice_index, Option, Some, None, option_map, unwrap_or, if◌then◌else◌}
use Rattle.std.specs.List.{find, list_any, range_with_len}
use Rattle.tinystr_words.specs.Text.{is_text_byte, is_strict_text}

-- the code units, where they are a text of at most n bytes
-- e.g. of "ab" it is Some "ab" at 2, and None at 1
abbrev pub strict_of : ℕ → List ℕ → Option (List ℕ)
strict_of n units = if is_strict_text units n then Some units else None

-- whether a NUL is before position i
abbrev pub is_after_nul : List ℕ → ℕ → Bool
is_after_nul units i = list_any (λ u. u == 0) (take i units)

-- whether the code unit at i is above 127, or is a character after a NUL
-- e.g. in 61 00 62 the one at 2 is, in 61 00 none
abbrev pub is_faulty : List ℕ → ℕ → Bool
is_faulty units i =
    nat_lt 127 (slice_index units i) || (nat_lt 0 (slice_index units i) && is_after_nul units i)

-- the least faulty position
unfoldable pub first_faulty : List ℕ → Option ℕ
first_faulty units = find (is_faulty units) (range_with_len 0 (length units))

-- why a list of code units is rejected
-- e.g. too_long 2 3 of "abc" at 2
pub data Fault : Type 0 where
  too_long : ℕ → ℕ → Fault
  contains_null : Fault
  non_ascii : Fault

-- the fault at the first faulty position, where there is one
-- e.g. of 61 00 62 it is Some contains_null, of 61 00 80 Some non_ascii
unfoldable pub first_fault : List ℕ → Option Fault
first_fault units =
    option_map (λ i. if nat_lt 127 (slice_index units i) then non_ascii else contains_null) (first_faulty units)

-- the fault of a list that a reader of at most n code units refuses: its length comes first, and then the first faulty
-- position; where there is none, there are NULs at the end
-- e.g. at 2, of "abc" it is too_long 2 3, and of 61 00 contains_null
unfoldable pub fault_in : ℕ → List ℕ → Fault
fault_in n units =
    if nat_lt n (length units) then too_long n (length units) else unwrap_or (first_fault units) contains_null

-- a character, or r for any other code unit
abbrev pub lossy_byte : ℕ → ℕ → ℕ
lossy_byte r u = if is_text_byte u then u else r

-- the first n code units, with r for each that isn't a character
-- e.g. of 61 00 80 62 with ? at 3 it is "a??"
abbrev pub lossy : List ℕ → ℕ → ℕ → List ℕ
lossy units r n = map (lossy_byte r) (take n units)
