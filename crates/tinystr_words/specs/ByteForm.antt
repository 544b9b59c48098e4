-- The byte form: the fault of a list of bytes whose first n aren't a padded text.
use Rattle.std.specs.Prelude.{ℕ, ◌==◌, ◌&&◌, not, nat_lt, nat_le, List, length, slice_index, Option, Some, None, is_some, option_and_then, if◌then◌else◌}
use Rattle.std.specs.List.{find, range_with_len}
use Rattle.tinystr_words.specs.Reading.{is_after_nul}

-- why bytes aren't read: there are fewer than a number of them, a byte after a NUL isn't a NUL, or a byte is above 127
pub data ByteFault : Type 0 where
  too_short : ℕ → ByteFault
  null : ByteFault
  non_ascii : ByteFault

-- the fault at position i: the first of three tests that holds there
abbrev pub byte_fault_at : ℕ → List ℕ → ℕ → Option ByteFault
byte_fault_at n input i =
    if nat_le (length input) i then Some (too_short n)
    else (if is_after_nul input i && not (slice_index input i == 0) then Some null
    else (if nat_lt 127 (slice_index input i) then Some non_ascii
    else None))

-- the fault at the first position below n that has one, or `None`
-- e.g. at 4, of 61 00 it is Some (too_short 4), of 61 00 62 00 Some null, and of 61 62 00 00 None
unfoldable pub byte_fault : ℕ → List ℕ → Option ByteFault
byte_fault n input =
    option_and_then (byte_fault_at n input) (find (λ i. is_some (byte_fault_at n input i)) (range_with_len 0 n))
