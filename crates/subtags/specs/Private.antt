-- The words of private functions. No public contract has one of them.
use Rattle.std.specs.Prelude.{ℕ, ◌+◌, ◌==◌, nat_lt, if◌then◌else◌, List, length, take, ◌≡◌, ◌≤◌, ◌*◌, ◌^◌, [], ◌∷◌, ◌++◌, replicate, codes}
use Rattle.std.specs.List.{position, position_or_len}
use Rattle.std.specs.Option.{unwrap_or}
use Rattle.tinystr.specs.Classes.{is_alphabetic, is_digit}
use Rattle.tinystr.specs.ShortInput.{bits_of}
use Rattle.subtags.specs.Grammar.{dash, is_separator}

-- where the language of a canonical text ends: at the first dash among its first 8 bytes, or after these
abbrev pub language_end : List ℕ → ℕ
language_end t = unwrap_or (position (λ b. b == dash) (take 8 t)) 8

-- where a region of a canonical text is if there is one: after the script, or where a script would be
abbrev pub region_start : List ℕ → ℕ
region_start t = if nat_lt (language_end t + 4) (length t) then language_end t + 6 else language_end t + 1

-- the bytes before the first separator
abbrev pub first_subtag : List ℕ → List ℕ
first_subtag u = take (position_or_len is_separator u) u

-- a script, a region, or both, each after a dash, of n bytes; nothing where these have no such length
abbrev pub tail_example : ℕ → List ℕ
tail_example n =
    if n == 3 then codes "-AA"
    else if n == 4 then codes "-000"
    else if n == 5 then codes "-Aaaa"
    else if n == 8 then codes "-Aaaa-AA"
    else if n == 9 then codes "-Aaaa-000"
    else []

-- a language of e letters, and such bytes after it
abbrev pub example : ℕ → ℕ → List ℕ
example e n = replicate e 0x61 ++ tail_example n

-- at most 17 bytes, and the bits of the letters, of the digits and of the separators among them
pub record AreClassesOf (l d s : ℕ) (u : List ℕ) : Type 0 where
  pub few : length u ≤ 17
  pub letters : l ≡ bits_of is_alphabetic u
  pub digits : d ≡ bits_of is_digit u
  pub separators : s ≡ bits_of is_separator u

-- all of them in one number: a bit for each letter, twenty bits higher one for each digit, and then separators
abbrev pub classes_of : List ℕ → ℕ
classes_of u = bits_of is_alphabetic u + bits_of is_digit u * 2 ^ 20 + bits_of is_separator u * 2 ^ 40

-- one more than that number, or 0 of no bytes
abbrev pub one_more : List ℕ → ℕ
one_more [] = 0
one_more (b ∷ t) = classes_of (b ∷ t) + 1
