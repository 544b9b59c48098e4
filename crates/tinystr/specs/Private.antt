-- The words of private functions and of hidden modules. Of what is public, only the view of `Parts` and the invariant of
-- `ShortInput` have some: `parts_left` and `IsLoaded`.
use Rattle.std.specs.Prelude.{◌≡◌, ℕ, List, [], slice_index_or, ◌==◌, Option, Some, None, ◌≤◌, length, take}
use Rattle.std.specs.List.{slice_split}
use Rattle.tinystr_words.specs.Reading.{fault_in}
use Rattle.tinystr_words.specs.Private.RecordLists.{IsFirstUnpadded}
use Rattle.tinystr_words.specs.Text.{pad}
use Rattle.tinystr.specs.Error.{fault_of}
use Rattle.tinystr.specs.declared.ule.UleError.{UleError}
use Rattle.tinystr.specs.declared.ule.UleError.TheVariants.{Length, Parse}

-- in a list of records, this is the first that isn't a padded text, and its own fault
abbrev pub RefusesOneOf : UleError → List (List ℕ) → ℕ → Type 0
RefusesOneOf (Length len) records n = ⊥
RefusesOneOf (Parse index fault) records n =
    IsFirstUnpadded records n index × (fault_of fault ≡ fault_in n (slice_index_or records index []))

-- those of the text after the previous parts; none after the last
abbrev pub parts_left : ℕ → Option (List ℕ) → List (List ℕ)
parts_left separator None = []
parts_left separator (Some rest) = slice_split (λ b. b == separator) rest

-- there are at most 17 bytes, and the lanes are at most the first sixteen, and then NULs
pub record IsLoaded (lanes : List ℕ) (u : List ℕ) : Type 0 where
  pub few : length u ≤ 17
  pub held : lanes ≡ pad (take 16 u) 16
