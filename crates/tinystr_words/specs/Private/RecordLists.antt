-- Lists of records, which may be no padded texts.
use Rattle.std.specs.Prelude.{ℕ, ◌<◌, List, [], length, take, slice_index_or, All}
use Rattle.tinystr_words.specs.Text.{IsPaddedText}

-- in a list of records, the one at i is the first that isn't a padded text
pub record IsFirstUnpadded (records : List (List ℕ)) (n i : ℕ) : Type 0 where
  pub inside : i < length records
  pub bad : ¬ IsPaddedText (slice_index_or records i []) n
  pub before : All (λ raw. IsPaddedText raw n) (take i records)
