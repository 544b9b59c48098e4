-- The order of texts, and of any lists of bytes.
use Rattle.std.specs.Prelude.{◌≡◌, ℕ, ◌<◌, List, length, take, slice_index, ◌⊎◌}

-- s goes on where t ends
abbrev pub IsProperBeginning : List ℕ → List ℕ → Type 0
IsProperBeginning t s = (length t < length s) × (take (length t) s ≡ t)

-- t and s agree below i, and t has the lesser byte there
pub record IsLesserAt (t s : List ℕ) (i : ℕ) : Type 0 where
  pub inside : i < length t
  pub inside_other : i < length s
  pub same : take i t ≡ take i s
  pub lesser : slice_index t i < slice_index s i

-- t comes before s. By the law order_compared, `slice_cmp nat_cmp` is Less exactly then
-- e.g. "ab" before "abc" and before "b"
abbrev pub IsBefore : List ℕ → List ℕ → Type 0
IsBefore t s = IsProperBeginning t s ⊎ ((i : ℕ) × IsLesserAt t s i)
