-- Decimal texts. The text of a number is std's `decimal`, which `IsDecimalOf` describes.
use Rattle.std.specs.Prelude.{◌≡◌, ℕ, ◌+◌, ◌-◌, ◌*◌, ◌^◌, ◌<◌, List, [], ◌∷◌, drop, length, slice_index, All}
use Rattle.std.specs.Int.{IsInRange}

-- the number that digits spell
-- e.g. of "42" it is 42, and of "042" too
abbrev pub number_of : List ℕ → ℕ
number_of [] = 0
number_of (d ∷ ds) = (d - 48) * 10 ^ length ds + number_of ds

-- digits alone, one at least, that spell n, with no leading zero but in `0`
-- e.g. "42" of 42, but not "042"
pub record IsDecimalOf (n : ℕ) (ds : List ℕ) : Type 0 where
  pub some : 0 < length ds
  pub digits : All (λ d. IsInRange 48 57 d) ds
  pub value : number_of ds ≡ n
  pub shortest : slice_index ds 0 ≡ 48 → length ds ≡ 1

-- the last k items, or all where there are fewer
-- e.g. last 2 "456" is "56"
abbrev pub last : ℕ → List ℕ → List ℕ
last k l = drop (length l - k) l
