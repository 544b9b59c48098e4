-- Texts and maps packed with hashed texts.
use Rattle.std.specs.Prelude.{◌≡◌, ◌↔◌, ◌≤◌, ℕ, List, length, Contains, count_by}
use Rattle.std.specs.List.{IsDistinct}
use Rattle.std.specs.Str.{bytes_eq}
use Rattle.tinystr_packed.specs.Map.{get}
use Rattle.tinystr_hashed.specs.Reading.{IsHashed}
use Rattle.tinystr_hashed.specs.declared.packing.PackHashedError.{PackHashedError}
use Rattle.tinystr_hashed.specs.declared.packing.PackHashedError.TheVariants.{Duplicate, Memory}
use Rattle.tinystr_hashed.specs.Map.{AreHashed}
use Rattle.tinystr_hashed.specs.TextMap.{AreHashedTexts}

-- the bytes are a hashed table of these texts, no two of which are equal, in some order
pub record ArePackedHashed (texts : List (List ℕ)) (bytes : List ℕ) (n : ℕ) : Type 0 where
  pub made : List (List ℕ)
  pub hashed : IsHashed made bytes n
  pub count : length made ≡ length texts
  pub same : (t : List ℕ) → Contains made t ↔ Contains texts t
  pub distinct : IsDistinct bytes_eq texts

-- the text occurs twice; of a failed allocation nothing is said
abbrev pub RefusesToPack : {n : ℕ} → PackHashedError n → List (List ℕ) → Type 0
RefusesToPack (Duplicate text) texts = 2 ≤ count_by (bytes_eq text) texts
RefusesToPack Memory texts = Unit {0}

-- the bytes are a hashed map that has the value of each key, in some order
pub record ArePackedHashedEntries (entries : List (List ℕ × List ℕ)) (keys values : List ℕ) (n m : ℕ) : Type 0 where
  pub made : List (List ℕ × List ℕ)
  pub hashed : AreHashed made keys values n m
  pub same : (key : List ℕ) → get made key ≡ get entries key

-- the same of a map of texts
pub record ArePackedHashedTexts (entries : List (List ℕ × List ℕ)) (keys values : List ℕ) (n m : ℕ) : Type 0 where
  pub made : List (List ℕ × List ℕ)
  pub hashed : AreHashedTexts made keys values n m
  pub same : (key : List ℕ) → get made key ≡ get entries key

-- the fault isn't that a text occurs twice
abbrev pub IsNotDuplicate : {n : ℕ} → PackHashedError n → Type 0
IsNotDuplicate (Duplicate text) = ⊥
IsNotDuplicate Memory = Unit {0}
