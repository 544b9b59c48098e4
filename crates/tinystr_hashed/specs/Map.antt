-- Hashed keys and their values, seen as std sees a map: by its entries, in the order of the hash.
use Rattle.std.specs.Prelude.{◌≡◌, ◌≢◌, ℕ, ◌*◌, ◌==◌, List, length, zip, All, Option, Some, None, option_and_then, if◌then◌else◌}
use Rattle.std.specs.List.{flat_map}
use Rattle.std.specs.Map.{keys_of, values_of}
use Rattle.tinystr_words.specs.Packed.{records_of}
use Rattle.tinystr_hashed.specs.Reading.{IsHashed, RefusesHashed, hashed_table_of}
use Rattle.tinystr_hashed.specs.declared.map.HashedMapError.{HashedMapError}
use Rattle.tinystr_hashed.specs.declared.map.HashedMapError.TheVariants.{Keys, Values}

-- the keys are those of a hashed table, and each value has m bytes; the bytes of the values are these, joined
pub record AreHashed (entries : List (List ℕ × List ℕ)) (keys values : List ℕ) (n m : ℕ) : Type 0 where
  pub hashed : IsHashed (keys_of entries) keys n
  pub long : All (λ v. length v ≡ m) (values_of entries)
  pub joined_values : values ≡ flat_map (λ v. v) (values_of entries)

-- the keys aren't a hashed table, for this fault; or they are, and there aren't m bytes for each
abbrev pub RefusesHashedMap : HashedMapError → List ℕ → List ℕ → ℕ → ℕ → Type 0
RefusesHashedMap (Keys fault) keys values n m = RefusesHashed fault keys n
RefusesHashedMap (Values count len) keys values n m = (texts : List (List ℕ)) × IsHashed texts keys n
    × (count ≡ length texts) × (len ≡ length values) × (len ≢ count * m)

-- ---- the same, computed

-- each key with its value of m bytes, where there are m for each key
abbrev pub values_with : ℕ → List ℕ → List (List ℕ) → Option (List (List ℕ × List ℕ))
values_with m values keys = if length values == length keys * m then Some (zip keys (records_of m values)) else None

abbrev pub hashed_map_of : ℕ → ℕ → List ℕ → List ℕ → Option (List (List ℕ × List ℕ))
hashed_map_of n m keys values = option_and_then (values_with m values) (hashed_table_of n keys)
