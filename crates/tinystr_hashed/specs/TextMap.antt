-- Hashed keys, and packed texts as their values.
use Rattle.std.specs.Prelude.{◌≡◌, ◌≢◌, ℕ, List, length, All, Option, option_and_then}
use Rattle.std.specs.List.{flat_map}
use Rattle.std.specs.Map.{keys_of, values_of}
use Rattle.tinystr.specs.Records.{RefusesRecords}
use Rattle.tinystr_words.specs.Packed.{IsPacked}
use Rattle.tinystr_words.specs.Text.{IsStrictText, pad}
use Rattle.tinystr_packed.specs.Reading.{entries_of, table_of}
use Rattle.tinystr_hashed.specs.Reading.{IsHashed, RefusesHashed, hashed_table_of}
use Rattle.tinystr_hashed.specs.declared.text_map.HashedTextMapError.{HashedTextMapError}
use Rattle.tinystr_hashed.specs.declared.text_map.HashedTextMapError.TheVariants.{Keys, Values, Count}

-- the keys are those of a hashed table, and the values are texts of at most m bytes; the bytes of the values are the padded
-- values, joined
pub record AreHashedTexts (entries : List (List ℕ × List ℕ)) (keys values : List ℕ) (n m : ℕ) : Type 0 where
  pub hashed : IsHashed (keys_of entries) keys n
  pub strict_values : All (λ v. IsStrictText v m) (values_of entries)
  pub joined_values : values ≡ flat_map (λ v. pad v m) (values_of entries)

-- the keys aren't a hashed table, for this fault; or they are, and the values aren't packed, for this fault; or both are,
-- and their numbers differ
abbrev pub RefusesHashedTextMap : HashedTextMapError → List ℕ → List ℕ → ℕ → ℕ → Type 0
RefusesHashedTextMap (Keys fault) keys values n m = RefusesHashed fault keys n
RefusesHashedTextMap (Values fault) keys values n m =
    ((texts : List (List ℕ)) × IsHashed texts keys n) × RefusesRecords fault values m
RefusesHashedTextMap (Count count len) keys values n m = (texts : List (List ℕ)) × IsHashed texts keys n
    × (packed : IsPacked values m) × (count ≡ length texts) × (len ≡ length packed.texts) × (count ≢ len)

-- each key with its text, computed
abbrev pub hashed_text_map_of : ℕ → ℕ → List ℕ → List ℕ → Option (List (List ℕ × List ℕ))
hashed_text_map_of n m keys values =
    option_and_then (λ ks. option_and_then (entries_of ks) (table_of m values)) (hashed_table_of n keys)
