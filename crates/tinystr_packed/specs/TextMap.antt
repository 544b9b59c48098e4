-- Packed keys, and packed texts as their values.
use Rattle.std.specs.Prelude.{◌≡◌, ◌≢◌, ℕ, List, length, All}
use Rattle.std.specs.List.{flat_map}
use Rattle.std.specs.Map.{keys_of, values_of}
use Rattle.tinystr.specs.Records.{RefusesRecords}
use Rattle.tinystr_words.specs.Packed.{IsPacked}
use Rattle.tinystr_words.specs.Text.{IsStrictText, pad}
use Rattle.tinystr_packed.specs.Rising.{ArePackedRising}
use Rattle.tinystr_packed.specs.Sorting.{RefusesSorted}
use Rattle.tinystr_packed.specs.declared.text_map.TextMapError.{TextMapError}
use Rattle.tinystr_packed.specs.declared.text_map.TextMapError.TheVariants.{Keys, Values, Count}

-- the keys are strictly ascending texts of at most n bytes, and the values are texts of at most m bytes; the bytes are the padded
-- keys, joined, and the padded values, joined
-- e.g. of "a" with "xy" at 2 and 3 they are 61 00 and 78 79 00
pub record ArePackedTexts (entries : List (List ℕ × List ℕ)) (keys values : List ℕ) (n m : ℕ) : Type 0 where
  pub rising_keys : ArePackedRising (keys_of entries) keys n
  pub strict_values : All (λ v. IsStrictText v m) (values_of entries)
  pub joined_values : values ≡ flat_map (λ v. pad v m) (values_of entries)

-- the keys aren't those of a sorted table, for this fault; or they are, and the values aren't packed, for this fault; or
-- both are, and their numbers differ
-- e.g. Count 1 2 of 61 00 and 78 79 at 2 and 1
abbrev pub RefusesTextMap : TextMapError → List ℕ → List ℕ → ℕ → ℕ → Type 0
RefusesTextMap (Keys fault) keys values n m = RefusesSorted fault keys n
RefusesTextMap (Values fault) keys values n m = ((texts : List (List ℕ)) × ArePackedRising texts keys n) × RefusesRecords fault values m
RefusesTextMap (Count count len) keys values n m = (texts : List (List ℕ)) × ArePackedRising texts keys n
    × (packed : IsPacked values m) × (count ≡ length texts) × (len ≡ length packed.texts) × (count ≢ len)
