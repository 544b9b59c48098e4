-- Packed keys and values, seen as std sees a map: by its entries, in the keys' order.
use Rattle.std.specs.Prelude.{◌≡◌, ◌≢◌, ℕ, ◌*◌, List, length, All}
use Rattle.std.specs.BTreeMap.{is_at}
use Rattle.std.specs.Cmp.Lexicographic.{slice_cmp}
use Rattle.std.specs.List.{flat_map}
use Rattle.std.specs.Map.{keys_of, values_of, lookup}
use Rattle.std.specs.Ordering.{nat_cmp}
use Rattle.std.specs.declared.option.Option.{Option}
use Rattle.tinystr.specs.Records.{RefusesRecords}
use Rattle.tinystr_words.specs.Packed.{IsPacked}
use Rattle.tinystr_words.specs.Text.{IsStrictText, pad}
use Rattle.tinystr_packed.specs.Rising.{IsRising, IsFirstFall}
use Rattle.tinystr_packed.specs.declared.map.MapError.{MapError}
use Rattle.tinystr_packed.specs.declared.map.MapError.TheVariants.{Keys, Order, Values}

-- the value of the first entry with a key; of a `BTreeMap` with these entries, what std's `get (slice_cmp nat_cmp)` is
-- e.g. of "a" with 07 it is Some of 07 for "a", and None for "b"
abbrev pub get : List (List ℕ × List ℕ) → List ℕ → Option (List ℕ)
get entries key = lookup (is_at (slice_cmp nat_cmp key)) entries

-- the keys are strictly ascending texts of at most n bytes, and each value has m bytes; the bytes are the padded keys,
-- joined, and the values, joined
-- e.g. of "a" with 07 at 2 and 1 they are 61 00 and 07
pub record ArePacked (entries : List (List ℕ × List ℕ)) (keys values : List ℕ) (n m : ℕ) : Type 0 where
  pub strict : All (λ t. IsStrictText t n) (keys_of entries)
  pub rising : IsRising (keys_of entries)
  pub long : All (λ v. length v ≡ m) (values_of entries)
  pub joined_keys : keys ≡ flat_map (λ t. pad t n) (keys_of entries)
  pub joined_values : values ≡ flat_map (λ v. v) (values_of entries)

-- the keys aren't packed, for this fault; or they are, and this is the first that isn't above the one before it; or they
-- are strictly ascending, and there aren't m bytes for each
-- e.g. Values 1 2 of 61 00 and 07 08 at 2 and 1
abbrev pub RefusesMap : MapError → List ℕ → List ℕ → ℕ → ℕ → Type 0
RefusesMap (Keys fault) keys values n m = RefusesRecords fault keys n
RefusesMap (Order fault) keys values n m = (packed : IsPacked keys n) × IsFirstFall packed.texts fault.index
RefusesMap (Values count len) keys values n m = (packed : IsPacked keys n) × IsRising packed.texts
    × (count ≡ length packed.texts) × (len ≡ length values) × (len ≢ count * m)
