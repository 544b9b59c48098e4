-- Maps whose keys and values are packed texts.
use Rattle.std.proofs.Common.{◌≡◌, ◌≢◌, ℕ, ◌<◌, List, length, sym, ap, ◌∙◌}
use Rattle.std.specs.List.{zip}
use Rattle.std.specs.Map.{keys_of, values_of}
use Rattle.std.proofs.lemmas.Map.Entries.{length-keys_of, length-values_of}
use Rattle.std.proofs.lemmas.Map.Made.{keys_of-zip}
use Rattle.std.proofs.lemmas.Slice.Zip.{seconds-zip}
use Rattle.tinystr_words.proofs.Reading.Records.{AllStrict}
use Rattle.tinystr_packed.proofs.MapBytes.{same_entries}
use Rattle.tinystr_packed.proofs.PackedTexts.{packed, packed_injective}
use Rattle.tinystr_packed.specs.Rising.{ArePackedRising}
use Rattle.tinystr_packed.specs.TextMap.{ArePackedTexts}

-- the same number of values and keys
pub ArePackedTexts-new : (ks vs : List (List ℕ)) (keys values : List ℕ) (n m : ℕ) → ArePackedRising ks keys n → AllStrict m vs → values ≡ packed m vs → length vs ≡ length ks → ArePackedTexts (zip ks vs) keys values n m
ArePackedTexts-new ks vs keys values n m rising strict joined same =
    let ks_are = keys_of-zip ks vs same in
    let vs_are = seconds-zip ks vs same in
    record { rising_keys = rw ks_are rising; strict_values = rw vs_are strict; joined_values = rw vs_are joined }

-- of others there are no entries
pub uneven-no_entries : (ks vs : List (List ℕ)) (keys values : List ℕ) (n m : ℕ) → 0 < n → 0 < m → ArePackedRising ks keys n → AllStrict m vs → values ≡ packed m vs → length vs ≢ length ks
    → ¬ ((es : List (List ℕ × List ℕ)) × ArePackedTexts es keys values n m)
uneven-no_entries ks vs keys values n m some some_value rising strict joined other found =
    let es = found.0 in
    let ks_are = packed_injective n (keys_of es) ks some found.1.rising_keys.strict rising.strict (sym found.1.rising_keys.joined ∙ rising.joined) in
    let vs_are = packed_injective m (values_of es) vs some_value found.1.strict_values strict (sym found.1.joined_values ∙ joined) in
    other (ap (λ (l : List (List ℕ)). length l) (sym vs_are) ∙ length-values_of es ∙ sym (length-keys_of es) ∙ ap (λ (l : List (List ℕ)). length l) ks_are)

-- the bytes are those of one map
pub packed_texts_once : (es fs : List (List ℕ × List ℕ)) (keys values : List ℕ) (n m : ℕ) → 0 < n → 0 < m → ArePackedTexts es keys values n m → ArePackedTexts fs keys values n m → es ≡ fs
packed_texts_once es fs keys values n m some some_value h k =
    same_entries es fs (packed_injective n (keys_of es) (keys_of fs) some h.rising_keys.strict k.rising_keys.strict (sym h.rising_keys.joined ∙ k.rising_keys.joined))
    (packed_injective m (values_of es) (values_of fs) some_value h.strict_values k.strict_values (sym h.joined_values ∙ k.joined_values))
