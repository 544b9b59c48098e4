-- Maps whose keys are a hashed table.
use Rattle.std.proofs.Common.{List, ap, length, refl, sym, ℕ, ◌*◌, ◌<◌, ◌∙◌, ◌≡◌, ◌≢◌}
use Rattle.std.specs.List.{zip}
use Rattle.std.specs.Map.{keys_of, values_of}
use Rattle.std.specs.Simd.{first_chunks}
use Rattle.std.proofs.lemmas.Map.Entries.{length-keys_of, length-values_of}
use Rattle.std.proofs.lemmas.Map.Made.{keys_of-zip, IsDistinct-from_AllPairs}
use Rattle.std.proofs.lemmas.Slice.Zip.{seconds-zip}
use Rattle.tinystr_words.proofs.Reading.Records.{AllStrict, length-first_chunks}
use Rattle.tinystr_packed.proofs.PackedMaps.{All-first_chunks, Entries, flat_map-first_chunks, length-same, get-zip_absent, get-zip, option_copied-item, same-Decides}
use Rattle.tinystr_packed.proofs.PackedTexts.{packed, packed_injective}
use Rattle.tinystr_hashed.specs.Map.{AreHashed}
use Rattle.tinystr_hashed.specs.Reading.{IsHashed}
use Rattle.tinystr_hashed.specs.TextMap.{AreHashedTexts}
use Rattle.tinystr_hashed.proofs.Placed.{same_texts}

-- keys, and m bytes for each
pub AreHashed-new : (ks vs : List (List ℕ)) (keys values : List ℕ) (n m k : ℕ) → IsHashed ks keys n → length values ≡ k * m → k ≡ length ks → vs ≡ first_chunks m k values → AreHashed (zip ks vs) keys values n m
AreHashed-new ks vs keys values n m k hashed long count is =
    let same : length vs ≡ length ks = rw is (length-first_chunks m k values ∙ count) in
    let ks_are = keys_of-zip ks vs same in
    let vs_are = seconds-zip ks vs same in
    record {
      hashed = rw ks_are hashed;
      long = rw (vs_are, is) (All-first_chunks m k values long);
      joined_values = rw (vs_are, is) (sym (flat_map-first_chunks m k values long));
    }

-- the keys of entries are those of the bytes
same_keys : (ks us : List (List ℕ)) (keys : List ℕ) (n : ℕ) → 0 < n → IsHashed ks keys n → IsHashed us keys n → us ≡ ks
same_keys ks us keys n some h k = same_texts ks us keys n some h.strict h.joined k

-- of another number of bytes there are no entries
pub unmatched-no_entries : (ks : List (List ℕ)) (keys values : List ℕ) (n m : ℕ) → 0 < n → IsHashed ks keys n → length values ≢ length ks * m → ¬ ((es : Entries) × AreHashed es keys values n m)
unmatched-no_entries ks keys values n m some hashed other found =
    let es = found.0 in
    let ks_are = same_keys ks (keys_of es) keys n some hashed found.1.hashed in
    let long : length values ≡ length (keys_of es) * m = rw (found.1.joined_values, length-same (values_of es) m found.1.long, length-values_of es, length-keys_of es) refl in
    other (rw (← ks_are) long)

-- keys, and a text for each
pub AreHashedTexts-new : (ks vs : List (List ℕ)) (keys values : List ℕ) (n m : ℕ) → IsHashed ks keys n → AllStrict m vs → values ≡ packed m vs → length vs ≡ length ks → AreHashedTexts (zip ks vs) keys values n m
AreHashedTexts-new ks vs keys values n m hashed strict joined same =
    let ks_are = keys_of-zip ks vs same in
    let vs_are = seconds-zip ks vs same in
    record { hashed = rw ks_are hashed; strict_values = rw vs_are strict; joined_values = rw vs_are joined }

pub uneven-no_entries : (ks vs : List (List ℕ)) (keys values : List ℕ) (n m : ℕ) → 0 < n → 0 < m → IsHashed ks keys n → AllStrict m vs → values ≡ packed m vs → length vs ≢ length ks
    → ¬ ((es : Entries) × AreHashedTexts es keys values n m)
uneven-no_entries ks vs keys values n m some some_value hashed strict joined other found =
    let es = found.0 in
    let ks_are = same_keys ks (keys_of es) keys n some hashed found.1.hashed in
    let vs_are = packed_injective m (values_of es) vs some_value found.1.strict_values strict (sym found.1.joined_values ∙ joined) in
    other (ap (λ (l : List (List ℕ)). length l) (sym vs_are) ∙ length-values_of es ∙ sym (length-keys_of es) ∙ ap (λ (l : List (List ℕ)). length l) ks_are)

pub ruleset absent_keys = (get-zip_absent)

pub ruleset lookups = (IsDistinct-from_AllPairs, keys_of-zip, get-zip, get-zip_absent, option_copied-item, same-Decides)
