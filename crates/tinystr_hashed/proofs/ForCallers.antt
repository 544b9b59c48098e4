-- What a caller may cite of hashed tables and maps.
use Rattle.std.proofs.Common.{IsTrue, List, ap, length, sym, ℕ, ◌<◌, ◌↔◌, ◌∙◌, ◌≡◌}
use Rattle.std.specs.Map.{keys_of, values_of}
use Rattle.std.proofs.lemmas.Map.Entries.{length-keys_of, length-values_of}
use Rattle.tinystr_packed.proofs.MapBytes.{same_entries, same_values}
use Rattle.tinystr_packed.proofs.PackedTexts.{packed_injective}
use Rattle.tinystr_hashed.specs.Map.{AreHashed}
use Rattle.tinystr_hashed.specs.Reading.{IsHashed, is_hashed}
use Rattle.tinystr_hashed.specs.TextMap.{AreHashedTexts}
use Rattle.tinystr_hashed.proofs.Placed.{is_hashed-Decides, same_texts}

-- one list of texts
pub hashed_once : (n : ℕ) (texts others : List (List ℕ)) (bytes : List ℕ) → 0 < n → IsHashed texts bytes n → IsHashed others bytes n → texts ≡ others
hashed_once n ts us bytes some h k = same_texts us ts bytes n some k.strict k.joined h

-- one map
pub hashed_map_once : (entries others : List (List ℕ × List ℕ)) (keys values : List ℕ) (n m : ℕ) → 0 < n → AreHashed entries keys values n m → AreHashed others keys values n m → entries ≡ others
hashed_map_once es fs keys values n m some h k =
    let ks = hashed_once n (keys_of es) (keys_of fs) keys some h.hashed k.hashed in
    let same : length (values_of es) ≡ length (values_of fs) =
    length-values_of es ∙ sym (length-keys_of es) ∙ ap (λ (l : List (List ℕ)). length l) ks ∙ length-keys_of fs ∙ sym (length-values_of fs) in
    same_entries es fs ks (same_values (values_of es) (values_of fs) m h.long k.long same (sym h.joined_values ∙ k.joined_values))

-- one map of texts
pub hashed_text_map_once : (entries others : List (List ℕ × List ℕ)) (keys values : List ℕ) (n m : ℕ) → 0 < n → 0 < m → AreHashedTexts entries keys values n m → AreHashedTexts others keys values n m → entries ≡ others
hashed_text_map_once es fs keys values n m some some_value h k =
    same_entries es fs (hashed_once n (keys_of es) (keys_of fs) keys some h.hashed k.hashed)
    (packed_injective m (values_of es) (values_of fs) some_value h.strict_values k.strict_values (sym h.joined_values ∙ k.joined_values))

-- the test
pub test_decides : (bytes : List ℕ) (n : ℕ) → 0 < n → IsTrue (is_hashed n bytes) ↔ ((texts : List (List ℕ)) × IsHashed texts bytes n)
test_decides bytes n some = is_hashed-Decides bytes n some
