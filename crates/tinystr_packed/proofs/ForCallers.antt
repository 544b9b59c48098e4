-- The laws as lemmas over plain variables, for callers: clause `c` of the law `LAW` of src/laws.rt is the lemma `LAW_c`, and
-- the set `LAW` holds the lemmas of a law. The proofs of `laws` cite them, and they keep their names.
use Rattle.std.proofs.Common.{◌≡◌, ◌↔◌, ◌<◌, ◌*◌, ℕ, All, IsTrue, List, length, refl}
use Rattle.std.specs.List.{flat_map}
use Rattle.std.specs.Map.{keys_of, values_of}
use Rattle.std.proofs.lemmas.Map.Entries.{length-keys_of, length-values_of}
use Rattle.tinystr_words.proofs.Reading.Records.{length-joined}
use Rattle.tinystr_words.specs.Text.{IsStrictText, pad}
use Rattle.tinystr_packed.specs.Map.{ArePacked}
use Rattle.tinystr_packed.specs.Reading.{are_packed}
use Rattle.tinystr_packed.proofs.Computed.{are_packed-Decides}
use Rattle.tinystr_packed.proofs.PackedMaps.{length-ArePacked}
use Rattle.tinystr_packed.proofs.PackedTexts.{packed_injective}
use Rattle.tinystr_packed.specs.TextMap.{ArePackedTexts}
pub use Rattle.tinystr_packed.proofs.Computed.{is_rising-Decides as tests_decide_rising}
pub use Rattle.tinystr_packed.proofs.MapBytes.{packed_once as map_once}
pub use Rattle.tinystr_packed.proofs.PackedTextMaps.{packed_texts_once as text_map_once}
pub use Rattle.tinystr_packed.proofs.Searches.{result_ok-search_result as search_found_position, IsOk-search_result as search_found_exact, search_result-at as search_found_found, search_result-own as search_found_index, search_result-place as search_found_place}

pub texts_once : (n : ℕ) (ts ss : List (List ℕ)) → 0 < n → All (λ t. IsStrictText t n) ts → All (λ t. IsStrictText t n) ss → flat_map (λ t. pad t n) ts ≡ flat_map (λ t. pad t n) ss → ts ≡ ss
texts_once = packed_injective

pub map_len_keys : (entries : List (List ℕ × List ℕ)) (keys values : List ℕ) (n m : ℕ) → ArePacked entries keys values n m → length keys ≡ length entries * n
map_len_keys entries keys values n m h = rw (h.joined_keys, length-joined n (keys_of entries) h.strict, length-keys_of entries) refl

pub map_len_values : (entries : List (List ℕ × List ℕ)) (keys values : List ℕ) (n m : ℕ) → ArePacked entries keys values n m → length values ≡ length entries * m
map_len_values entries keys values n m h = rw (length-ArePacked entries keys values n m h, length-keys_of entries) refl

pub ruleset map_len = (map_len_keys, map_len_values)

pub ruleset search_found = (search_found_position, search_found_exact, search_found_found, search_found_index, search_found_place)

pub text_map_len_keys : (entries : List (List ℕ × List ℕ)) (keys values : List ℕ) (n m : ℕ) → ArePackedTexts entries keys values n m → length keys ≡ length entries * n
text_map_len_keys entries keys values n m h = rw (h.rising_keys.joined, length-joined n (keys_of entries) h.rising_keys.strict, length-keys_of entries) refl

pub text_map_len_values : (entries : List (List ℕ × List ℕ)) (keys values : List ℕ) (n m : ℕ) → ArePackedTexts entries keys values n m → length values ≡ length entries * m
text_map_len_values entries keys values n m h = rw (h.joined_values, length-joined m (values_of entries) h.strict_values, length-values_of entries) refl

pub ruleset text_map_len = (text_map_len_keys, text_map_len_values)

pub tests_decide_map : (keys values : List ℕ) (n m : ℕ) → 0 < n → 0 < m → IsTrue (are_packed n m keys values) ↔ ((entries : List (List ℕ × List ℕ)) × ArePacked entries keys values n m)
tests_decide_map keys values n m some more = are_packed-Decides n m keys values some more

pub ruleset tests_decide = (tests_decide_rising, tests_decide_map)
