-- What the exports answer of hashed tables.
use Rattle.std.specs.Prelude.{◌≡◌, ◌≢◌, ◌↔◌, ℕ, ◌/◌, ◌<◌, List, length, position, Option, IfSome}
use Rattle.std.specs.Str.{bytes_eq}
use Rattle.tinystr_hashed.specs.Map.{AreHashed, RefusesHashedMap}
use Rattle.tinystr_hashed.specs.Reading.{IsHashed, RefusesHashed, records_in}
use Rattle.tinystr_hashed.specs.declared.map.HashedMapError.{HashedMapError}
use Rattle.tinystr_hashed.specs.declared.map.HashedMapError.TheVariants.{Keys, Values}
use Rattle.tinystr_hashed.specs.declared.table.HashedError.{HashedError}
use Rattle.tinystr_words.specs.Reading.{fault_in}
use Rattle.tinystr_words.specs.Text.{IsStrictText}
use Rattle.tinystr_c.specs.Codes.{OK, BAD_VALUES, success, failure, fault_answer, hashed_answer, position_answer}
use Rattle.tinystr_c.specs.Tables.{AnswersEach}
use Rattle.tinystr_c.specs.declared.answer.TinystrResult.{TinystrResult}

-- the number of texts, or the fault
-- e.g. of no bytes it is failure BAD_HEADER 0
pub record ChecksHashed (r : TinystrResult) (bytes : List ℕ) (n : ℕ) : Type 0 where
  pub accepted : (r.code ≡ OK) ↔ ((texts : List (List ℕ)) × IsHashed texts bytes n)
  pub count : r.code ≡ OK → r ≡ success (length (records_in bytes) / n)
  pub fault : r.code ≢ OK → (e : HashedError) × RefusesHashed e bytes n × (r ≡ hashed_answer e)

-- the key is rejected; or the answer is an index in the records, or that the key isn't there, whatever the bytes are, and
-- where they are a hashed table, it is the key's
-- e.g. of a table of "EUR" alone and "EUR" at 3 it is success 0
pub record SearchesHashed (r : TinystrResult) (bytes key : List ℕ) (n : ℕ) : Type 0 where
  pub refused : ¬ IsStrictText key n → r ≡ fault_answer (fault_in n key) key
  pub answered : IsStrictText key n → (found : Option ℕ) × (r ≡ position_answer found)
      × IfSome found (λ index. index < length (records_in bytes) / n)
      × ((texts : List (List ℕ)) → IsHashed texts bytes n → found ≡ position (bytes_eq key) texts)

-- of each key the answer of a search for it
abbrev pub SearchesHashedEach : TinystrResult → List TinystrResult → List TinystrResult → List ℕ → List ℕ → ℕ → Type 0
SearchesHashedEach r old new bytes keys n = AnswersEach (λ answer key. SearchesHashed answer bytes key n) r old new keys n

-- why they aren't a hashed map: the fault of the keys, or the number of the values' bytes
-- e.g. of Values 1 2 it is failure BAD_VALUES 2
abbrev pub hashed_map_answer : HashedMapError → TinystrResult
hashed_map_answer (Keys fault) = hashed_answer fault
hashed_map_answer (Values count len) = failure BAD_VALUES len

-- the number of entries, or the fault: of the keys, then of the values
pub record ChecksHashedMap (r : TinystrResult) (keys values : List ℕ) (n m : ℕ) : Type 0 where
  pub accepted : (r.code ≡ OK) ↔ ((entries : List (List ℕ × List ℕ)) × AreHashed entries keys values n m)
  pub count : r.code ≡ OK → r ≡ success (length (records_in keys) / n)
  pub fault : r.code ≢ OK → (e : HashedMapError) × RefusesHashedMap e keys values n m × (r ≡ hashed_map_answer e)
