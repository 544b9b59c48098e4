-- What the exports answer of packed records and maps.
use Rattle.std.specs.Prelude.{◌≡◌, ◌≢◌, ◌↔◌, ℕ, ◌==◌, ◌+◌, ◌/◌, ◌<◌, ◌≤◌, Bool, ◌||◌, IsTrue, List, length, take, drop, filter, nat_eq, slice_index_or, Result, IfOk, IfErr}
use Rattle.std.specs.List.{starts_with}
use Rattle.tinystr.specs.Records.{RefusesRecords}
use Rattle.tinystr.specs.declared.ule.UleError.{UleError}
use Rattle.tinystr_packed.specs.Map.{ArePacked, RefusesMap}
use Rattle.tinystr_packed.specs.Rising.{text_at, ArePackedRising, IsFirstFall, IsFirstNotBelow, IsSearched}
use Rattle.tinystr_packed.specs.declared.map.MapError.{MapError}
use Rattle.tinystr_words.specs.Packed.{IsPacked}
use Rattle.tinystr_words.specs.Reading.{fault_in}
use Rattle.tinystr_words.specs.Text.{IsStrictText}
use Rattle.tinystr_c.specs.Codes.{OK, NO_ROOM, NOT_RISING, success, failure, fault_answer, no_range, records_answer, map_answer, search_answer}
use Rattle.tinystr_c.specs.declared.answer.TinystrResult.{TinystrResult}
use Rattle.tinystr_c.specs.declared.answer.TinystrRange.{TinystrRange}

-- the capacities of records
abbrev pub is_capacity : ℕ → Bool
is_capacity n = n == 2 || n == 3 || n == 4 || n == 8 || n == 16

-- n is a capacity
abbrev pub IsCapacity : ℕ → Type 0
IsCapacity n = IsTrue (is_capacity n)

-- and the sizes of a map's values
abbrev pub is_value_size : ℕ → Bool
is_value_size m = m == 1 || m == 2 || m == 4 || m == 8

-- m is such a size
abbrev pub IsValueSize : ℕ → Type 0
IsValueSize m = IsTrue (is_value_size m)

-- the number of records, or the fault
-- e.g. of 62 00 61 00 at 2 it is success 2
pub record ChecksTable (r : TinystrResult) (bytes : List ℕ) (n : ℕ) : Type 0 where
  pub accepted : (r.code ≡ OK) ↔ IsPacked bytes n
  pub count : r.code ≡ OK → r ≡ success (length bytes / n)
  pub fault : r.code ≢ OK → (e : UleError) × RefusesRecords e bytes n × (r ≡ records_answer e)

-- the number of records; or the fault; or, where there is none, the first that isn't above the one before it
-- e.g. of 62 00 61 00 at 2 it is failure NOT_RISING 1
pub record ChecksSorted (r : TinystrResult) (bytes : List ℕ) (n : ℕ) : Type 0 where
  pub accepted : (r.code ≡ OK) ↔ ((texts : List (List ℕ)) × ArePackedRising texts bytes n)
  pub count : r.code ≡ OK → r ≡ success (length bytes / n)
  pub fault : r.code ≢ OK → r.code ≢ NOT_RISING → (e : UleError) × RefusesRecords e bytes n × (r ≡ records_answer e)
  pub falls : r.code ≡ NOT_RISING → (packed : IsPacked bytes n) × (index : ℕ) × IsFirstFall packed.texts index × (r ≡ failure NOT_RISING index)

-- the number of entries, or the fault: of the keys, then of their order, then of the values
pub record ChecksMap (r : TinystrResult) (keys values : List ℕ) (n m : ℕ) : Type 0 where
  pub accepted : (r.code ≡ OK) ↔ ((entries : List (List ℕ × List ℕ)) × ArePacked entries keys values n m)
  pub count : r.code ≡ OK → r ≡ success (length keys / n)
  pub fault : r.code ≢ OK → (e : MapError) × RefusesMap e keys values n m × (r ≡ map_answer e)

-- the key is rejected; or the answer is an index or a place in the bytes, whatever they are, and where they are packed
-- records that are strictly ascending, it is the key's
-- e.g. of 61 00 63 00 and "b" at 2 it is failure NOT_FOUND 1
pub record Searches (r : TinystrResult) (bytes key : List ℕ) (n : ℕ) : Type 0 where
  pub refused : ¬ IsStrictText key n → r ≡ fault_answer (fault_in n key) key
  pub answered : IsStrictText key n → (s : Result ℕ ℕ) × (r ≡ search_answer s)
      × IfOk s (λ index. index < length bytes / n) × IfErr s (λ place. place ≤ length bytes / n)
      × ((texts : List (List ℕ)) → ArePackedRising texts bytes n → IsSearched key texts s)

-- the keys are rejected, or they are packed and there are fewer places than keys, and nothing is changed; or each key
-- has its answer, and what is after the answers isn't changed
pub record AnswersEach (Answers : TinystrResult → List ℕ → Type 0) (r : TinystrResult) (old new : List TinystrResult) (keys : List ℕ) (n : ℕ) : Type 0 where
  pub refused : ¬ IsPacked keys n → (e : UleError) × RefusesRecords e keys n × (r ≡ records_answer e) × (new ≡ old)
  pub no_room : IsPacked keys n → length old < length keys / n → (r ≡ failure NO_ROOM (length keys / n)) × (new ≡ old)
  pub answered : (packed : IsPacked keys n) → length keys / n ≤ length old → (r ≡ success (length keys / n))
      × (length new ≡ length old)
      × ((i : ℕ) → i < length keys / n → Answers (slice_index_or new i (success 0)) (text_at packed.texts i))
      × (drop (length keys / n) new ≡ drop (length keys / n) old)

-- of each key an answer that Searches allows: where the bytes are packed records that are strictly ascending, there is one;
-- else any place inside them, so that the answer may differ from that of a search for the key alone
-- e.g. of 61 00 63 00 and the keys 63 00 62 00 at 2, success 1 and failure NOT_FOUND 1
abbrev pub SearchesEach : TinystrResult → List TinystrResult → List TinystrResult → List ℕ → List ℕ → ℕ → Type 0
SearchesEach r old new bytes keys n = AnswersEach (λ answer key. Searches answer bytes key n) r old new keys n

-- the beginning is rejected; or the answer is a range in the bytes, whatever they are, and where they are packed
-- records that are strictly ascending, it is that of the texts that begin so, from the beginning's own place on
-- e.g. of 61 00 63 00 and "b" at 2, no records from 1 on
pub record FindsPrefix (r : TinystrRange) (bytes beginning : List ℕ) (n : ℕ) : Type 0 where
  pub refused : ¬ IsStrictText beginning n → r ≡ no_range (fault_answer (fault_in n beginning) beginning)
  pub accepted : IsStrictText beginning n → (r.code ≡ OK) × (r.detail ≡ 0)
  pub inside : r.start + r.count ≤ length bytes / n
  pub start : IsStrictText beginning n → (texts : List (List ℕ)) → ArePackedRising texts bytes n → IsFirstNotBelow beginning texts r.start
  pub found : IsStrictText beginning n → (texts : List (List ℕ)) → ArePackedRising texts bytes n →
      take r.count (drop r.start texts) ≡ filter (λ t. starts_with nat_eq t beginning) texts
