-- The tests of packed and of strictly ascending texts compute what tables and maps accept, and what these are.
use Rattle.std.proofs.Common.{◌≡◌, ℕ, suc, zero, ◌+◌, ◌<◌, ◌*◌, ◌/◌, ◌==◌, ◌&&◌, false, List, [], ◌∷◌, length, zip, Some, None, refl, ap, ◌∙◌, arith}
use Rattle.std.specs.Bool.{Decides, one_answer}
use Rattle.std.specs.Map.{keys_of}
use Rattle.std.specs.Ordering.{is_lt}
use Rattle.std.specs.declared.cmp.Ordering.{Ordering}
use Rattle.std.specs.declared.cmp.Ordering.TheVariants.{Less}
use Rattle.std.proofs.Math.Nat.{mul-div_cancel}
use Rattle.std.proofs.lemmas.Bool.Decides.{Decides-and, Decides-eqb, Decides-like}
use Rattle.tinystr_words.specs.Packed.{IsPacked, is_packed, records_of}
use Rattle.tinystr_words.proofs.Reading.Records.{AllStrict}
use Rattle.tinystr_words.proofs.Reading.Decided.{is_packed-Decides}
use Rattle.tinystr_packed.specs.Map.{ArePacked}
use Rattle.tinystr_packed.specs.Reading.{are_packed, map_of, sorted_of, table_of, texts_of}
use Rattle.tinystr_packed.specs.Rising.{IsRising, is_rising, order}
use Rattle.tinystr_packed.proofs.PackedMaps.{ArePacked-new, Entries, length-ArePacked}
use Rattle.tinystr_packed.proofs.PackedTexts.{packed, texts_of-packed}
use Rattle.tinystr_packed.proofs.RisingTexts.{Less-from_is_lt}

-- ---- strictly ascending texts

IsRising-cons : (t s : List ℕ) (ts : List (List ℕ)) → order t s ≡ Less → IsRising (s ∷ ts) → IsRising (t ∷ s ∷ ts)
IsRising-cons t s ts first rest zero inside = first
IsRising-cons t s ts first rest (suc k) inside = let next : suc k + 1 ≡ suc (k + 1) = omega arith in rw next (rest k (omega arith))

IsRising-tail : (t : List ℕ) (ts : List (List ℕ)) → IsRising (t ∷ ts) → IsRising ts
IsRising-tail t ts up k inside = let next : suc k + 1 ≡ suc (k + 1) = omega arith in rw next at (up (suc k) (omega arith))

is_lt-Decides : (o : Ordering) → Decides (is_lt o) (o ≡ Less)
is_lt-Decides o = (λ yes. Less-from_is_lt o yes, λ e. rw e refl)

-- the test decides
pub is_rising-Decides : (ts : List (List ℕ)) → Decides (is_rising ts) (IsRising ts)
is_rising-Decides [] = (λ _ k inside. absurd (omega arith), λ _. refl)
is_rising-Decides (t ∷ []) = (λ _ k inside. absurd (omega arith), λ _. refl)
is_rising-Decides (t ∷ s ∷ ts) =
    Decides-like (is_rising (t ∷ s ∷ ts)) (λ h. IsRising-cons t s ts h.0 h.1) (λ up. (up 0 (omega arith), IsRising-tail t (s ∷ ts) up))
    (Decides-and (is_lt (order t s)) (is_rising (s ∷ ts)) (is_lt-Decides (order t s)) (is_rising-Decides (s ∷ ts)))

-- ---- a table

-- the texts of packed bytes are those that were packed
texts_of-joined : (bytes : List ℕ) (ts : List (List ℕ)) (n : ℕ) → 0 < n → AllStrict n ts → bytes ≡ packed n ts → texts_of n bytes ≡ ts
texts_of-joined bytes ts n some strict joined = ap (λ (l : List ℕ). texts_of n l) joined ∙ texts_of-packed n ts some strict

-- packed bytes are the table of their texts
pub table_of-packed : (bytes : List ℕ) (ts : List (List ℕ)) (n : ℕ) → 0 < n → IsPacked bytes n → ts ≡ texts_of n bytes → Some ts ≡ table_of n bytes
table_of-packed bytes ts n some packed same = rw (same, (is_packed-Decides bytes n some).1 packed) refl

-- and others are none
pub table_of-other : (bytes : List ℕ) (n : ℕ) → 0 < n → ¬ IsPacked bytes n → table_of n bytes ≡ None
table_of-other bytes n some other =
    let fails : is_packed bytes n ≡ false = one_answer (is_packed bytes n) false (is_packed-Decides bytes n some) ((λ yes. cc), λ packed. absurd (other packed)) in
    rw fails refl

-- ---- a sorted table

-- strictly ascending texts are a sorted table
pub sorted_of-rising : (ts : List (List ℕ)) → IsRising ts → Some ts ≡ sorted_of ts
sorted_of-rising ts up = rw ((is_rising-Decides ts).1 up) refl

-- and others aren't
pub sorted_of-other : (ts : List (List ℕ)) → ¬ IsRising ts → None ≡ sorted_of ts
sorted_of-other ts other =
    let fails : is_rising ts ≡ false = one_answer (is_rising ts) false (is_rising-Decides ts) ((λ yes. cc), λ up. absurd (other up)) in
    rw fails refl

-- ---- a map

-- keys that are packed and strictly ascending, with m bytes for each
ArePacked-zip : (keys values : List ℕ) (n m : ℕ) → 0 < n → 0 < m → IsPacked keys n → IsRising (texts_of n keys) → length values ≡ length (texts_of n keys) * m
    → ArePacked (zip (texts_of n keys) (records_of m values)) keys values n m
ArePacked-zip keys values n m some more h up long =
    let texts = texts_of-joined keys h.texts n some h.each h.joined in
    let count : length values / m ≡ length (texts_of n keys) = rw long (mul-div_cancel (length (texts_of n keys)) more) in
    ArePacked-new (texts_of n keys) (records_of m values) keys values n m (length values / m) (record { strict = rw texts h.each; joined = rw texts h.joined; rising = up }) (rw count long) count refl

-- the keys of entries are packed and strictly ascending, with m bytes for each
IsPacked-keys : (es : Entries) (keys values : List ℕ) (n m : ℕ) → 0 < n → ArePacked es keys values n m → (IsPacked keys n × IsRising (texts_of n keys)) × (length values ≡ length (texts_of n keys) * m)
IsPacked-keys es keys values n m some h =
    let texts = texts_of-joined keys (keys_of es) n some h.strict h.joined_keys in
    ((record { texts = keys_of es; each = h.strict; joined = h.joined_keys }, rw texts h.rising), rw texts (length-ArePacked es keys values n m h))

-- the bytes are those of some entries exactly if the test says so
pub are_packed-Decides : (n m : ℕ) (keys values : List ℕ) → 0 < n → 0 < m → Decides (are_packed n m keys values) ((es : Entries) × ArePacked es keys values n m)
are_packed-Decides n m keys values some more =
    Decides-like (are_packed n m keys values)
    (λ h. (zip (texts_of n keys) (records_of m values), ArePacked-zip keys values n m some more h.0.0 h.0.1 h.1))
    (λ found. IsPacked-keys found.0 keys values n m some found.1)
    (Decides-and (is_packed keys n && is_rising (texts_of n keys)) (length values == length (texts_of n keys) * m)
    (Decides-and (is_packed keys n) (is_rising (texts_of n keys)) (is_packed-Decides keys n some) (is_rising-Decides (texts_of n keys)))
    (Decides-eqb (length values) (length (texts_of n keys) * m)))

-- bytes of no entries are no map
pub map_of-other : (keys values : List ℕ) (n m : ℕ) → 0 < n → 0 < m → ¬ ((es : Entries) × ArePacked es keys values n m) → None ≡ map_of n m keys values
map_of-other keys values n m some more other =
    let fails : are_packed n m keys values ≡ false = one_answer (are_packed n m keys values) false (are_packed-Decides n m keys values some more) ((λ yes. cc), λ found. absurd (other found)) in
    rw fails refl

pub ruleset sorted_tables = (sorted_of-other, sorted_of-rising)

pub ruleset packed_tables = (table_of-other, table_of-packed)
