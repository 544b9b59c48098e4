-- Bytes are a hashed table exactly if their texts are in the order of one.
use Rattle.std.proofs.Common.{All, List, [], ap, arith, false, get_or, length, map, refl, suc, sym, ℕ, ◌∷◌, ◌&&◌, ◌*◌, ◌+◌, ◌<◌, ◌==◌, ◌^◌, ◌∙◌, ◌≡◌, ◌≢◌, ◌≤◌}
use Rattle.std.specs.Bool.{Decides, one_answer}
use Rattle.std.specs.List.{flat_map}
use Rattle.std.specs.Prelude.{nat_le}
use Rattle.std.specs.Option.{IfSome}
use Rattle.std.specs.declared.option.Option.{Option}
use Rattle.std.specs.declared.option.Option.TheVariants.{None, Some}
use Rattle.std.proofs.lemmas.Bool.Decides.{Decides-and, Decides-below_and, Decides-eqb, Decides-like, nat_tests}
use Rattle.std.proofs.lemmas.List.{get_or-map, length-map}
use Rattle.tinystr_words.specs.Packed.{IsPacked, is_packed}
use Rattle.tinystr_words.specs.Text.{IsPaddedText, pad, text_of}
use Rattle.std.proofs.Math.Nat.{suc-mul, le-mul_of_pos_right}
use Rattle.tinystr_words.proofs.Reading.Records.{AllStrict, length-joined}
use Rattle.tinystr_words.proofs.Reading.Decided.{is_packed-Decides}
use Rattle.tinystr_packed.specs.Reading.{texts_of}
use Rattle.tinystr_packed.specs.Rising.{text_at, is_rising, ArePackedRising, IsFirstFall, IsRising}
use Rattle.tinystr_packed.proofs.PackedTexts.{AllStrict-texts, packed, packed_injective, texts_of-packed}
use Rattle.tinystr_packed.proofs.Computed.{is_rising-Decides}
use Rattle.tinystr_packed.proofs.RisingTexts.{not_rising}
use Rattle.tinystr_packed.proofs.SortedRecords.{flat-records}
use Rattle.tinystr_hashed.specs.Hashing.{place_of, place_in, start_of, AreOrdered, ArePlaced, IsFirstMisplaced, IsFirstOutOfOrder}
use Rattle.tinystr_hashed.specs.Reading.{IsHashed, IsWhole, are_ordered, are_placed, hashed_table_of, hashed_texts, index_size, is_hashed, moves_of, pilots_of, place_by, records_in, seed_of, version_of}

-- ---- records and their texts

-- a text, padded, is its record
pad-record : (records ts : List (List ℕ)) (n i : ℕ) → All (λ raw. IsPaddedText raw n) records → map text_of records ≡ ts → i < length records → pad (text_at ts i) n ≡ get_or records i []
pad-record records ts n i h view inside =
    let raw : IsPaddedText (get_or records i []) n = h i [] inside in
    let text : text_at ts i ≡ text_of (get_or records i []) = rw (sym view) (get_or-map text_of records i [] [] inside) in
    rw text (sym raw.padded)

same-length : (records ts : List (List ℕ)) → map text_of records ≡ ts → length records ≡ length ts
same-length records ts view = sym (length-map records text_of) ∙ ap (λ (l : List (List ℕ)). length l) view

-- texts are at the places of their records
pub ArePlaced-texts : (records ts : List (List ℕ)) (pilots moves : List ℕ) (start n : ℕ) → All (λ raw. IsPaddedText raw n) records → map text_of records ≡ ts
    → ArePlaced (place_of start pilots moves (length records)) records → ArePlaced (place_in start pilots moves n (length ts)) ts
ArePlaced-texts records ts pilots moves start n h view placed i inside =
    let count = same-length records ts view in
    let here : i < length records = omega arith in
    rw (← count, pad-record records ts n i h view here) (placed i here)

pub misplaced-texts : (records ts : List (List ℕ)) (pilots moves : List ℕ) (start n i : ℕ) → All (λ raw. IsPaddedText raw n) records → map text_of records ≡ ts
    → IsFirstMisplaced (place_of start pilots moves (length records)) records i → IsFirstMisplaced (place_in start pilots moves n (length ts)) ts i
misplaced-texts records ts pilots moves start n i h view m =
    let count = same-length records ts view in record {
      inside = omega (arith, count, m.inside);
      misplaced = rw (← count, pad-record records ts n i h view m.inside) m.misplaced;
      before = λ k earlier. (let here : k < length records = omega (arith, m.inside) in rw (← count, pad-record records ts n k h view here) (m.before k earlier));
    }

-- records of strictly ascending texts are packed
pub ArePackedRising-records : (records ts : List (List ℕ)) (bytes : List ℕ) (n : ℕ) → All (λ raw. IsPaddedText raw n) records → map text_of records ≡ ts → bytes ≡ flat_map (λ x. x) records → IsRising ts → ArePackedRising ts bytes n
ArePackedRising-records records ts bytes n h view is up =
    record { strict = rw view at (AllStrict-texts records n h); joined = is ∙ flat-records records n h ∙ ap (λ (l : List (List ℕ)). packed n l) view; rising = up }

-- a record isn't longer than all
pub sized-record : (ts : List (List ℕ)) (bytes : List ℕ) (n : ℕ) → ts ≢ [] → AllStrict n ts → bytes ≡ packed n ts → length bytes < 2 ^ 63 → n < 2 ^ 63
sized-record [] bytes n some strict joined long = absurd (some refl)
sized-record (t ∷ ts) bytes n some strict joined long =
    let all : length bytes ≡ length (t ∷ ts) * n = ap (λ (l : List ℕ). length l) joined ∙ length-joined n (t ∷ ts) strict in
    let first : suc (length ts) * n ≡ length ts * n + n = suc-mul (length ts) n in
    omega (arith, all, first)

-- ---- the order of a table

pub AreOrdered-placed : (pilots : List ℕ) (place : List ℕ → ℕ) (ts : List (List ℕ)) → 0 < length pilots → ArePlaced place ts → AreOrdered pilots place ts
AreOrdered-placed pilots place ts some placed = record { placed = λ _. placed; rising = λ none. absurd (omega arith) }

pub AreOrdered-rising : (pilots : List ℕ) (place : List ℕ → ℕ) (ts : List (List ℕ)) → length pilots ≡ 0 → IsRising ts → AreOrdered pilots place ts
AreOrdered-rising pilots place ts none up = record { placed = λ some. absurd (omega arith); rising = λ _. up }

pub AreOrdered-none : (pilots : List ℕ) (place : List ℕ → ℕ) (ts : List (List ℕ)) → ts ≡ [] → AreOrdered pilots place ts
AreOrdered-none pilots place ts none = rw none (record { placed = λ some i inside. absurd (omega arith); rising = λ no_pilots k inside. absurd (omega arith) })

pub IsFirstOutOfOrder-misplaced : (pilots : List ℕ) (place : List ℕ → ℕ) (ts : List (List ℕ)) (i : ℕ) → 0 < length pilots → IsFirstMisplaced place ts i → IsFirstOutOfOrder pilots place ts i
IsFirstOutOfOrder-misplaced pilots place ts i some m = record { misplaced = λ _. m; falls = λ none. absurd (omega arith) }

pub IsFirstOutOfOrder-falls : (pilots : List ℕ) (place : List ℕ → ℕ) (ts : List (List ℕ)) (i : ℕ) → length pilots ≡ 0 → IsFirstFall ts i → IsFirstOutOfOrder pilots place ts i
IsFirstOutOfOrder-falls pilots place ts i none f = record { misplaced = λ some. absurd (omega arith); falls = λ _. f }

-- of records that have pilots
pub first-out_of_order : (records ts : List (List ℕ)) (pilots moves : List ℕ) (start n : ℕ) (found : Option ℕ) → 0 < length pilots → All (λ raw. IsPaddedText raw n) records → map text_of records ≡ ts
    → IfSome found (λ i. IsFirstMisplaced (place_of start pilots moves (length records)) records i) → IfSome found (λ i. IsFirstOutOfOrder pilots (place_in start pilots moves n (length ts)) ts i)
first-out_of_order records ts pilots moves start n None some h view m = tt
first-out_of_order records ts pilots moves start n (Some i) some h view m =
    IsFirstOutOfOrder-misplaced pilots (place_in start pilots moves n (length ts)) ts i some (misplaced-texts records ts pilots moves start n i h view m)

not_ordered : (pilots : List ℕ) (place : List ℕ → ℕ) (ts : List (List ℕ)) (i : ℕ) → IsFirstOutOfOrder pilots place ts i → ¬ AreOrdered pilots place ts
not_ordered [] place ts i out h = not_rising ts i (out.falls refl) (h.rising refl)
not_ordered (p ∷ ps) place ts i out h =
    let m = out.misplaced (omega arith) in
    m.misplaced (h.placed (omega arith) i m.inside)

-- ---- what the bytes are

pub IsHashed-new : (ts : List (List ℕ)) (bytes records pilots moves : List ℕ) (start n : ℕ) → IsWhole bytes → start ≡ start_of (seed_of bytes) → pilots ≡ pilots_of bytes → moves ≡ moves_of bytes → records ≡ records_in bytes
    → AllStrict n ts → records ≡ packed n ts → AreOrdered pilots (place_in start pilots moves n (length ts)) ts → IsHashed ts bytes n
IsHashed-new ts bytes records pilots moves start n whole e f g k strict joined ordered =
    record { whole = whole; strict = strict; joined = sym k ∙ joined; ordered = rw (e, f, g) at ordered }

-- no other texts are packed in the same bytes
pub same_texts : (ts us : List (List ℕ)) (bytes : List ℕ) (n : ℕ) → 0 < n → AllStrict n ts → records_in bytes ≡ packed n ts → IsHashed us bytes n → us ≡ ts
same_texts ts us bytes n some strict joined h = packed_injective n us ts some h.strict strict (sym h.joined ∙ joined)

-- texts that aren't in the order of a table
pub unordered-not_hashed : (ts : List (List ℕ)) (bytes : List ℕ) (n i : ℕ) → 0 < n → AllStrict n ts → records_in bytes ≡ packed n ts → IsFirstOutOfOrder (pilots_of bytes) (place_by bytes n (length ts)) ts i
    → ¬ ((us : List (List ℕ)) × IsHashed us bytes n)
unordered-not_hashed ts bytes n i some strict joined out found =
    let same = same_texts ts found.0 bytes n some strict joined found.1 in
    let ordered : AreOrdered (pilots_of bytes) (place_by bytes n (length ts)) ts = rw same at found.1.ordered in
    not_ordered (pilots_of bytes) (place_by bytes n (length ts)) ts i out ordered

-- ---- the same, computed

nat_le-Decides : (a b : ℕ) → Decides (nat_le a b) (a ≤ b)
nat_le-Decides a b = (λ yes. grind (arith, nat_tests), λ h. grind (arith, nat_tests))

are_placed-Decides : (place : List ℕ → ℕ) (ts : List (List ℕ)) → Decides (are_placed place ts (length ts)) (ArePlaced place ts)
are_placed-Decides place ts = Decides-below_and (λ k. place (text_at ts k) == k) (λ k. place (text_at ts k) ≡ k) (are_placed place ts) (λ k. Decides-eqb (place (text_at ts k)) k) refl (λ k. refl) (length ts)

are_ordered-Decides : (pilots : List ℕ) (place : List ℕ → ℕ) (ts : List (List ℕ)) → Decides (are_ordered pilots place ts) (AreOrdered pilots place ts)
are_ordered-Decides [] place ts = Decides-like (is_rising ts) (AreOrdered-rising [] place ts refl) (λ h. h.rising refl) (is_rising-Decides ts)
are_ordered-Decides (p ∷ ps) place ts =
    let test : (length (p ∷ ps) == 0) ≡ false = grind (arith, nat_tests) in
    rw test (Decides-like (are_placed place ts (length ts)) (AreOrdered-placed (p ∷ ps) place ts (omega arith)) (λ h. h.placed (omega arith)) (are_placed-Decides place ts))

-- the texts of packed records are those that were packed
hashed_texts-joined : (ts : List (List ℕ)) (bytes : List ℕ) (n : ℕ) → 0 < n → AllStrict n ts → records_in bytes ≡ packed n ts → hashed_texts n bytes ≡ ts
hashed_texts-joined ts bytes n some strict joined = ap (λ (l : List ℕ). texts_of n l) joined ∙ texts_of-packed n ts some strict

abbrev pub IsTable : List ℕ → ℕ → Type 0
IsTable bytes n = (ts : List (List ℕ)) × IsHashed ts bytes n

abbrev AreGood : List ℕ → ℕ → Type 0
AreGood bytes n = ((((16 ≤ length bytes) × (version_of bytes ≡ 1)) × (16 + index_size bytes ≤ length bytes)) × IsPacked (records_in bytes) n)
    × AreOrdered (pilots_of bytes) (place_by bytes n (length (hashed_texts n bytes))) (hashed_texts n bytes)

IsTable-good : (bytes : List ℕ) (n : ℕ) → 0 < n → AreGood bytes n → IsTable bytes n
IsTable-good bytes n some h =
    let packs = h.0.1 in
    let texts = hashed_texts-joined packs.texts bytes n some packs.each packs.joined in (
      packs.texts,
      record {
        whole = record { header = h.0.0.0.0; version = h.0.0.0.1; index = h.0.0.1 };
        strict = packs.each;
        joined = packs.joined;
        ordered = rw texts at h.1;
      },
    )

good-IsTable : (bytes : List ℕ) (n : ℕ) → 0 < n → IsTable bytes n → AreGood bytes n
good-IsTable bytes n some found =
    let h = found.1 in
    let texts = hashed_texts-joined found.0 bytes n some h.strict h.joined in
    ((((h.whole.header, h.whole.version), h.whole.index), record { texts = found.0; each = h.strict; joined = h.joined }), rw texts h.ordered)

pub is_hashed-Decides : (bytes : List ℕ) (n : ℕ) → 0 < n → Decides (is_hashed n bytes) (IsTable bytes n)
is_hashed-Decides bytes n some =
    Decides-like (is_hashed n bytes) (IsTable-good bytes n some) (good-IsTable bytes n some)
    (Decides-and (nat_le 16 (length bytes) && version_of bytes == 1 && nat_le (16 + index_size bytes) (length bytes) && is_packed (records_in bytes) n) _
    (Decides-and (nat_le 16 (length bytes) && version_of bytes == 1 && nat_le (16 + index_size bytes) (length bytes)) _
    (Decides-and (nat_le 16 (length bytes) && version_of bytes == 1) _
    (Decides-and (nat_le 16 (length bytes)) _ (nat_le-Decides 16 (length bytes)) (Decides-eqb (version_of bytes) 1))
    (nat_le-Decides (16 + index_size bytes) (length bytes)))
    (is_packed-Decides (records_in bytes) n some))
    (are_ordered-Decides (pilots_of bytes) (place_by bytes n (length (hashed_texts n bytes))) (hashed_texts n bytes)))

pub hashed_table_of-hashed : (ts : List (List ℕ)) (bytes : List ℕ) (n : ℕ) → 0 < n → IsHashed ts bytes n → Some ts ≡ hashed_table_of n bytes
hashed_table_of-hashed ts bytes n some h =
    rw ((is_hashed-Decides bytes n some).1 (ts, h)) (ap Some (sym (hashed_texts-joined ts bytes n some h.strict h.joined)))

pub hashed_table_of-other : (bytes : List ℕ) (n : ℕ) → 0 < n → ¬ IsTable bytes n → None ≡ hashed_table_of n bytes
hashed_table_of-other bytes n some other =
    let fails : is_hashed n bytes ≡ false = one_answer (is_hashed n bytes) false (is_hashed-Decides bytes n some) ((λ yes. cc), λ found. absurd (other found)) in
    rw fails refl

pub ruleset products = (le-mul_of_pos_right)

pub ruleset records_in_order = (le-mul_of_pos_right, nat_tests, AreOrdered-placed, ArePlaced-texts, first-out_of_order)
