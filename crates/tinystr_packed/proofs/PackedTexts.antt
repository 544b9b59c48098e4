-- Packed texts, and the records that hold them.
use Rattle.std.proofs.Common.{◌≡◌, ℕ, ◌<◌, ◌≤◌, ◌+◌, ◌-◌, ◌/◌, List, [], ◌∷◌, ◌++◌, length, map, take, drop, get_or, refl, sym, ap, ◌∙◌, All, Some, None, arith}
use Rattle.std.specs.List.{flat_map, slice_get}
use Rattle.std.specs.Simd.{first_chunks}
use Rattle.std.proofs.lemmas.List.{append-nil, nil_from_length, take_all, take_more, take_at, drop_at, take-map, drop-map}
use Rattle.std.proofs.lemmas.Grind.{flat_map-append}
use Rattle.std.proofs.lemmas.Option.{slice_get-map, slice_get_cases, slice_get_within, get_or_from_slice_get}
use Rattle.std.proofs.lemmas.List.Elements.{All-more, All-head, All-tail, All-map, All-weaker}
use Rattle.std.proofs.Math.Nat.{mul-div_cancel}
use Rattle.tinystr_words.specs.Text.{IsStrictText, IsPaddedText, text_of, pad}
use Rattle.tinystr_words.specs.Packed.{IsPacked}
use Rattle.tinystr_words.proofs.Texts.{length-pad, text_of-pad}
use Rattle.tinystr_words.proofs.Reading.Records.{AllStrict, length-joined, AllPadded-packed, IsPacked-length}

abbrev pub packed : ℕ → List (List ℕ) → List ℕ
packed n ts = flat_map (λ (t : List ℕ). pad t n) ts

-- one more text
pub packed-take_more : (n : ℕ) (ts : List (List ℕ)) (i : ℕ) (x bytes : List ℕ) → i < length ts → x ≡ get_or ts i x → bytes ≡ packed n (take i ts) → bytes ++ pad x n ≡ packed n (take (i + 1) ts)
packed-take_more n ts i x bytes below is e =
    rw (e, take_more ts i x below, ← is, flat_map-append (λ (t : List ℕ). pad t n) (take i ts) (x ∷ []), append-nil (pad x n)) refl

-- one more text that fits
pub AllStrict-more : (n : ℕ) (ts : List (List ℕ)) (i : ℕ) (x : List ℕ) → i < length ts → x ≡ get_or ts i x → IsStrictText x n → AllStrict n (take i ts) → AllStrict n (take (i + 1) ts)
AllStrict-more n ts i x below is strict h = All-more (λ (t : List ℕ). IsStrictText t n) ts i x below h (rw (← is) strict)

-- the texts of the first chunks of packed texts
chunks-packed : (n : ℕ) (ts : List (List ℕ)) → AllStrict n ts → map text_of (first_chunks n (length ts) (packed n ts)) ≡ ts
chunks-packed n [] h = refl
chunks-packed n (t ∷ ts) h =
    let strict = All-head (λ (t : List ℕ). IsStrictText t n) t ts h in
    let long = length-pad t n strict.fits in
    let first : take n (packed n (t ∷ ts)) ≡ pad t n = take_at (pad t n) (packed n ts) n long in
    let others : drop n (packed n (t ∷ ts)) ≡ packed n ts = drop_at (pad t n) (packed n ts) n long in
    rw (first, others, text_of-pad t n strict.text, chunks-packed n ts (All-tail (λ (t : List ℕ). IsStrictText t n) t ts h)) refl

-- all records of packed bytes hold the texts that were packed
pub texts_of-packed : (n : ℕ) (ts : List (List ℕ)) → 0 < n → AllStrict n ts → map text_of (first_chunks n (length (packed n ts) / n) (packed n ts)) ≡ ts
texts_of-packed n ts some h =
    let count : length (packed n ts) / n ≡ length ts = rw (length-joined n ts h) (mul-div_cancel (length ts) some) in
    rw count (chunks-packed n ts h)

pub texts_of-records : (bytes : List ℕ) (records : List (List ℕ)) (n : ℕ) → 0 < n → (h : IsPacked bytes n) → records ≡ first_chunks n (length bytes / n) bytes → map text_of records ≡ h.texts
texts_of-records bytes records n some h are =
    rw are (ap (λ (l : List ℕ). map text_of (first_chunks n (length l / n) l)) h.joined ∙ texts_of-packed n h.texts some h.each)

-- packed records are the padded forms of their texts
pub packed-texts : (bytes : List ℕ) (records : List (List ℕ)) (n : ℕ) → 0 < n → IsPacked bytes n → records ≡ first_chunks n (length bytes / n) bytes → bytes ≡ packed n (map text_of records)
packed-texts bytes records n some h are = h.joined ∙ ap (λ (ts : List (List ℕ)). packed n ts) (sym (texts_of-records bytes records n some h are))

-- the records of packed bytes are padded texts
pub AllPadded-chunks : (bytes : List ℕ) (records : List (List ℕ)) (n : ℕ) → 0 < n → IsPacked bytes n → records ≡ first_chunks n (length bytes / n) bytes → length records ≡ length bytes / n → All (λ raw. IsPaddedText raw n) records
AllPadded-chunks bytes records n some h are count = AllPadded-packed records bytes n (record { are = are; count = count; whole = IsPacked-length bytes n h }) some h

-- and their texts fit
pub AllStrict-texts : (records : List (List ℕ)) (n : ℕ) → All (λ raw. IsPaddedText raw n) records → AllStrict n (map text_of records)
AllStrict-texts records n h =
    All-map (λ (t : List ℕ). IsStrictText t n) text_of records (All-weaker (λ raw. IsPaddedText raw n) (λ raw. IsStrictText (text_of raw) n) (λ raw p. record { text = p.text; fits = p.fits }) records h)

-- texts with one packed form are the same texts
pub packed_injective : (n : ℕ) (ts ss : List (List ℕ)) → 0 < n → AllStrict n ts → AllStrict n ss → packed n ts ≡ packed n ss → ts ≡ ss
packed_injective n ts ss some h k e =
    sym (texts_of-packed n ts some h) ∙ ap (λ (l : List ℕ). map text_of (first_chunks n (length l / n) l)) e ∙ texts_of-packed n ss some k

-- the texts before the last one, and the last one
pub last_text : (ts : List (List ℕ)) (i : ℕ) (x : List ℕ) → slice_get ts i ≡ Some x → length ts ≤ i + 1 → ts ≡ take i ts ++ x ∷ []
last_text ts i x is end =
    rw (take_all (i + 1) ts end, get_or_from_slice_get ts i x x is) at (take_more ts i x (slice_get_within ts i x is))

-- texts without a first one, or without a last one
pub no_texts : (ts : List (List ℕ)) (i : ℕ) → slice_get ts i ≡ None → i ≤ length ts - 1 → ts ≡ []
no_texts ts i is end = grind (arith, slice_get_cases, nil_from_length)

pub ruleset ends = (last_text, no_texts)

pub ruleset table_steps = (packed-texts, AllPadded-chunks, AllStrict-texts)

pub ruleset slices = (take-map, drop-map)

pub ruleset places = (slice_get-map)
