-- Bytes that were checked before, and their records.
use Rattle.std.proofs.Common.{◌≡◌, ◌≢◌, ℕ, ◌<◌, ◌/◌, List, [], length, map, refl, sym, ap, ◌∙◌, All}
use Rattle.std.specs.List.{slice_get}
use Rattle.std.specs.Simd.{first_chunks}
use Rattle.std.specs.declared.option.Option.TheVariants.{Some, None}
use Rattle.std.proofs.lemmas.List.{length-map}
use Rattle.std.proofs.lemmas.Option.{slice_get-map, slice_get-get_or, slice_get_within, get_or_from_slice_get}
use Rattle.tinystr_words.specs.Packed.{IsPacked}
use Rattle.tinystr_words.specs.Text.{IsPaddedText, text_of, pad}
use Rattle.tinystr_packed.proofs.PackedTexts.{AllPadded-chunks, texts_of-records}
use Rattle.tinystr_packed.proofs.RisingTexts.{IsRecordOf-at}
use Rattle.tinystr_packed.specs.Rising.{ArePackedRising, text_at}

-- the records of packed texts
pub records_are : (bytes : List ℕ) (records texts : List (List ℕ)) (n : ℕ) → 0 < n → ArePackedRising texts bytes n → records ≡ first_chunks n (length bytes / n) bytes → length records ≡ length bytes / n
    → All (λ raw. IsPaddedText raw n) records × (map text_of records ≡ texts)
records_are bytes records texts n some h are count =
    let packed : IsPacked bytes n = record { texts = texts; each = h.strict; joined = h.joined } in
    (AllPadded-chunks bytes records n some packed are count, texts_of-records bytes records n some packed are)

-- the text of a record that is the key's
pub found_record : (records : List (List ℕ)) (raw bytes key : List ℕ) (i : ℕ) → slice_get records i ≡ Some raw → raw ≡ bytes → text_of bytes ≡ key → slice_get (map text_of records) i ≡ Some key
found_record records raw bytes key i at same is = rw (slice_get-map, at, same, is) refl

-- another record holds another text
pub missed_record : (records : List (List ℕ)) (raw bytes key : List ℕ) (n i : ℕ) → All (λ r. IsPaddedText r n) records → slice_get records i ≡ Some raw → bytes ≡ pad key n → raw ≢ bytes
    → i < length (map text_of records) → text_at (map text_of records) i ≢ key
missed_record records raw bytes key n i padded at is differs inside same =
    let within : i < length records = slice_get_within records i raw at in
    let here = IsRecordOf-at records (map text_of records) raw n i padded refl within (sym (get_or_from_slice_get records i raw [] at)) in
    differs (here.padded.padded ∙ ap (λ (t : List ℕ). pad t n) (here.text ∙ same) ∙ sym is)

-- where there is no record, there is no text
pub no_text_at : (records : List (List ℕ)) (key : List ℕ) (i : ℕ) → slice_get records i ≡ None → i < length (map text_of records) → text_at (map text_of records) i ≢ key
no_text_at records key i none inside is = let some = slice_get-get_or records i [] (rw (← length-map records text_of) inside) in cc
