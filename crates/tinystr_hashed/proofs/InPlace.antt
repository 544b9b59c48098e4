-- Bytes that were checked before, and their records.
use Rattle.std.proofs.Common.{All, List, [], ap, length, map, sym, ℕ, ◌/◌, ◌<◌, ◌∙◌, ◌≡◌, ◌≢◌}
use Rattle.std.specs.List.{slice_get}
use Rattle.std.specs.Simd.{first_chunks}
use Rattle.std.specs.declared.option.Option.TheVariants.{None, Some}
use Rattle.std.proofs.lemmas.Option.{get_or_from_slice_get, slice_get_within}
use Rattle.tinystr_words.specs.Packed.{IsPacked}
use Rattle.tinystr_words.specs.Text.{IsPaddedText, pad, text_of}
use Rattle.tinystr_packed.proofs.InPlace.{missed_record, no_text_at}
use Rattle.tinystr_packed.proofs.PackedTexts.{AllPadded-chunks, texts_of-records}
use Rattle.tinystr_packed.specs.Rising.{ArePackedRising}
use Rattle.tinystr_hashed.specs.Reading.{IsHashed, pilots_of, records_in}

-- the records of a hashed table
pub hashed_records : (bytes part : List ℕ) (records texts : List (List ℕ)) (n : ℕ) → 0 < n → IsHashed texts bytes n → part ≡ records_in bytes → records ≡ first_chunks n (length part / n) part → length records ≡ length part / n
    → All (λ raw. IsPaddedText raw n) records × (map text_of records ≡ texts)
hashed_records bytes part records texts n some h here are count =
    let packed : IsPacked part n = record { texts = texts; each = h.strict; joined = here ∙ h.joined } in
    (AllPadded-chunks part records n some packed are count, texts_of-records part records n some packed are)

-- where there is no record, there is no text
pub no_text : (records texts : List (List ℕ)) (key : List ℕ) (i : ℕ) → map text_of records ≡ texts → slice_get records i ≡ None → slice_get texts i ≢ Some key
no_text records texts key i are none found =
    let at_it : slice_get (map text_of records) i ≡ Some key = rw are found in
    no_text_at records key i none (slice_get_within (map text_of records) i key at_it) (get_or_from_slice_get (map text_of records) i key [] at_it)

-- another record holds another text
pub another : (records texts : List (List ℕ)) (raw bytes key : List ℕ) (n i : ℕ) → All (λ r. IsPaddedText r n) records → map text_of records ≡ texts → slice_get records i ≡ Some raw → bytes ≡ pad key n → raw ≢ bytes
    → slice_get texts i ≢ Some key
another records texts raw bytes key n i padded are here is differs found =
    let at_it : slice_get (map text_of records) i ≡ Some key = rw are found in
    missed_record records raw bytes key n i padded here is differs (slice_get_within (map text_of records) i key at_it) (get_or_from_slice_get (map text_of records) i key [] at_it)

-- the records of a table without pilots
pub ArePackedRising-hashed : (texts : List (List ℕ)) (bytes part pilots : List ℕ) (n : ℕ) → IsHashed texts bytes n → part ≡ records_in bytes → pilots ≡ pilots_of bytes → length pilots ≡ 0 → ArePackedRising texts part n
ArePackedRising-hashed texts bytes part pilots n h here is none =
    record { strict = h.strict; joined = here ∙ h.joined; rising = h.ordered.rising (ap (λ (l : List ℕ). length l) (sym is) ∙ none) }
