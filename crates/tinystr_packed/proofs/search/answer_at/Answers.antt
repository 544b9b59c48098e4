use Rattle.std.proofs.Common.{[], ◌≡◌, ◌≢◌, ◌∙◌, sym, ap, refl, map, List, ℕ, Bor, All}
use Rattle.std.specs.Option.{option_copied}
use Rattle.std.specs.declared.option.Option.{Option}
use Rattle.tinystr_packed.proofs.PackedMaps.{option_copied-item}
use Rattle.std.specs.List.{slice_get}
use Rattle.std.specs.declared.option.Option.TheVariants.{Some, None}
use Rattle.std.proofs.lemmas.Bool.{false≢true}
use Rattle.std.proofs.lemmas.Option.{get_or_from_slice_get, slice_get_within}
use Rattle.tinystr_words.specs.Text.{IsPaddedText, pad, text_of}
use Rattle.tinystr_packed.specs.Private.{AreRisingRecords, IsRecord}
use Rattle.tinystr_packed.specs.Rising.{IsFirstNotBelow, IsRising}
use Rattle.tinystr_packed.proofs.InPlace.{found_record, missed_record, no_text_at}
use Rattle.tinystr_packed.proofs.RisingTexts.{AreRisingRecords-texts, IsFirstNotBelow-texts, IsRecord-padded, IsPlaceFor-missed}
use Rattle.tinystr_packed.proofs.Searches.{search_result-found, search_result-absent}
use Rattle.tinystr_packed.proofs.search.answer_at.Goals as goal

-- at the place of a key, among the texts
place_of : (records : List (List ℕ)) (key bytes : List ℕ) (n i : ℕ) → All (λ raw. IsPaddedText raw n) records → IsRising (map text_of records) → IsPaddedText bytes n → text_of bytes ≡ key → bytes ≡ pad key n
    → (All (λ raw. IsPaddedText raw n) records → AreRisingRecords n records → IsFirstNotBelow (pad key n) records i) → IsFirstNotBelow key (map text_of records) i
place_of records key bytes n i padded rising is_padded text is place =
    let texts = map text_of records in
    IsFirstNotBelow-texts records texts key bytes n i padded refl is_padded text (rw is (place padded (AreRisingRecords-texts records texts n padded refl rising)))

record_at : (records : List (List ℕ)) (raw : List ℕ) (n i : ℕ) → All (λ r. IsPaddedText r n) records → slice_get records i ≡ Some raw → IsRecord n raw
record_at records raw n i padded at = IsRecord-padded raw n (rw (get_or_from_slice_get records i raw [] at) at (padded i [] (slice_get_within records i raw at)))

pub returns-then-are_same : goal.returns-then-are_same
returns-then-are_same g c =
    let records = c.args.records.now in
    let place = c.args.place in
    let key = c.all_bytes-bytes.ensures in
    let at : slice_get records place ≡ Some c.in-Some.raw.now = sym (option_copied-item records place c.get.result c.get.ensures.lookup) ∙ ap (λ (o : Option (Bor (List ℕ))). option_copied o) c.in-Some.is in
    record {
      inside = slice_get_within records place c.in-Some.raw.now at;
      bound = tt;
      answer = λ padded rising.
          let raw = record_at records c.in-Some.raw.now g.row.N place padded at in
          let same = (c.are_same.ensures raw (IsRecord-padded c.all_bytes-bytes.result.now g.row.N key.padded)).0 c.if-are_same.true in
          search_result-found (map text_of records) c.args.key.now place
          (place_of records c.args.key.now c.all_bytes-bytes.result.now g.row.N place padded rising key.padded key.text key.bytes c.requires.place)
          (found_record records c.in-Some.raw.now c.all_bytes-bytes.result.now c.args.key.now place at same key.text);
    }

pub returns-else-are_same : goal.returns-else-are_same
returns-else-are_same g c =
    let records = c.args.records.now in
    let place = c.args.place in
    let key = c.all_bytes-bytes.ensures in
    let at : slice_get records place ≡ Some c.in-Some.raw.now = sym (option_copied-item records place c.get.result c.get.ensures.lookup) ∙ ap (λ (o : Option (Bor (List ℕ))). option_copied o) c.in-Some.is in
    record {
      inside = tt;
      bound = c.requires.bound;
      answer = λ padded rising.
          let raw = record_at records c.in-Some.raw.now g.row.N place padded at in
          let differs : c.in-Some.raw.now ≢ c.all_bytes-bytes.result.now = λ same. absurd (false≢true (sym c.if-are_same.false ∙ (c.are_same.ensures raw (IsRecord-padded c.all_bytes-bytes.result.now g.row.N key.padded)).1 same)) in
          let first = place_of records c.args.key.now c.all_bytes-bytes.result.now g.row.N place padded rising key.padded key.text key.bytes c.requires.place in
          search_result-absent (map text_of records) c.args.key.now place (IsPlaceFor-missed (map text_of records) c.args.key.now place rising first (missed_record records c.in-Some.raw.now c.all_bytes-bytes.result.now c.args.key.now g.row.N place padded at key.bytes differs));
    }

pub returns-in_default : goal.returns-in_default
returns-in_default g c =
    let records = c.args.records.now in
    let place = c.args.place in
    let key = c.all_bytes-bytes.ensures in
    let none : slice_get records place ≡ None = sym (option_copied-item records place c.get.result c.get.ensures.lookup) ∙ ap (λ (o : Option (Bor (List ℕ))). option_copied o) c.in_default.is in
    let past = no_text_at records c.args.key.now place none in
    record {
      inside = tt;
      bound = c.requires.bound;
      answer = λ padded rising.
          let first = place_of records c.args.key.now c.all_bytes-bytes.result.now g.row.N place padded rising key.padded key.text key.bytes c.requires.place in
          search_result-absent (map text_of records) c.args.key.now place (IsPlaceFor-missed (map text_of records) c.args.key.now place rising first past);
    }
