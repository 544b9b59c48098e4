use Rattle.std.proofs.Common.{Bor, List, ℕ, ap, arith, length, refl, rules, sym, ◌<◌, ◌∙◌, ◌≡◌, ◌≢◌}
use Rattle.std.specs.List.{slice_get}
use Rattle.std.specs.Option.{option_copied}
use Rattle.std.specs.declared.option.Option.{Option}
use Rattle.std.specs.declared.option.Option.TheVariants.{None, Some}
use Rattle.std.proofs.lemmas.Bool.{false≢true}
use Rattle.std.proofs.lemmas.Cmp.{nat_list_eq_equiv}
use Rattle.std.proofs.lemmas.List.{length-map}
use Rattle.tinystr_packed.proofs.PackedMaps.{option_copied-item}
use Rattle.tinystr_words.specs.Text.{text_of}
use Rattle.tinystr_packed.proofs.InPlace.{found_record}
use Rattle.tinystr_hashed.specs.Reading.{pilots_of, place_by}
use Rattle.tinystr_hashed.specs.Hashing.{ArePlaced}
use Rattle.tinystr_hashed.proofs.InPlace.{another, ArePackedRising-hashed, hashed_records, no_text}
use Rattle.tinystr_hashed.proofs.Lookups.{AreDistinct-ordered, Contains-absent, position-at, position-none, position-searched}
use Rattle.tinystr_hashed.proofs.in_place.position.Goals as goal

pub returns-in_default-get-clause-position : goal.returns-in_default-get-clause-position
returns-in_default-get-clause-position g c = λ texts h.
    let parts = c.in-Ok.ensures in
    let are = hashed_records c.args.bytes.now c.in-Ok.parts.records.now c.as_chunks.result.0.now texts g.row.N c.requires h parts.records c.as_chunks.ensures.front c.as_chunks.ensures.front_len in
    let count : length c.as_chunks.result.0.now ≡ length texts = sym (length-map c.as_chunks.result.0.now text_of) ∙ ap (λ (l : List (List ℕ)). length l) are.1 in
    let is : c.in-Some.place ≡ place_by c.args.bytes.now g.row.N (length texts) c.args.key.now = c.in-Some.ensures.place ∙ rw (parts.start, parts.pilots, parts.moves, count, c.all_bytes-raw.ensures.bytes) refl in
    let none : slice_get c.as_chunks.result.0.now c.in-Some.place ≡ None = sym (option_copied-item c.as_chunks.result.0.now c.in-Some.place c.get.result c.get.ensures.lookup) ∙ ap (λ (o : Option (Bor (List ℕ))). option_copied o) c.in_default-get.is in
    let placed : ArePlaced (place_by c.args.bytes.now g.row.N (length texts)) texts = h.ordered.placed (rw parts.pilots at (c.in-Some.ensures.exact.0 refl)) in
    position-none texts c.args.key.now (Contains-absent (place_by c.args.bytes.now g.row.N (length texts)) texts c.args.key.now c.in-Some.place placed is (no_text c.as_chunks.result.0.now texts c.args.key.now c.in-Some.place are.1 none))

pub returns-then-eq-clause-position : goal.returns-then-eq-clause-position
returns-then-eq-clause-position g c = λ texts h.
    let parts = c.in-Ok.ensures in
    let are = hashed_records c.args.bytes.now c.in-Ok.parts.records.now c.as_chunks.result.0.now texts g.row.N c.requires h parts.records c.as_chunks.ensures.front c.as_chunks.ensures.front_len in
    let here : slice_get c.as_chunks.result.0.now c.in-Some.place ≡ Some c.in-Some-get.found.now = sym (option_copied-item c.as_chunks.result.0.now c.in-Some.place c.get.result c.get.ensures.lookup) ∙ ap (λ (o : Option (Bor (List ℕ))). option_copied o) c.in-Some-get.is in
    let same : c.in-Some-get.found.now ≡ c.all_bytes-raw.result.now = search rules in
    let found = found_record c.as_chunks.result.0.now c.in-Some-get.found.now c.all_bytes-raw.result.now c.args.key.now c.in-Some.place here same c.all_bytes-raw.ensures.text in
    position-at texts c.args.key.now c.in-Some.place (AreDistinct-ordered (pilots_of c.args.bytes.now) (place_by c.args.bytes.now g.row.N (length texts)) texts h.ordered) (rw are.1 at found)

pub returns-else-eq-clause-position : goal.returns-else-eq-clause-position
returns-else-eq-clause-position g c = λ texts h.
    let parts = c.in-Ok.ensures in
    let are = hashed_records c.args.bytes.now c.in-Ok.parts.records.now c.as_chunks.result.0.now texts g.row.N c.requires h parts.records c.as_chunks.ensures.front c.as_chunks.ensures.front_len in
    let count : length c.as_chunks.result.0.now ≡ length texts = sym (length-map c.as_chunks.result.0.now text_of) ∙ ap (λ (l : List (List ℕ)). length l) are.1 in
    let is : c.in-Some.place ≡ place_by c.args.bytes.now g.row.N (length texts) c.args.key.now = c.in-Some.ensures.place ∙ rw (parts.start, parts.pilots, parts.moves, count, c.all_bytes-raw.ensures.bytes) refl in
    let here : slice_get c.as_chunks.result.0.now c.in-Some.place ≡ Some c.in-Some-get.found.now = sym (option_copied-item c.as_chunks.result.0.now c.in-Some.place c.get.result c.get.ensures.lookup) ∙ ap (λ (o : Option (Bor (List ℕ))). option_copied o) c.in-Some-get.is in
    let differs : c.in-Some-get.found.now ≢ c.all_bytes-raw.result.now = λ same. absurd (false≢true (sym c.if-eq.false ∙ c.eq.ensures ∙ rw same (nat_list_eq_equiv.refl c.all_bytes-raw.result.now))) in
    let placed : ArePlaced (place_by c.args.bytes.now g.row.N (length texts)) texts = h.ordered.placed (rw parts.pilots at (c.in-Some.ensures.exact.0 refl)) in
    position-none texts c.args.key.now (Contains-absent (place_by c.args.bytes.now g.row.N (length texts)) texts c.args.key.now c.in-Some.place placed is
    (another c.as_chunks.result.0.now texts c.in-Some-get.found.now c.all_bytes-raw.result.now c.args.key.now g.row.N c.in-Some.place are.0 are.1 here c.all_bytes-raw.ensures.bytes differs))

pub returns-in_default-place-clause-position : goal.returns-in_default-place-clause-position
returns-in_default-place-clause-position g c = λ texts h.
    let parts = c.in-Ok.ensures in
    let no_pilots : ¬ (0 < length c.in-Ok.parts.places.pilots.now) = λ some. false≢true (c.in_default-place.ensures.exact.1 some) in
    let none : length c.in-Ok.parts.places.pilots.now ≡ 0 = omega (arith, no_pilots) in
    let packed = ArePackedRising-hashed texts c.args.bytes.now c.in-Ok.parts.records.now c.in-Ok.parts.places.pilots.now g.row.N h parts.records parts.pilots none in
    c.ok.ensures.value ∙ position-searched texts c.args.key.now c.search.result packed.rising (c.search.ensures.searched texts packed)
