use Rattle.std.proofs.Common.{arith, refl, []}
use Rattle.std.specs.List.{slice_index}
use Rattle.tinystr_words.specs.Text.{pad}
use Rattle.tinystr_words.proofs.Texts.{IsPaddedText-pad}
use Rattle.tinystr_packed.specs.Rising.{text_at}
use Rattle.tinystr_packed.proofs.NumberPlaces.{AreNumbered-rising, IsFirstNotBelow-number}
use Rattle.tinystr_packed.proofs.RisingTexts.{IsRecord-padded}
use Rattle.tinystr_packed.proofs.eight.lower_bound_each_short.Goals as goal

pub returns-clause-places : goal.returns-clause-places
returns-clause-places g c padded rising i lane =
    let records = c.args.records.now in
    let key = pad (text_at c.args.keys.now i) g.row.N in
    let numbered = AreNumbered-rising records [] g.row.N 0 (omega arith) padded rising (record { each = λ k inside. refl }) in
    IsFirstNotBelow-number records key g.row.N (slice_index c.places_by_numbers.result i) c.requires.short rising (IsRecord-padded key g.row.N (IsPaddedText-pad (text_at c.args.keys.now i) g.row.N (c.places_by_numbers.ensures.strict i lane))) numbered (c.places_by_numbers.ensures.places i lane)
