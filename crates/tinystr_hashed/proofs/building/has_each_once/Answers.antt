use Rattle.std.proofs.Common.{◌≡◌, ◌≢◌, ◌∙◌, ◌<◌, ◌≤◌, Contains, List, [], ℕ, arith, get_or, length, refl, rules, sym, take}
use Rattle.std.proofs.lemmas.Bool.{false≢true}
use Rattle.std.proofs.lemmas.List.{get_or_default, take_all, take_more}
use Rattle.std.proofs.lemmas.List.Elements.{All-contains}
use Rattle.tinystr_hashed.specs.Private.{texts_in}
use Rattle.tinystr_hashed.proofs.Marks.{AreMarked, AreMarked-more, AreMarked-none, Contains-marked, repeats}
use Rattle.tinystr_hashed.proofs.building.has_each_once.Goals as goal

pub loop-index-init : goal.loop-index-init
loop-index-init g c = AreMarked-none c.args.table.now c.args.marks.now c.requires.unmarked

pub loop-index-preserved : goal.loop-index-preserved
loop-index-preserved g c =
    let texts = texts_in c.args.texts.now in
    let inside : c.loop-index.index < length texts = omega (arith, c.loop-index-test.true, c.len-index-end.ensures) in
    let off : get_or c.loop-index.marks c.in-Some.place 0 ≡ 0 = search rules in
    let more = AreMarked-more c.args.table.now c.loop-index.marks (take c.loop-index.index texts) c.text.result c.in-Some.place c.in-Some.ensures.distinct c.loop-index.invariant c.in-Some.ensures.found off in
    rw (take_more texts c.loop-index.index [] inside, ← c.text.ensures) more

pub returns-in_default : goal.returns-in_default
returns-in_default g c =
    let texts = texts_in c.args.texts.now in
    let inside : c.loop-index.index < length texts = omega (arith, c.loop-index-test.true, c.len-index-end.ensures) in
    let t = c.text.result in
    let here : Contains texts t = (c.loop-index.index, inside, get_or_default texts c.loop-index.index t [] inside ∙ sym c.text.ensures) in
    (λ no. absurd (false≢true no), λ all. c.in_default.ensures.exact.1 (All-contains (λ (s : List ℕ). Contains c.args.table.now s) texts t all.0 here))

pub returns-then-marks-place-ne0 : goal.returns-then-marks-place-ne0
returns-then-marks-place-ne0 g c =
    let texts = texts_in c.args.texts.now in
    let inside : c.loop-index.index < length texts = omega (arith, c.loop-index-test.true, c.len-index-end.ensures) in
    let t = c.text.result in
    let on : get_or c.loop-index.marks c.in-Some.place 0 ≢ 0 = search rules in
    let here = Contains-marked c.args.table.now c.loop-index.marks (take c.loop-index.index texts) t c.in-Some.place c.loop-index.invariant c.in-Some.ensures.found on in
    let is : t ≡ get_or texts c.loop-index.index t = c.text.ensures ∙ get_or_default texts c.loop-index.index [] t inside in
    (λ no. absurd (false≢true no), λ all. absurd (repeats texts t c.loop-index.index inside is here all.1))

pub returns : goal.returns
returns g c =
    let texts = texts_in c.args.texts.now in
    let past : length texts ≤ c.loop-index.index = omega (arith, c.loop-index-test.false, c.len-index-end.ensures) in
    let whole : take c.loop-index.index texts ≡ texts = take_all c.loop-index.index texts past in
    let h : AreMarked c.args.table.now c.loop-index.marks texts = rw whole at c.loop-index.invariant in
    (λ _. (h.each, h.distinct), λ _. refl)
