use Rattle.std.proofs.Common.{◌≡◌, ◌≢◌, ◌+◌, ◌∷◌, ◌∙◌, ℕ, rules, sym, true, false}
use Rattle.std.proofs.lemmas.Slice.Eq.{bytes_eq-Decides}
use borrow.Author.Count.{below_more}
use Rattle.tinystr_packed.specs.Rising.{text_at}
use Rattle.tinystr_hashed.proofs.Packs.{IsTextBehind-rest, occurs_twice}
use Rattle.tinystr_hashed.proofs.packing.first_repeated.Goals as goal

pub returns-then-eq-clause-twice : goal.returns-then-eq-clause-twice
returns-then-eq-clause-twice g c =
    let cut : c.args.texts.now ≡ c.in_ok-first.first.now ∷ c.in_ok-first.rest.now = search rules in
    let here = IsTextBehind-rest c.args.texts.now c.in_ok-first.rest.now c.in_ok-first.first.now c.text-item.result c.loop-text.text-index cut c.loop-text-test.true c.text-item.is in
    let same : text_at c.args.texts.now c.loop-text.text-index ≡ text_at c.args.texts.now (c.loop-text.text-index + 1) =
    sym c.loop-text.invariant.last ∙ sym ((bytes_eq-Decides c.text-item.result c.loop-text.before.now).0 (sym c.eq.ensures ∙ c.if-eq.true)) ∙ here.is in
    rw here.is (occurs_twice c.args.texts.now c.loop-text.text-index here.inside same)

pub loop-text-preserved : goal.loop-text-preserved
loop-text-preserved g c =
    let cut : c.args.texts.now ≡ c.in_ok-first.first.now ∷ c.in_ok-first.rest.now = search rules in
    let here = IsTextBehind-rest c.args.texts.now c.in_ok-first.rest.now c.in_ok-first.first.now c.text-item.result c.loop-text.text-index cut c.loop-text-test.true c.text-item.is in
    let differ : text_at c.args.texts.now c.loop-text.text-index ≢ text_at c.args.texts.now (c.loop-text.text-index + 1) = λ same.
    let equal : true ≡ false = sym ((bytes_eq-Decides c.text-item.result c.loop-text.before.now).1 (here.is ∙ sym same ∙ sym c.loop-text.invariant.last)) ∙ sym c.eq.ensures ∙ c.if-eq.false in cc in
    record { last = here.is; apart = below_more (λ (k : ℕ). text_at c.args.texts.now k ≢ text_at c.args.texts.now (k + 1)) c.loop-text.text-index c.loop-text.invariant.apart differ }
