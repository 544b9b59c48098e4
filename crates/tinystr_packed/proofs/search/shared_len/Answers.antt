use Rattle.std.proofs.Common.{◌≡◌, ◌-◌, ℕ, List, [], refl, take, length, arith, sym, ◌∙◌}
use Rattle.std.proofs.lemmas.List.{take-take}
use Rattle.tinystr_packed.proofs.Prefixes.{BeginAlike-ends}
use Rattle.tinystr_packed.proofs.RecordOrder.{alike-long}
use Rattle.tinystr_packed.specs.Private.{IsRecord}
use Rattle.tinystr_packed.proofs.search.shared_len.Goals as goal

pub loop-len-preserved : goal.loop-len-preserved
loop-len-preserved g c =
    let some = c.in-Some-Some.ensures.item.3 in
    record {
      first = λ up one.
          let first : IsRecord g.row.N c.in-Some-Some.first.now = rw (some.1 []) (up.each 0 some.0) in
          alike-long c.in-Some-Some.first.now c.args.key.now g.row.N c.loop-len.len (omega (arith, c.loop-len-test.true)) first one (c.loop-len.invariant.first up one) (sym c.number_at.ensures ∙ c.if-number_at-number.false ∙ c.number_at-number.ensures);
      last = λ up one.
          let last : IsRecord g.row.N c.in-Some-Some.last.now = rw (c.in-Some-Some.ensures'.item.3.1 []) (up.each (length c.args.records.now - 1) (omega (arith, some.0))) in
          alike-long c.in-Some-Some.last.now c.args.key.now g.row.N c.loop-len.len (omega (arith, c.loop-len-test.true)) last one (c.loop-len.invariant.last up one) (sym c.number_at-else-number_at-number.ensures ∙ c.if-number_at-number-2.false ∙ c.number_at-number.ensures);
    }

pub returns-then-number_at-number-clause-alike : goal.returns-then-number_at-number-clause-alike
returns-then-number_at-number-clause-alike g c up one =
    let some = c.in-Some-Some.ensures.item.3 in
    BeginAlike-ends c.args.records.now c.args.key.now c.loop-len.len up.rising (omega (arith, one.long, c.loop-len-test.true)) some.0
    (rw (← some.1 []) (c.loop-len.invariant.first up one)) (rw (← c.in-Some-Some.ensures'.item.3.1 []) (c.loop-len.invariant.last up one))

pub returns-clause-alike : goal.returns-clause-alike
returns-clause-alike g c up one =
    let n = g.row.N - 8 in
    let len = c.loop-len.len in
    let some = c.in-Some-Some.ensures.item.3 in
    let cut : (xs : List ℕ) → take len xs ≡ take len c.args.key.now → take n xs ≡ take n c.args.key.now =
    λ xs alike. rw (← take-take n len xs c.loop-len-test.false, ← take-take n len c.args.key.now c.loop-len-test.false, alike) refl in
    BeginAlike-ends c.args.records.now c.args.key.now n up.rising (omega (arith, one.long)) some.0
    (rw (← some.1 []) (cut c.in-Some-Some.first.now (c.loop-len.invariant.first up one))) (rw (← c.in-Some-Some.ensures'.item.3.1 []) (cut c.in-Some-Some.last.now (c.loop-len.invariant.last up one)))
