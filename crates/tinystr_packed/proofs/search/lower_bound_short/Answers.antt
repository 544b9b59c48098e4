use Rattle.std.proofs.Common.{arith}
use Rattle.tinystr_packed.proofs.RecordOrder.{AreDistinguished-short, AreDistinguished-pair}
use Rattle.tinystr_packed.proofs.RisingTexts.{IsFirstNotBelowWithin-all, IsFirstNotBelow-empty}
use Rattle.tinystr_packed.proofs.search.lower_bound_short.Goals as goal

pub returns-then-this-le8-clause-place : goal.returns-then-this-le8-clause-place
returns-then-this-le8-clause-place g c = λ up one.
    let records = c.args.records.now in
    let key = c.args.key.now in
    let distinguished = AreDistinguished-short records key g.row.N c.if-this-le8.true up one in
    IsFirstNotBelow-empty records key c.narrow.result.start c.narrow.result.end (c.narrow.ensures.within distinguished (IsFirstNotBelowWithin-all records key)) (c.narrow.ensures.place c.requires)

pub returns-clause-place : goal.returns-clause-place
returns-clause-place g c = λ up one.
    let records = c.args.records.now in
    let key = c.args.key.now in
    let distinguished = AreDistinguished-pair records key g.row.N (omega (arith, c.if-this-le8.false)) c.requires up one in
    IsFirstNotBelow-empty records key c.narrow-2.result.start c.narrow-2.result.end (c.narrow-2.ensures.within distinguished (IsFirstNotBelowWithin-all records key)) (c.narrow-2.ensures.place c.requires)
