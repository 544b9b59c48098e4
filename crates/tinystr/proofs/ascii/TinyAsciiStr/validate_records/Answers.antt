use Rattle.std.proofs.Common.{arith, refl}
use Rattle.std.proofs.lemmas.List.{length-drop}
use Rattle.tinystr_words.proofs.Reading.Records.{IsChecked-more, AllPadded-checked}
use Rattle.tinystr.proofs.ascii.TinyAsciiStr.validate_records.Goals as goal

pub loop-raw-preserved : goal.loop-raw-preserved
loop-raw-preserved g c =
    IsChecked-more c.args.records.now c.split_at.result.1.now c.raw-item.result g.row.N c.loop-raw.index c.loop-raw.raw-index c.loop-raw.invariant c.loop-raw-test.true c.raw-item.is (c.in_default.ensures.accepted.0 refl)

pub returns-clause-accepted : goal.returns-clause-accepted
returns-clause-accepted g c =
    (λ yes. AllPadded-checked c.args.records.now _ g.row.N c.loop-raw.index c.loop-raw.invariant (omega (arith, length-drop c.loop-raw.raw-index c.split_at.result.1.now)), λ padded. refl)
