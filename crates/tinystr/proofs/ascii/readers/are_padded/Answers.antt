use Rattle.std.proofs.Common.{arith}
use Rattle.std.proofs.lemmas.List.{take_all}
use Rattle.tinystr_words.specs.Text.{IsPaddedText}
use Rattle.tinystr_words.proofs.Pieces.CodeUnits.{All-take-Decides}
use Rattle.tinystr.proofs.ascii.readers.are_padded.Goals as goal

pub loop-bytes-preserved : goal.loop-bytes-preserved
loop-bytes-preserved g c =
    All-take-Decides (λ b. IsPaddedText b g.row.N) c.args.records.now c.loop-bytes.bytes-index c.bytes-item.result c.loop-bytes.are_padded c.is_padded-are_padded.result
    c.loop-bytes-test.true c.loop-bytes.invariant (rw (← c.bytes-item.is) c.is_padded-are_padded.ensures)

pub returns : goal.returns
returns g c = rw (take_all c.loop-bytes.bytes-index c.args.records.now (omega arith)) at c.loop-bytes.invariant
