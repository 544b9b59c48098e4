use Rattle.std.proofs.Common.{length}
use Rattle.tinystr_words.proofs.Reading.Records.{IsChecked}
use Rattle.tinystr.proofs.ascii.TinyAsciiStr.skip_padded.Given as goal

abbrev pub invariant-loop-rest : goal.invariant-loop-rest
invariant-loop-rest g l = IsChecked l.records g.row.N l.index l.rest

abbrev pub decreases-loop-rest : goal.decreases-loop-rest
decreases-loop-rest g l = length l.rest
