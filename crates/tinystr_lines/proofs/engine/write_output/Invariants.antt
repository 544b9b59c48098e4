-- What is gone from `rest` was written.
use Rattle.std.proofs.Common.{length}
use Rattle.tinystr_lines.proofs.Lines.{AllBut}
use Rattle.tinystr_lines.proofs.engine.write_output.Given as goal

abbrev pub invariant-loop-rest : goal.invariant-loop-rest
invariant-loop-rest g l = AllBut (g.W.Write.contents l.initial.writer) (g.W.Write.contents l.writer) l.output l.rest

abbrev pub decreases-loop-rest : goal.decreases-loop-rest
decreases-loop-rest g l = length l.rest
