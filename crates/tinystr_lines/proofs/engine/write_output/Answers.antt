use Rattle.tinystr_lines.proofs.Lines.{AllBut-more, AppendsBeginning-from_write, AppendsBeginning-from_flush}
use Rattle.tinystr_lines.proofs.engine.write_output.Goals as goal

pub loop-rest-preserved : goal.loop-rest-preserved
loop-rest-preserved g c = AllBut-more _ _ _ _ c.loop-rest.rest.now c.in-Ok.count c.in-Ok.ensures.bytes c.loop-rest.invariant

pub returns-in-Ok-eq0-clause-err : goal.returns-in-Ok-eq0-clause-err
returns-in-Ok-eq0-clause-err g c = AppendsBeginning-from_write _ _ _ _ c.loop-rest.rest.now c.write.result c.write.ensures.bytes c.loop-rest.invariant

pub returns-in-Ok-eq0-2-clause-err : goal.returns-in-Ok-eq0-2-clause-err
returns-in-Ok-eq0-2-clause-err g c = AppendsBeginning-from_write _ _ _ _ c.loop-rest.rest.now c.write.result c.write.ensures.bytes c.loop-rest.invariant

pub returns-clause-err : goal.returns-clause-err
returns-clause-err g c = AppendsBeginning-from_flush _ _ _ _ c.loop-rest.rest.now c.or.result c.flush.ensures.bytes c.loop-rest.invariant
