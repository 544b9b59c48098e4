use Rattle.tinystr_packed.proofs.PackedTexts.{AllStrict-texts}
use Rattle.tinystr_packed.proofs.table.Table.iter.Goals as goal

pub returns-clause-strict : goal.returns-clause-strict
returns-clause-strict g c = rw (← c.self.view_is) (AllStrict-texts c.self.inside.records.now g.row.N c.self.invariant)
