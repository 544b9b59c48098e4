use Rattle.std.proofs.Common.{take}
use Rattle.tinystr_hashed.specs.Private.{texts_in}
use Rattle.tinystr_hashed.proofs.Marks.{AreMarked}
use Rattle.tinystr_hashed.proofs.building.has_each_once.Given as goal

abbrev pub invariant-loop-index : goal.invariant-loop-index
invariant-loop-index g l = AreMarked l.table l.marks (take l.index (texts_in l.texts))
