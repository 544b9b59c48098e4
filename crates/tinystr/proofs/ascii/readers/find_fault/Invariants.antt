use Rattle.std.proofs.Common.{map}
use Rattle.tinystr_words.proofs.Reading.OnePass.{IsScanned}
use Rattle.tinystr.proofs.ascii.readers.find_fault.Given as goal

abbrev pub invariant-loop-unit : goal.invariant-loop-unit
invariant-loop-unit g l = IsScanned (map g.U.CodeUnit.number l.units) l.unit-index l.is_after_nul
