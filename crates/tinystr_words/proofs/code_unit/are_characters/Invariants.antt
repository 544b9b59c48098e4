use Rattle.std.proofs.Common.{◌↔◌, IsTrue, map, take}
use Rattle.tinystr_words.specs.Text.{IsText}
use Rattle.tinystr_words.proofs.code_unit.are_characters.Given as goal

abbrev pub invariant-loop-unit : goal.invariant-loop-unit
invariant-loop-unit g l = IsTrue l.are_characters ↔ IsText (take l.unit-index (map g.U.CodeUnit.number l.units))
