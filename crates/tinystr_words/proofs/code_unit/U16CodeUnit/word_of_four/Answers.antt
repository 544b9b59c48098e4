use Rattle.tinystr_words.proofs.Pieces.Word.{every_other-word}
use Rattle.tinystr_words.proofs.code_unit.U16CodeUnit.word_of_four.Goals as goal

pub returns : goal.returns
returns c = every_other-word 4 c.args.units.now c.requires c.type_inv.units
