use Rattle.std.proofs.Common.{arith}
use Rattle.tinystr_words.proofs.Pieces.Word.{word_from_halves}
use Rattle.tinystr_words.proofs.word.U128Word16.load.Goals as goal

pub returns : goal.returns
returns g c =
    let both = word_from_halves g.U.CodeUnit.number 8 c.args.src.now (omega arith) c.requires in
    rw (c.joined.ensures, c.load-low.ensures, c.load-high.ensures) (omega (arith, both.0))
