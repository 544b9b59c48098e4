use Rattle.std.proofs.Common.{arith}
use Rattle.tinystr_words.proofs.Pieces.Word.{word_from_halves}
use Rattle.tinystr_words.proofs.word.U64Word8.load.Goals as goal

pub returns : goal.returns
returns g c =
    let joined = word_from_halves g.U.CodeUnit.number 4 c.args.src.now (omega arith) c.requires in
    let low = c.from-2.ensures in
    let high = c.from-3.ensures in
    let first = c.load-low.ensures in
    let last = c.load-high.ensures in
    rw (low, high, first, last) (omega (arith, joined.0, joined.1))
