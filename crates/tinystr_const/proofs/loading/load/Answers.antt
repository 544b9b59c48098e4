use Rattle.std.proofs.Common.{arith}
use Rattle.tinystr_words.proofs.Pieces.Word.{word_from_halves}
use Rattle.tinystr_const.proofs.loading.load.Goals as goal

pub returns : goal.returns
returns c =
    let both = word_from_halves (λ u. u) 8 c.args.src.now (omega arith) c.requires in
    rw (c.joined.ensures, c.word_of_eight-low.ensures, c.word_of_eight-high.ensures) (omega (arith, both.0))
