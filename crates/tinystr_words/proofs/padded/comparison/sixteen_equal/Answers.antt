use Rattle.std.proofs.Common.{arith, drop, take}
use Rattle.std.proofs.lemmas.List.{length-drop, length-take}
use Rattle.tinystr_words.proofs.Vectors.{vectors_same}
use Rattle.tinystr_words.proofs.padded.comparison.sixteen_equal.Goals as goal

pub returns : goal.returns
returns c =
    let a = drop c.args.start c.args.left.now in
    let b = drop c.args.start c.args.right.now in
    vectors_same (take 16 a) (take 16 b)
    (omega (arith, length-take 16 a, length-take 16 b, length-drop c.args.start c.args.left.now, length-drop c.args.start c.args.right.now))
    (omega (arith, length-take 16 a))
