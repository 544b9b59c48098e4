use Rattle.std.proofs.Common.{arith}
use Rattle.tinystr_words.proofs.Texts.{IsPaddedText-drop, IsPaddedText-take}
use Rattle.tinystr_const.proofs.Counted.{length_pieces}
use Rattle.tinystr_const.proofs.in_words.len_of_many.Goals as goal

pub len_of_part-len-requires-clause-padded : goal.len_of_part-len-requires-clause-padded
len_of_part-len-requires-clause-padded c = rw c.split_at.ensures.front (IsPaddedText-take c.loop-rest.rest.now _ _ c.loop-rest.invariant.padded)

pub loop-rest-preserved : goal.loop-rest-preserved
loop-rest-preserved c =
    let now = c.loop-rest in
    let cut = c.split_at in
    record {
      padded = rw cut.ensures.back (IsPaddedText-drop now.rest.now _ _ now.invariant.padded);
      counted = omega (arith, now.invariant.counted, c.len_of_part-len.ensures, length_pieces now.rest.now cut.result.0.now cut.result.1.now c.min.result now.invariant.padded cut.ensures.front cut.ensures.back);
    }
