use Rattle.std.proofs.Common.{ap, arith, length}
use Rattle.tinystr_words.proofs.Texts.{IsPaddedText-drop, IsPaddedText-take}
use Rattle.tinystr_const.proofs.Counted.{length_pieces}
use Rattle.tinystr_const.proofs.in_words.len_of_two.Goals as goal

pub from_padded-requires : goal.from_padded-requires
from_padded-requires c =
    let cut = c.split_at.ensures in
    (omega arith, (omega arith, rw cut.front (IsPaddedText-take c.args.bytes.now _ _ c.requires.padded)))

pub from_padded-requires-2 : goal.from_padded-requires-2
from_padded-requires-2 c =
    let cut = c.split_at.ensures in
    (omega arith, (omega arith, rw cut.back (IsPaddedText-drop c.args.bytes.now _ _ c.requires.padded)))

pub returns : goal.returns
returns c =
    let cut = c.split_at in
    omega (arith, ap length c.from_padded.ensures, ap length c.from_padded-2.ensures, length_pieces c.args.bytes.now cut.result.0.now cut.result.1.now c.min.result c.requires.padded cut.ensures.front cut.ensures.back)
