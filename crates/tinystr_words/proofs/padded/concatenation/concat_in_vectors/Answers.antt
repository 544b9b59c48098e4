use Rattle.std.proofs.Common.{arith}
use Rattle.tinystr_words.proofs.Vectors.{IsPaddedText-stored}
use Rattle.tinystr_words.proofs.padded.concatenation.concat_in_vectors.Goals as goal

pub returns : goal.returns
returns g c =
    let made = IsPaddedText-stored c.loop-at.bytes _ _ g.row.Q c.loop-at.at (omega arith) c.requires.first.text c.requires.second.text c.loop-at.invariant.stored in
    record { padded = made.0; text = made.1 }
