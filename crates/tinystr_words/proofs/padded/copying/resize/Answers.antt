use Rattle.tinystr_words.specs.Text.{IsPadded}
use Rattle.tinystr_words.proofs.Pieces.Copying.{pad-copied, IsPaddedText-copied}
use Rattle.tinystr_words.proofs.padded.copying.resize.Goals as goal

pub returns : goal.returns
returns g c =
    let made = λ (p : IsPadded c.args.bytes.now). IsPaddedText-copied c.put.new.bytes c.args.bytes.now g.row.M p c.put.ensures in
    record { bytes = pad-copied c.put.new.bytes c.args.bytes.now g.row.M c.put.ensures; padded = λ p. (made p).0; text = λ p. (made p).1 }
