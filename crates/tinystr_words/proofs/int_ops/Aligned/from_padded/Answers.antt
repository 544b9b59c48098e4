use Rattle.tinystr_words.proofs.Words.Texts.{HoldsText-padded}
use Rattle.tinystr_words.proofs.int_ops.Aligned.from_padded.Goals as goal

pub invariant_of-result : goal.invariant_of-result
invariant_of-result g c = rw c.load.ensures (HoldsText-padded g.row.LEN c.args.bytes.now c.type_inv.bytes c.requires.padded c.requires.fits).0

pub returns : goal.returns
returns g c = rw c.load.ensures (HoldsText-padded g.row.LEN c.args.bytes.now c.type_inv.bytes c.requires.padded c.requires.fits).1
