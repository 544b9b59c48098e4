use Rattle.tinystr_words.proofs.Words.Texts.{HoldsText-padded}
use Rattle.tinystr_questions_tests.proofs.words.word_of.Goals as goal

pub returns : goal.returns
returns c = rw c.load.ensures (HoldsText-padded 4 c.args.text.now c.type_inv.text c.requires.padded c.requires.fits).0.low
