use Rattle.tinystr_words.proofs.Words.Numbers.{low_first_then}
use Rattle.tinystr_questions_tests.proofs.words.with_added.Goals as goal

pub plus-requires-clause-right : goal.plus-requires-clause-right
plus-requires-clause-right c = rw c.first_then.ensures (low_first_then 4 c.args.first c.args.others c.requires.first c.requires.others)
