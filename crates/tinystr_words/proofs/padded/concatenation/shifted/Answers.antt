use Rattle.tinystr_words.proofs.Vectors.{swz_l-lanes_of_table, SwzOk-lanes_of_table}
use Rattle.tinystr_words.proofs.padded.concatenation.shifted.Goals as goal

pub swizzle : goal.swizzle
swizzle c = rw c.as_flattened.ensures.value (SwzOk-lanes_of_table c.args.start c.requires.start)

pub returns : goal.returns
returns c = rw c.as_flattened.ensures.value (swz_l-lanes_of_table c.args.lanes c.args.start c.requires.len c.requires.start)
