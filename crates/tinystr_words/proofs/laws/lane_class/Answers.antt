use Rattle.tinystr_words.proofs.ForCallers.{lane_class}
use Rattle.tinystr_words.proofs.laws.lane_class.Goals as goal

pub returns : goal.returns
returns c = lane_class
