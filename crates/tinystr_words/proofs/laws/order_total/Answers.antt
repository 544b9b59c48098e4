use Rattle.tinystr_words.proofs.ForCallers.{order_total_padded}
use Rattle.tinystr_words.proofs.laws.order_total.Goals as goal

pub returns-clause-padded : goal.returns-clause-padded
returns-clause-padded c = order_total_padded
