use Rattle.tinystr_hashed.proofs.ForCallers.{test_decides}
use Rattle.tinystr_hashed.proofs.laws.test_decides.Goals as goal

pub returns : goal.returns
returns c = test_decides
