use Rattle.tinystr_packed.proofs.ForCallers.{map_once}
use Rattle.tinystr_packed.proofs.laws.map_once.Goals as goal

pub returns : goal.returns
returns c = map_once
