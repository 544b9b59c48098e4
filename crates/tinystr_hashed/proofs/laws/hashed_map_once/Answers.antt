use Rattle.tinystr_hashed.proofs.ForCallers.{hashed_map_once}
use Rattle.tinystr_hashed.proofs.laws.hashed_map_once.Goals as goal

pub returns : goal.returns
returns c = hashed_map_once
