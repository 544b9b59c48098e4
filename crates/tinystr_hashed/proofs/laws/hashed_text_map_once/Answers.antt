use Rattle.tinystr_hashed.proofs.ForCallers.{hashed_text_map_once}
use Rattle.tinystr_hashed.proofs.laws.hashed_text_map_once.Goals as goal

pub returns : goal.returns
returns c = hashed_text_map_once
