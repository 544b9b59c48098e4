use Rattle.tinystr_packed.proofs.ForCallers.{map_len_keys, map_len_values}
use Rattle.tinystr_packed.proofs.laws.map_len.Goals as goal

pub returns : goal.returns
returns c = record { keys = map_len_keys; values = map_len_values }
