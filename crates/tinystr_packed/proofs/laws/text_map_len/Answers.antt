use Rattle.tinystr_packed.proofs.ForCallers.{text_map_len_keys, text_map_len_values}
use Rattle.tinystr_packed.proofs.laws.text_map_len.Goals as goal

pub returns : goal.returns
returns c = record { keys = text_map_len_keys; values = text_map_len_values }
