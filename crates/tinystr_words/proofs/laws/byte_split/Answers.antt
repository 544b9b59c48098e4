use Rattle.std.proofs.Common.{rules}
use Rattle.tinystr_words.proofs.ForCallers.{byte_split_absent}
use Rattle.tinystr_words.proofs.laws.byte_split.Goals as goal

pub returns-clause-absent : goal.returns-clause-absent
returns-clause-absent c = search (rules, byte_split_absent)
