use Rattle.std.proofs.Common.{◌∙◌, rules, tests}
use Rattle.std.specs.Result.{result_ok}
use Rattle.tinystr_packed.proofs.Collected.{items_from_search}
use Rattle.tinystr_packed.proofs.ForCallers.{search_found_position}
use Rattle.uses.proofs.code_column.indices_of.Goals as goal

pub returns : goal.returns
returns c =
    simp search_found_position at (items_from_search _ result_ok c.args.table.now c.args.codes.now c.collect.result
    (c.map.ensures.source ∙ c.binary_search_each.ensures.answers) c.map.ensures.closure (λ x r q k. search (rules, tests)) c.collect.ensures.ran)
