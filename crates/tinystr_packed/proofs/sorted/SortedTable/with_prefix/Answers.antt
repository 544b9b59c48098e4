use Rattle.std.proofs.Common.{◌∙◌}
use Rattle.tinystr_packed.proofs.Prefixes.{filter-texts}
use Rattle.tinystr_packed.proofs.sorted.SortedTable.with_prefix.Goals as goal

pub returns : goal.returns
returns g c = c.slice.ensures ∙ filter-texts c.args.beginning.now c.args.self.now _ _ c.prefix_range.ensures
