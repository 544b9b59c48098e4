use Rattle.tinystr_packed.proofs.Prefixes.{filter-zip}
use Rattle.tinystr_packed.proofs.text_map.TextMap.with_prefix.Goals as goal

pub returns : goal.returns
returns g c =
    let s = c.self.inside in
    rw (c.slice.ensures, c.slice-2.ensures) (filter-zip c.args.beginning.now s.keys s.values c.args.self.now _ _ c.self.view_is c.self.invariant.1 c.prefix_range-start.ensures)
