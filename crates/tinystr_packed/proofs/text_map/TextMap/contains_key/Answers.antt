use Rattle.tinystr_packed.proofs.PackedMaps.{is_some-zip}
use Rattle.tinystr_packed.proofs.text_map.TextMap.contains_key.Goals as goal

pub returns : goal.returns
returns g c = let s = c.self.inside in is_some-zip s.keys s.values c.args.self.now c.args.key.now c.contains.result c.self.view_is c.self.invariant.1 c.contains.ensures
