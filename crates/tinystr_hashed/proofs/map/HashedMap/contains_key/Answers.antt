use Rattle.tinystr_packed.proofs.PackedMaps.{is_some-zip}
use Rattle.tinystr_hashed.proofs.map.HashedMap.contains_key.Goals as goal

pub returns : goal.returns
returns g c = let s = c.self.inside in is_some-zip s.keys s.values.now c.args.self.now c.args.key.now c.contains.result c.self.view_is c.self.invariant c.contains.ensures
