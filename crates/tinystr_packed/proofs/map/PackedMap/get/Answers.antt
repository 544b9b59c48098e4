use Rattle.tinystr_packed.proofs.PackedMaps.{DifferentKeys-rising, get-zip, option_copied-item}
use Rattle.tinystr_packed.proofs.map.PackedMap.get.Goals as goal

pub returns-in-Ok : goal.returns-in-Ok
returns-in-Ok g c =
    let s = c.self.inside in
    let found = get-zip s.keys s.values.now c.args.self.now c.args.key.now c.in-Ok.index c.self.view_is c.self.invariant.1 (DifferentKeys-rising s.keys c.self.invariant.0) c.in-Ok.ensures.found in
    rw found (option_copied-item s.values.now c.in-Ok.index c.get.result c.get.ensures.lookup)
