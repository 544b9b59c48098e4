use Rattle.std.proofs.Common.{◌≡◌, rules}
use Rattle.std.specs.BTreeMap.{keys}
use Rattle.tinystr_hashed.proofs.MapPacks.{fault-sorted}
use Rattle.tinystr_hashed.proofs.packing_maps.packed_keys.Goals as goal

pub returns-clause-fault : goal.returns-clause-fault
returns-clause-fault g c =
    let collected : c.as_slice.result.now ≡ keys c.args.map.now = search rules in
    fault-sorted c.pack_hashed.result (keys c.args.map.now) c.keys.ensures.ordered (rw collected at c.pack_hashed.ensures.fault)
