use Rattle.tinystr_packed.proofs.PackedMaps.{get-unfit}
use Rattle.tinystr_packed.proofs.laws.text_map_texts.Goals as goal

pub returns-clause-absent : goal.returns-clause-absent
returns-clause-absent g c = λ key other. get-unfit c.args.map.now key g.row.N (rw c.keys-keys.ensures at c.sorted_texts.ensures.strict) other
