use Rattle.tinystr_hashed.proofs.Repeats.{rising-read}
use Rattle.tinystr_hashed.proofs.packing_into.are_distinct.Goals as goal

pub returns-in-Ok-clause-distinct : goal.returns-in-Ok-clause-distinct
returns-in-Ok-clause-distinct g c =
    let read = rising-read c.args.texts.now c.in-Ok.sorted c.sorted_records.result.now g.row.N c.requires.some c.sorted_records.ensures c.in-Ok.ensures.texts c.in-Ok.ensures.bytes in
    (λ said. read.0 (c.new-in-Ok.ensures.rising.0 (rw c.is_ok.ensures.value at said)), λ distinct. rw c.is_ok.ensures.value (c.new-in-Ok.ensures.rising.1 (read.1 distinct)))
