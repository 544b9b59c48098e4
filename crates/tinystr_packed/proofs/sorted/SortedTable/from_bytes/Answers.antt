use Rattle.std.proofs.Common.{sym, true≢false}
use Rattle.tinystr_packed.specs.Rising.{IsRising}
use Rattle.tinystr_packed.proofs.SortedPacks.{unsorted-not_packed}
use Rattle.tinystr_packed.proofs.sorted.SortedTable.from_bytes.Goals as goal

pub returns-in-Err-new-clause-accepted : goal.returns-in-Err-new-clause-accepted
returns-in-Err-new-clause-accepted g c =
    let unsorted : ¬ IsRising c.in-Ok.table = λ up. true≢false (sym (c.in-Err-new.ensures.rising.1 up)) in (
      λ e. absurd (true≢false (sym e)),
      λ found. absurd (unsorted-not_packed c.in-Ok.table c.args.bytes.now g.row.N c.requires c.in-Ok.ensures.texts c.in-Ok.ensures.bytes unsorted found),
    )

pub returns-in-Err-new-clause-fault : goal.returns-in-Err-new-clause-fault
returns-in-Err-new-clause-fault g c =
    (record { texts = c.in-Ok.table; each = c.in-Ok.ensures.texts; joined = c.in-Ok.ensures.bytes }, c.in-Err-new.ensures.first)
