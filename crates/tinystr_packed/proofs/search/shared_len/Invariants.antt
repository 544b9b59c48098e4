use Rattle.std.proofs.Common.{◌≡◌, ◌-◌, take}
use Rattle.tinystr_packed.specs.Private.{IsRecord, AreRisingRecords}
use Rattle.tinystr_packed.proofs.search.shared_len.Given as goal

abbrev pub invariant-loop-len : goal.invariant-loop-len
invariant-loop-len g l = record {
  first : AreRisingRecords g.row.N l.records → IsRecord g.row.N l.key → take l.len l.first ≡ take l.len l.key;
  last : AreRisingRecords g.row.N l.records → IsRecord g.row.N l.key → take l.len l.last ≡ take l.len l.key;
}

abbrev pub decreases-loop-len : goal.decreases-loop-len
decreases-loop-len g l = g.row.N - l.len
