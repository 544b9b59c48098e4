use Rattle.std.proofs.Common.{ℕ, ◌<◌, ◌≤◌, ◌-◌}
use Rattle.tinystr_words.specs.Text.{pad}
use Rattle.tinystr_packed.specs.Private.{AreRisingRecords, BeginAlike}
use Rattle.tinystr_packed.specs.Rising.{text_at}
use Rattle.tinystr_packed.proofs.eight.shared_len_of_each.Given as goal

abbrev pub invariant-loop-lane : goal.invariant-loop-lane
invariant-loop-lane g l = record {
  bound : l.len ≤ g.row.N - 8;
  alike : AreRisingRecords g.row.N l.records → (i : ℕ) → i < l.lane → BeginAlike l.len (pad (text_at l.keys i) g.row.N) l.records;
}
