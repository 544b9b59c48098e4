use Rattle.std.proofs.Common.{◌≡◌, ℕ, ◌+◌, ◌<◌}
use Rattle.std.specs.declared.cmp.Ordering.TheVariants.{Less}
use Rattle.tinystr_packed.specs.Rising.{order, text_at}
use Rattle.tinystr_packed.proofs.RisingTexts.{IsRecordOf}
use Rattle.tinystr_packed.proofs.table.Table.first_not_above.Given as goal

abbrev pub invariant-loop-index : goal.invariant-loop-index
invariant-loop-index g l = record {
  last : IsRecordOf l.before l.self g.row.N l.index;
  rising : (k : ℕ) → k < l.index → order (text_at l.self k) (text_at l.self (k + 1)) ≡ Less;
}
