use Rattle.std.proofs.Common.{◌≡◌, ℕ, ◌<◌, ◌≤◌, ◌-◌, length}
use Rattle.std.specs.declared.cmp.Ordering.TheVariants.{Less}
use Rattle.tinystr_packed.specs.Rising.{order, text_at}
use Rattle.tinystr_packed.proofs.prefix.lower_bound_near_start.Given as goal

abbrev pub invariant-loop-start : goal.invariant-loop-start
invariant-loop-start g l = record {
  inside : l.start ≤ length l.records;
  below : (k : ℕ) → k < l.start → order (text_at l.records k) l.key ≡ Less;
}

abbrev pub decreases-loop-start : goal.decreases-loop-start
decreases-loop-start g l = length l.records - l.start
