use Rattle.std.proofs.Common.{◌<◌, ◌-◌, ◌/◌}
use Rattle.tinystr_packed.proofs.eight.range_near.Given as goal

abbrev pub invariant-loop-size : goal.invariant-loop-size
invariant-loop-size g l = 0 < l.size

abbrev pub decreases-loop-size : goal.decreases-loop-size
decreases-loop-size g l = l.len / 4 - l.size
