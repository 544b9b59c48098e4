-- Each read takes memory.
use Rattle.std.proofs.Common.{◌-◌, ◌^◌, vec_len}
use Rattle.std.specs.Bool.{⊤}
use Rattle.tinystr_lines.proofs.engine.read_on.Given as goal

abbrev pub invariant-loop-kept : goal.invariant-loop-kept
invariant-loop-kept g l = ⊤

abbrev pub decreases-loop-kept : goal.decreases-loop-kept
decreases-loop-kept g l = 2 ^ 63 - vec_len l.kept
