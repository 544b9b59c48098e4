use Rattle.std.proofs.Common.{arith}
use Rattle.std.proofs.lemmas.Bool.Decides.{nat_tests}
use Rattle.tinystr_lines.proofs.Splits.{place-marks}
use Rattle.tinystr_lines.proofs.split.place_in_lanes.Goals as goal

pub returns-then-equal-eq0 : goal.returns-then-equal-eq0
returns-then-equal-eq0 c = rw c.if-equal-eq0.true at (place-marks c.args.lanes.now c.args.byte c.told-lanes)

pub returns : goal.returns
returns c = let at = place-marks c.args.lanes.now c.args.byte c.told-lanes in grind (arith, nat_tests, at, c.if-equal-eq0.false)
