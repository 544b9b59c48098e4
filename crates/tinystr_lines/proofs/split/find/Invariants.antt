use Rattle.std.proofs.Common.{◌≡◌, ◌+◌, nat_eq, length}
use Rattle.std.specs.List.{position_or_len}
use Rattle.tinystr_lines.proofs.split.find.Given as goal

abbrev pub invariant-loop-lanes : goal.invariant-loop-lanes
invariant-loop-lanes l = record {
  total : l.start + length l.rest ≡ length l.text;
  passed : position_or_len (λ b. nat_eq b l.byte) l.text ≡ l.start + position_or_len (λ b. nat_eq b l.byte) l.rest;
}

abbrev pub decreases-loop-lanes : goal.decreases-loop-lanes
decreases-loop-lanes l = length l.rest
