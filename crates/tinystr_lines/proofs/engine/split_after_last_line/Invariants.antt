use Rattle.std.proofs.Common.{◌≡◌, ◌≤◌, false, length, drop}
use Rattle.std.specs.List.{list_any}
use Rattle.tinystr_lines.specs.Reply.{is_line_feed}
use Rattle.tinystr_lines.proofs.engine.split_after_last_line.Given as goal

abbrev pub invariant-loop-end : goal.invariant-loop-end
invariant-loop-end l = record {
  inside : l.end ≤ length l.piece;
  after : list_any is_line_feed (drop l.end l.piece) ≡ false;
}

abbrev pub decreases-loop-end : goal.decreases-loop-end
decreases-loop-end l = l.end

abbrev pub invariant-loop-lanes : goal.invariant-loop-lanes
invariant-loop-lanes l = record {
  inside : l.end ≤ length l.piece;
  after : list_any is_line_feed (drop l.end l.piece) ≡ false;
}

abbrev pub decreases-loop-lanes : goal.decreases-loop-lanes
decreases-loop-lanes l = l.end
