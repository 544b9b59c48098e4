use Rattle.std.proofs.Common.{◌≡◌, ℕ, ◌+◌, ◌<◌, length}
use Rattle.tinystr_packed.specs.Rising.{text_at}
use Rattle.tinystr_c.proofs.search_each.eight_from.Given as goal

abbrev pub invariant-loop-lane : goal.invariant-loop-lane
invariant-loop-lane g l = record {
  long : length l.eight ≡ 8;
  each : (i : ℕ) → i < l.lane → text_at l.eight i ≡ text_at l.keys (l.start + i);
}
