use Rattle.std.proofs.Common.{◌≡◌, ℕ, ◌<◌, ◌≤◌, ◌+◌}
use Rattle.tinystr_packed.specs.Private.{wanted}
use Rattle.tinystr_packed.proofs.eight.are_ascending.Given as goal

abbrev pub invariant-loop-lane : goal.invariant-loop-lane
invariant-loop-lane g l = record {
  bound : l.descents ≤ l.lane;
  each : l.descents ≡ 0 → (i : ℕ) → i < l.lane → wanted l.pairs.firsts l.pairs.nexts i ≤ wanted l.pairs.firsts l.pairs.nexts (i + 1);
}
