use Rattle.std.proofs.Common.{◌≡◌, ℕ, ◌<◌}
use Rattle.tinystr_packed.specs.Rising.{text_at}
use Rattle.tinystr_packed.proofs.eight.answers_of_one.Given as goal

abbrev pub invariant-loop-lane : goal.invariant-loop-lane
invariant-loop-lane g l = (i : ℕ) → i < l.lane → text_at l.keys i ≡ text_at l.keys 0
