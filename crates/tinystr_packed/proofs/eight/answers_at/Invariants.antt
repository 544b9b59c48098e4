use Rattle.std.proofs.Common.{◌≡◌, length}
use Rattle.tinystr_packed.specs.Private.{AreAnswers}
use Rattle.tinystr_packed.proofs.eight.answers_at.Given as goal

abbrev pub invariant-loop-lane : goal.invariant-loop-lane
invariant-loop-lane g l = record {
  long : length l.answers ≡ 8;
  each : AreAnswers g.row.N l.records l.keys l.answers l.lane;
}
