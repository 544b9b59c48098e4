-- No identifier that the input begins with is longer than `end`.
use Rattle.std.proofs.Common.{◌≤◌, ℕ, length}
use Rattle.subtags.specs.Answers.{IsIdPrefix}
use Rattle.subtags.proofs.lang_id.LangId.from_prefix.Given as goal

abbrev pub invariant-loop-end : goal.invariant-loop-end
invariant-loop-end l = record {
  inside : l.end ≤ length l.code_units;
  fits : l.end ≤ 17;
  longest : (n : ℕ) → IsIdPrefix l.code_units n → n ≤ l.end;
}

abbrev pub decreases-loop-end : goal.decreases-loop-end
decreases-loop-end l = l.end
