use Rattle.std.proofs.Common.{◌≡◌, ℕ, ◌+◌, ◌<◌, length}
use Rattle.std.specs.List.{slice_index_or}
use Rattle.std.specs.declared.result.Result.TheVariants.{Ok}
use Rattle.tinystr_c.specs.Codes.{success, search_answer}
use Rattle.tinystr_c.proofs.search_each.put_eight.Given as goal

abbrev pub invariant-loop-lane : goal.invariant-loop-lane
invariant-loop-lane l = record {
  same_len : length l.out ≡ length l.initial.out;
  before : (i : ℕ) → i < l.start → slice_index_or l.out i (success 0) ≡ slice_index_or l.initial.out i (success 0);
  each : (i : ℕ) → i < l.lane → slice_index_or l.out (l.start + i) (success 0) ≡ search_answer (slice_index_or l.found i (Ok 0));
}
