use Rattle.std.proofs.Common.{◌≡◌, ℕ, ◌<◌, length}
use Rattle.std.specs.List.{slice_index_or}
use Rattle.tinystr_packed.specs.Rising.{text_at}
use Rattle.tinystr_c.specs.Codes.{success}
use Rattle.tinystr_c.specs.Hashed.{SearchesHashed}
use Rattle.tinystr_c.proofs.hashed.search_keys.Given as goal

abbrev pub invariant-loop-index : goal.invariant-loop-index
invariant-loop-index g l = record {
  same_len : length l.out ≡ length l.fn.out;
  each : (i : ℕ) → i < l.index → SearchesHashed (slice_index_or l.out i (success 0)) l.bytes (text_at l.keys i) g.row.N;
}
