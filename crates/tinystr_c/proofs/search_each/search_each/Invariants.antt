use Rattle.std.proofs.Common.{◌≡◌, ℕ, ◌*◌, ◌<◌, length}
use Rattle.std.specs.List.{slice_index_or}
use Rattle.tinystr_packed.specs.Rising.{text_at}
use Rattle.tinystr_c.specs.Codes.{success}
use Rattle.tinystr_c.specs.Tables.{Searches}
use Rattle.tinystr_c.proofs.search_each.search_each.Given as goal

abbrev pub invariant-loop-block : goal.invariant-loop-block
invariant-loop-block g l = record {
  same_len : length l.out ≡ length l.fn.out;
  each : (i : ℕ) → i < l.block * 8 → Searches (slice_index_or l.out i (success 0)) l.bytes (text_at l.keys i) g.row.N;
}

abbrev pub invariant-loop-index : goal.invariant-loop-index
invariant-loop-index g l = record {
  same_len : length l.out ≡ length l.fn.out;
  each : (i : ℕ) → i < l.index → Searches (slice_index_or l.out i (success 0)) l.bytes (text_at l.keys i) g.row.N;
}
