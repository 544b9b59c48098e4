use Rattle.std.proofs.Common.{◌≡◌, ℕ, ◌<◌, length}
use Rattle.std.specs.List.{slice_index}
use Rattle.tinystr_packed.specs.Rising.{text_at}
use Rattle.tinystr_packed.proofs.EightSearches.{IsNumberOf}
use Rattle.tinystr_packed.proofs.eight.pairs_of.Given as goal

abbrev pub invariant-loop-lane : goal.invariant-loop-lane
invariant-loop-lane g l = record {
  first_long : length l.firsts ≡ 8;
  next_long : length l.nexts ≡ 8;
  each : (i : ℕ) → i < l.lane → IsNumberOf g.row.N l.start (text_at l.keys i) (slice_index l.firsts i) (slice_index l.nexts i);
}
