use Rattle.std.proofs.Common.{ℕ, ◌<◌, ◌≤◌, ◌+◌, ◌/◌}
use Rattle.std.specs.List.{slice_index}
use Rattle.tinystr_packed.specs.Private.{wanted, IsPlaceWithin}
use Rattle.tinystr_packed.proofs.eight.halved_each.Given as goal

abbrev pub invariant-loop-lane : goal.invariant-loop-lane
invariant-loop-lane g l = record {
  done : (i : ℕ) → i < l.lane → IsPlaceWithin g.row.N l.start l.records (wanted l.pairs.firsts l.pairs.nexts i) (slice_index l.places i) (slice_index l.places i + l.size / 2);
  left : (i : ℕ) → l.lane ≤ i → i < 8 → IsPlaceWithin g.row.N l.start l.records (wanted l.pairs.firsts l.pairs.nexts i) (slice_index l.places i) (slice_index l.places i + l.size);
}
