use Rattle.std.proofs.Common.{◌≡◌, ℕ, ◌<◌, ◌≤◌, length, All}
use Rattle.std.specs.List.{slice_index}
use Rattle.tinystr_words.specs.Text.{IsPaddedText, pad}
use Rattle.tinystr_packed.specs.Private.{AreRisingRecords, pair_at, IsPlaceWithin}
use Rattle.tinystr_packed.specs.Rising.{text_at, IsFirstNotBelow}
use Rattle.tinystr_packed.proofs.eight.lower_bound_each_long.Given as goal

abbrev pub invariant-loop-lane : goal.invariant-loop-lane
invariant-loop-lane g l = record {
  long : length l.places ≡ 8;
  bound : (i : ℕ) → i < 8 → slice_index l.places i ≤ length l.records;
  done : All (λ raw. IsPaddedText raw g.row.N) l.records → AreRisingRecords g.row.N l.records → (i : ℕ) → i < l.lane → IsFirstNotBelow (pad (text_at l.keys i) g.row.N) l.records (slice_index l.places i);
  left : (i : ℕ) → l.lane ≤ i → i < 8 → IsPlaceWithin g.row.N l.start l.records (pair_at l.start (pad (text_at l.keys i) g.row.N)) (slice_index l.places i) (slice_index l.places i);
}
