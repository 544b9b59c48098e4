use Rattle.std.proofs.Common.{◌≡◌, ℕ, List, length}
use Rattle.tinystr_hashed.proofs.MapPacks.{WritesFirst}
use Rattle.tinystr_hashed.proofs.packing_maps.pack_hashed_map.Given as goal

abbrev pub invariant-loop-key : goal.invariant-loop-key
invariant-loop-key g l = WritesFirst l.map.entries l.initial.key-iterator l.key-iterator l.values.items (λ (v : List ℕ). length v ≡ g.row.M) (λ (v : List ℕ). v)
