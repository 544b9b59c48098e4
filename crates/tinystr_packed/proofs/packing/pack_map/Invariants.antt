use Rattle.std.proofs.Common.{◌≡◌, ℕ, List, length}
use Rattle.tinystr_packed.proofs.MapBytes.{PacksFirst}
use Rattle.tinystr_packed.proofs.packing.pack_map.Given as goal

abbrev pub invariant-loop-key : goal.invariant-loop-key
invariant-loop-key g l = PacksFirst l.map.entries l.key-iterator l.keys.items l.values.items g.row.N (λ (v : List ℕ). length v ≡ g.row.M) (λ (v : List ℕ). v)
