use Rattle.std.proofs.Common.{ℕ, List}
use Rattle.tinystr_words.specs.Text.{IsStrictText, pad}
use Rattle.tinystr_hashed.proofs.MapPacks.{WritesFirst}
use Rattle.tinystr_hashed.proofs.packing_maps.pack_hashed_text_map.Given as goal

abbrev pub invariant-loop-key : goal.invariant-loop-key
invariant-loop-key g l = WritesFirst l.map.entries l.initial.key-iterator l.key-iterator l.values.items (λ (v : List ℕ). IsStrictText v g.row.M) (λ (v : List ℕ). pad v g.row.M)
