use Rattle.std.proofs.Common.{ℕ, List}
use Rattle.tinystr_words.specs.Text.{IsStrictText, pad}
use Rattle.tinystr_packed.proofs.MapBytes.{PacksFirst}
use Rattle.tinystr_packed.proofs.packing.pack_text_map.Given as goal

abbrev pub invariant-loop-key : goal.invariant-loop-key
invariant-loop-key g l = PacksFirst l.map.entries l.key-iterator l.keys.items l.values.items g.row.N (λ (v : List ℕ). IsStrictText v g.row.M) (λ (v : List ℕ). pad v g.row.M)
