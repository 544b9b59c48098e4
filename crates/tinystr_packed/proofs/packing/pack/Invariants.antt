use Rattle.std.proofs.Common.{◌≡◌, take, ℕ, List, All}
use Rattle.std.specs.List.{flat_map}
use Rattle.tinystr_words.specs.Text.{IsStrictText, pad}
use Rattle.tinystr_packed.proofs.packing.pack.Given as goal

abbrev pub invariant-loop-text : goal.invariant-loop-text
invariant-loop-text g l = record {
  bytes : l.bytes.items ≡ flat_map (λ (t : List ℕ). pad t g.row.N) (take l.text-index l.texts);
  each : All (λ (t : List ℕ). IsStrictText t g.row.N) (take l.text-index l.texts);
}
