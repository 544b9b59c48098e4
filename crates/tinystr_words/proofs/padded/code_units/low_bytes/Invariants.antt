use Rattle.std.proofs.Common.{◌≡◌, ◌<◌, ◌%◌, ℕ, length, map, get_or}
use Rattle.tinystr_words.proofs.padded.code_units.low_bytes.Given as goal

abbrev pub invariant-loop-i : goal.invariant-loop-i
invariant-loop-i g l = record {
  read : (k : ℕ) → k < l.i → get_or l.bytes k 0 ≡ get_or (map (λ unit. g.U.CodeUnit.number unit % 256) l.units) k 0;
  len : length l.bytes ≡ g.row.N;
}
