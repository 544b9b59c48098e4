use Rattle.std.proofs.Common.{◌≡◌, ◌+◌, ◌<◌, ◌%◌, ℕ, length, map, get_or}
use Rattle.tinystr_const.proofs.loading.word_of_eight.Given as goal

abbrev pub invariant-loop-at : goal.invariant-loop-at
invariant-loop-at l = record {
  made : (k : ℕ) → k < l.at → get_or l.bytes (l.start + k) 0 ≡ get_or (map (λ u. u % 256) l.units) k 0;
  len : length l.bytes ≡ 16;
}
