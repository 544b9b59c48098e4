use Rattle.std.proofs.Common.{◌≡◌, ℕ, ◌<◌, ◌≤◌, length, get_or}
use Rattle.tinystr_c.proofs.texts.without_nuls.Given as goal

abbrev pub invariant-loop-len : goal.invariant-loop-len
invariant-loop-len l = record {
  inside : l.len ≤ length l.bytes;
  nuls : (k : ℕ) → l.len ≤ k → k < length l.bytes → get_or l.bytes k 0 ≡ 0;
}

abbrev pub decreases-loop-len : goal.decreases-loop-len
decreases-loop-len l = l.len
