use Rattle.std.proofs.Common.{◌≡◌, ◌+◌, ◌-◌, ◌≤◌, length, drop}
use Rattle.std.specs.Str.{bytes_eq}
use Rattle.tinystr_words.proofs.padded.comparison.equal.Given as goal

-- the bytes that remain decide
abbrev pub invariant-loop-start : goal.invariant-loop-start
invariant-loop-start l = record {
  inside : l.start + 16 ≤ length l.fn.left;
  left : bytes_eq (drop l.start l.fn.left) (drop l.start l.fn.right) ≡ bytes_eq l.fn.left l.fn.right;
}

abbrev pub decreases-loop-start : goal.decreases-loop-start
decreases-loop-start l = length l.fn.left - l.start
