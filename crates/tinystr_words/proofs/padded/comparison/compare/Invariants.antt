use Rattle.std.proofs.Common.{◌≡◌, length}
use Rattle.std.specs.Cmp.Lexicographic.{slice_cmp}
use Rattle.std.specs.Ordering.{nat_cmp}
use Rattle.tinystr_words.proofs.Order.ByNumbers.{AreBytes}
use Rattle.tinystr_words.proofs.padded.comparison.compare.Given as goal

abbrev pub invariant-loop-left_rest : goal.invariant-loop-left_rest
invariant-loop-left_rest l = record {
  same_length : length l.left_rest ≡ length l.right_rest;
  order : slice_cmp nat_cmp l.left_rest l.right_rest ≡ slice_cmp nat_cmp l.left l.right;
  left_bytes : AreBytes l.left_rest;
  right_bytes : AreBytes l.right_rest;
}

abbrev pub decreases-loop-left_rest : goal.decreases-loop-left_rest
decreases-loop-left_rest l = length l.left_rest
