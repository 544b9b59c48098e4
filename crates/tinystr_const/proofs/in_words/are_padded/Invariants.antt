use Rattle.std.proofs.Common.{◌≡◌, ◌&&◌, length, nat_eq}
use Rattle.tinystr_words.proofs.Words.Lanes.{IsBytes}
use Rattle.tinystr_const.proofs.Continued.{IsMark, goes_on}
use Rattle.tinystr_const.proofs.in_words.are_padded.Given as goal

-- the answer is that for the rest, after the byte that `before` marks
abbrev pub invariant-loop-eight : goal.invariant-loop-eight
invariant-loop-eight l = record {
  mark : IsMark l.before;
  bytes : IsBytes l.rest;
  left : (nat_eq l.faults 0 && goes_on l.before l.rest) ≡ goes_on 0x80 l.fn.bytes;
}

abbrev pub decreases-loop-eight : goal.decreases-loop-eight
decreases-loop-eight l = length l.rest
