use Rattle.std.proofs.Common.{length}
use Rattle.tinystr_words.specs.Text.{IsPadded}
use Rattle.tinystr_const.proofs.Counted.{Counts}
use Rattle.tinystr_const.proofs.in_words.len_of_part.Given as goal

abbrev pub invariant-loop-eight : goal.invariant-loop-eight
invariant-loop-eight l = record {
  padded : IsPadded l.rest;
  counted : Counts l.counts l.rest l.fn.bytes;
}

abbrev pub decreases-loop-eight : goal.decreases-loop-eight
decreases-loop-eight l = length l.rest
