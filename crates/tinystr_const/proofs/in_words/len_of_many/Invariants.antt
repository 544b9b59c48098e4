use Rattle.std.proofs.Common.{◌≡◌, ◌+◌, length}
use Rattle.tinystr_words.specs.Text.{IsPadded, text_of}
use Rattle.tinystr_const.proofs.in_words.len_of_many.Given as goal

abbrev pub invariant-loop-rest : goal.invariant-loop-rest
invariant-loop-rest l = record {
  padded : IsPadded l.rest;
  counted : l.len + length (text_of l.rest) ≡ length (text_of l.fn.bytes);
}

abbrev pub decreases-loop-rest : goal.decreases-loop-rest
decreases-loop-rest l = length l.rest
