use Rattle.std.proofs.Common.{◌≡◌, ◌+◌, length}
use Rattle.tinystr_words.specs.Text.{IsPadded, text_of}
use Rattle.tinystr_words.proofs.padded.words.len.Given as goal

abbrev pub invariant-loop-word : goal.invariant-loop-word
invariant-loop-word l = record {
  padded : IsPadded l.rest;
  counted : l.sum + length (text_of l.rest) ≡ length (text_of l.fn.bytes);
}

abbrev pub decreases-loop-word : goal.decreases-loop-word
decreases-loop-word l = length l.rest
