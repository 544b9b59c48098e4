use Rattle.std.proofs.Common.{◌≡◌, length}
use Rattle.tinystr_words.specs.Text.{IsPadded, text_of}
use Rattle.tinystr_words.specs.Questions.{ask_question, later_question}
use Rattle.tinystr_words.proofs.padded.words.ask.Given as goal

-- the answer is that for the rest
abbrev pub invariant-loop-word : goal.invariant-loop-word
invariant-loop-word l = record {
  padded : IsPadded l.rest;
  later : later_question l.current ≡ later_question l.question;
  left : ask_question l.current (text_of l.rest) ≡ ask_question l.question (text_of l.fn.bytes);
}

abbrev pub decreases-loop-word : goal.decreases-loop-word
decreases-loop-word l = length l.rest
