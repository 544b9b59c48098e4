use Rattle.std.proofs.Common.{◌∙◌, rules, sym}
use Rattle.tinystr_words.proofs.Pieces.PaddedWords.{ask_question-word_passes, ask_question-word_fails}
use Rattle.tinystr_words.proofs.padded.words.ask.Goals as goal

pub returns-then-not-ask : goal.returns-then-not-ask
returns-then-not-ask c = ask_question-word_fails _ _ _ c.loop-word.current _ _ c.in-Some.ensures c.ask.ensures c.if-not-ask.true c.loop-word.invariant.left

pub loop-word-preserved : goal.loop-word-preserved
loop-word-preserved c =
    let now = c.loop-word in
    let later = c.of_later_words-current in
    record {
      padded = c.in-Some.ensures.padded;
      later = search rules;
      left = ask_question-word_passes now.rest.now c.in-Some.word c.in-Some.after.now now.current later.result c.ask.result _ c.in-Some.ensures c.ask.ensures c.if-not-ask.false
          (later.ensures ∙ sym now.invariant.later) now.invariant.left;
    }
