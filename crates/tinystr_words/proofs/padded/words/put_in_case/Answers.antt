use Rattle.std.proofs.Common.{◌≡◌, ◌+◌, ◌-◌, ◌≤◌, length, rules, arith, ◌∙◌, sym, ap}
use borrow.Rule.Slice.PartMut.{same_len_mid}
use Rattle.tinystr_words.specs.Questions.{in_case, later_case}
use Rattle.tinystr_words.specs.Text.{pad}
use Rattle.tinystr_words.proofs.Pieces.Answers.{in_case-padded, later_case-same}
use Rattle.tinystr_words.proofs.Pieces.PaddedWords.{in_case-first_word, in_case-last_word, IsPadded-after_word}
use Rattle.tinystr_words.proofs.padded.words.put_in_case.Goals as goal

pub loop-bytes-preserved : goal.loop-bytes-preserved
loop-bytes-preserved c =
    let now = c.loop-bytes in
    let later = c.of_later_words-applied in
    let fits : now.start + 16 ≤ length now.bytes = omega arith in
    let size : now.start + 16 - now.start ≡ 16 = omega arith in
    let written : length c.copy_from_slice.new.self ≡ now.start + 16 - now.start = search rules in
    let kept = same_len_mid now.start (now.start + 16 - now.start) now.bytes c.copy_from_slice.new.self c.copy_from_slice.ensures.len in
    record {
      inside = omega (arith, kept);
      len = kept ∙ now.invariant.len;
      padded = IsPadded-after_word now.bytes c.copy_from_slice.new.self now.start _ fits size written now.invariant.padded;
      later = ap (λ x. later_case x) later.ensures ∙ later_case-same c.args.case;
      left = in_case-first_word _ now.bytes c.in_case-word.result c.copy_from_slice.new.self now.start _ now.applied later.result fits size now.invariant.padded
          (c.in_case-word.ensures ∙ ap (λ t. pad (in_case now.applied t) 16) c.from_padded.ensures) c.copy_from_slice.ensures.after (later.ensures ∙ sym now.invariant.later) now.invariant.left;
    }

pub returns : goal.returns
returns c =
    let now = c.loop-bytes in
    in_case-last_word _ now.bytes c.in_case-word-2.result c.copy_from_slice-2.new.self c.from_padded-2.result now.start _ (length now.bytes - now.start) now.applied now.invariant.inside (omega arith) (omega arith) (omega arith) now.invariant.padded c.from_padded-2.ensures c.in_case-word-2.ensures c.copy_from_slice-2.ensures.after now.invariant.left
    ∙ in_case-padded c.args.case c.args.bytes.now _ c.requires
