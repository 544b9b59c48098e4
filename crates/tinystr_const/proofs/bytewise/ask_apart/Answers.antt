use Rattle.std.proofs.Common.{◌∙◌, arith, sym}
use Rattle.tinystr_words.proofs.Texts.{IsPaddedText-drop}
use Rattle.tinystr_const.proofs.Passing.{ask-apart}
use Rattle.tinystr_const.proofs.bytewise.ask_apart.Goals as goal

pub ask_each-requires : goal.ask_each-requires
ask_each-requires c = rw c.split_at.ensures.back (IsPaddedText-drop _ _ 16 c.requires.padded)

pub returns-then-front_passes : goal.returns-then-front_passes
returns-then-front_passes c =
    let cut = c.split_at in
    let answer = ask-apart c.args.first c.args.others c.args.bytes.now cut.result.0.now cut.result.1.now _ c.requires.padded cut.ensures.front cut.ensures.back (omega arith) c.copy_from_slice.ensures.after in
    c.ask_each.ensures ∙ sym (rw (← c.passes.ensures, ← c.all_pass.ensures, c.if-front_passes.true) at answer)

pub returns-else-front_passes : goal.returns-else-front_passes
returns-else-front_passes c =
    let cut = c.split_at in
    let answer = ask-apart c.args.first c.args.others c.args.bytes.now cut.result.0.now cut.result.1.now _ c.requires.padded cut.ensures.front cut.ensures.back (omega arith) c.copy_from_slice.ensures.after in
    c.if-front_passes.false ∙ sym (rw (← c.passes.ensures, ← c.all_pass.ensures, c.if-front_passes.false) at answer)
