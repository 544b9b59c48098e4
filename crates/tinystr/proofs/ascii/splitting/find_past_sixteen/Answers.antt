use Rattle.std.proofs.Common.{◌==◌, ◌∙◌, ap, sym, take}
use Rattle.tinystr_words.specs.Text.{text_of}
use Rattle.tinystr_words.proofs.Parts.Found.{position-after}
use Rattle.tinystr.proofs.ascii.splitting.find_past_sixteen.Goals as goal

pub returns-in-Some : goal.returns-in-Some
returns-in-Some c =
    let here = c.first_sixteen.ensures.text ∙ ap (take 16) c.rest_of.ensures.text in
    sym (position-after (λ b. b == c.args.byte) (text_of c.args.bytes.now) c.loop-start.start 16 c.in-Some.at c.loop-start.invariant (rw here at (sym c.in-Some.ensures)))
