use Rattle.std.proofs.Common.{nat_eq, length, arith}
use Rattle.std.proofs.lemmas.Bool.Decides.{nat_tests}
use Rattle.tinystr_words.proofs.Parts.Found.{position_or_len-take}
use Rattle.tinystr_lines.proofs.split.find_ahead.Goals as goal

pub returns-then-text-at : goal.returns-then-text-at
returns-then-text-at c =
    let lanes = rw (← c.in-Some.ensures.cases.same) at (position_or_len-take (λ b. nat_eq b c.args.byte) 32 c.args.ahead.now) in
    let text = rw (← c.requires) at (position_or_len-take (λ b. nat_eq b c.args.byte) (length c.args.text.now) c.args.ahead.now) in
    grind (arith, nat_tests, lanes, text, c.place_in_lanes-at.ensures, c.if-text-at.true)

pub returns-then-at-lt32 : goal.returns-then-at-lt32
returns-then-at-lt32 c =
    let lanes = rw (← c.in-Some.ensures.cases.same) at (position_or_len-take (λ b. nat_eq b c.args.byte) 32 c.args.ahead.now) in
    let text = rw (← c.requires) at (position_or_len-take (λ b. nat_eq b c.args.byte) (length c.args.text.now) c.args.ahead.now) in
    grind (arith, nat_tests, lanes, text, c.place_in_lanes-at.ensures, c.if-text-at.false, c.if-at-lt32.true)
