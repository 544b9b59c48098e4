use Rattle.std.proofs.Common.{◌+◌, nat_eq, ap, ◌∙◌, arith}
use Rattle.std.proofs.lemmas.Bool.Decides.{nat_tests}
use Rattle.tinystr_words.proofs.Parts.Found.{position_or_len-take, position_or_len-drop}
use Rattle.tinystr_lines.proofs.split.find.Goals as goal

pub returns-then-at-lt32 : goal.returns-then-at-lt32
returns-then-at-lt32 c =
    let cut = c.in-Some.ensures.cases in
    let at = rw (← cut.0) at (position_or_len-take (λ b. nat_eq b c.args.byte) 32 c.loop-lanes.rest.now) in
    grind (arith, nat_tests, at, cut.2, c.place_in_lanes-at.ensures, c.if-at-lt32.true, c.loop-lanes.invariant.total, c.loop-lanes.invariant.passed)

pub loop-lanes-preserved : goal.loop-lanes-preserved
loop-lanes-preserved c =
    let cut = c.in-Some.ensures.cases in
    let at = rw (← cut.0) at (position_or_len-take (λ b. nat_eq b c.args.byte) 32 c.loop-lanes.rest.now) in
    let later = position_or_len-drop (λ b. nat_eq b c.args.byte) 32 c.loop-lanes.rest.now (omega (arith, at, c.place_in_lanes-at.ensures, c.if-at-lt32.false)) in
    record {
      total = omega (arith, c.loop-lanes.invariant.total, cut.2);
      passed = c.loop-lanes.invariant.passed ∙ ap (λ n. c.loop-lanes.start + n) later ∙ rw cut.1 (omega arith);
    }
