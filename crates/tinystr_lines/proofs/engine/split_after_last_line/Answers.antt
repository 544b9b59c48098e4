use Rattle.std.proofs.Common.{◌-◌, arith}
use Rattle.std.proofs.lemmas.List.{length-take-le}
use Rattle.tinystr_lines.specs.Reply.{is_line_feed}
use Rattle.tinystr_lines.proofs.Splits.{none_from-lanes}
use Rattle.tinystr_lines.proofs.engine.split_after_last_line.Goals as goal

pub loop-lanes-preserved : goal.loop-lanes-preserved
loop-lanes-preserved c =
    let end = c.loop-lanes.end in
    let piece = c.args.piece.now in
    let given = c.loop-lanes.invariant in
    let chunk = c.in-Some.ensures.cases in
    let some = rw (length-take-le end piece given.inside) at chunk.0 in
    record {
      inside = omega (arith, given.inside);
      after = none_from-lanes is_line_feed (end - 32) end piece c.in-Some.lanes.now (omega (arith, some)) given.inside chunk.1.same (omega (arith, c.place_in_lanes.ensures, c.if-place_in_lanes-lt32.false)) given.after;
    }
