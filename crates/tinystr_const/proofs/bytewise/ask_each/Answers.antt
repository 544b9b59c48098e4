use Rattle.std.proofs.Common.{◌∙◌, sym}
use Rattle.tinystr_const.proofs.Passing.{list_all-pieces, padded_passes}
use Rattle.tinystr_const.proofs.bytewise.ask_each.Goals as goal

pub returns-then-not-all_pass : goal.returns-then-not-all_pass
returns-then-not-all_pass c =
    let q = c.args.question in
    sym (rw (← c.split_at.ensures.front, ← c.all_pass.ensures, c.if-not-all_pass.true) at (list_all-pieces q 16 c.loop-rest.rest.now))
    ∙ c.loop-rest.invariant
    ∙ padded_passes q c.args.bytes.now c.requires
