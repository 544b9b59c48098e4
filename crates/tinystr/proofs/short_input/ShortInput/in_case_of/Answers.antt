use Rattle.std.proofs.Common.{◌∙◌, rules}
use Rattle.tinystr.proofs.ShortInputs.{held_in_case}
use Rattle.tinystr.proofs.short_input.ShortInput.in_case_of.Goals as goal

pub text_of-requires : goal.text_of-requires
text_of-requires c =
    let r = c.requires in
    rw (c.lanes_in_case_of-first.ensures) (held_in_case c.args.from c.args.to c.args.self.now c.lanes.result c.args.example.now c.map_or.result c.lanes.ensures (search rules) r.text r.from.0 r.to (search rules)).0

pub returns : goal.returns
returns c =
    let r = c.requires in
    c.text_of.ensures ∙ rw (c.lanes_in_case_of-first.ensures) (held_in_case c.args.from c.args.to c.args.self.now c.lanes.result c.args.example.now c.map_or.result c.lanes.ensures (search rules) r.text r.from.0 r.to (search rules)).1
