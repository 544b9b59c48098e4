use Rattle.std.proofs.Common.{◌∙◌, ap, lit<}
use Rattle.tinystr_words.specs.Text.{pad}
use Rattle.tinystr_words.proofs.Texts.{IsPaddedText-made, text_of-made}
use Rattle.tinystr.proofs.EightLanes.{letters-read}
use Rattle.tinystr.proofs.ascii.letters.TinyAsciiStr+8.read_letters.Goals as goal

pub from_padded-requires : goal.from_padded-requires
from_padded-requires c =
    let read = letters-read c.args.code_units.now c.front_lanes.result c.lowercase_lanes-len.result c.type_inv.code_units c.front_lanes.ensures c.lowercase_lanes-len.ensures.len in
    (lit< tt, (lit< tt, IsPaddedText-made _ _ 8 (c.first_lanes_of_eight-letters.ensures ∙ ap (λ t. pad t 8) read.1) read.2))

pub returns-clause-len : goal.returns-clause-len
returns-clause-len c = (letters-read c.args.code_units.now c.front_lanes.result c.lowercase_lanes-len.result c.type_inv.code_units c.front_lanes.ensures c.lowercase_lanes-len.ensures.len).0

pub returns-clause-text : goal.returns-clause-text
returns-clause-text c =
    let read = letters-read c.args.code_units.now c.front_lanes.result c.lowercase_lanes-len.result c.type_inv.code_units c.front_lanes.ensures c.lowercase_lanes-len.ensures.len in
    c.from_padded.ensures ∙ text_of-made _ _ 8 (c.first_lanes_of_eight-letters.ensures ∙ ap (λ t. pad t 8) read.1) read.2.text
