use Rattle.std.proofs.Common.{◌∙◌, take, ap, arith, rules}
use Rattle.std.proofs.lemmas.List.{length-take, take-take, take_all}
use Rattle.tinystr_words.specs.Text.{text_of}
use Rattle.tinystr_words.proofs.Padding.{IsPadded-first_lanes}
use Rattle.tinystr_words.proofs.Texts.{length-text_of-le}
use Rattle.tinystr.proofs.ascii.TinyAsciiStr.prefix.Goals as goal

pub from_padded-requires : goal.from_padded-requires
from_padded-requires g c =
    let eight = c.resize.ensures.padded c.padded_bytes-bytes.ensures.padded in
    let made = IsPadded-first_lanes c.resize.result c.first_lanes_of_eight-lanes.result 8 c.args.len eight (omega arith) c.first_lanes_of_eight-lanes.ensures in
    (search rules, (search rules, c.resize-then-this-le8.ensures.padded made.0))

pub returns-then-this-le8 : goal.returns-then-this-le8
returns-then-this-le8 g c =
    let bytes = c.padded_bytes-bytes.result.now in
    let t = text_of bytes in
    let whole = c.padded_bytes-bytes.ensures.padded in
    let made = IsPadded-first_lanes c.resize.result c.first_lanes_of_eight-lanes.result 8 c.args.len (c.resize.ensures.padded whole) (omega arith) c.first_lanes_of_eight-lanes.ensures in
    let fits = length-text_of-le bytes in
    c.from_padded.ensures ∙ c.resize-then-this-le8.ensures.text made.0
    ∙ ap (take g.row.N) (made.1 ∙ ap (take c.args.len) (c.resize.ensures.text whole ∙ take_all 8 t (omega arith)))
    ∙ take_all g.row.N (take c.args.len t) (omega (arith, length-take c.args.len t))
    ∙ ap (take c.args.len) c.padded_bytes-bytes.ensures.text

pub returns-then-len-le16 : goal.returns-then-len-le16
returns-then-len-le16 g c =
    c.text_of_first_lanes.ensures ∙ ap (take c.args.len) c.first_sixteen.ensures.text ∙ take-take c.args.len 16 (text_of c.padded_bytes-bytes.result.now) (omega arith)
    ∙ ap (take c.args.len) c.padded_bytes-bytes.ensures.text
