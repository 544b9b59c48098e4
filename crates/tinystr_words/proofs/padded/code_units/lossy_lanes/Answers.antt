use Rattle.std.proofs.Common.{ap, ◌∙◌}
use Rattle.tinystr_words.specs.Words.{lanes_of, word}
use Rattle.tinystr_words.proofs.Words.Lanes.{IsBytes-from_Fits}
use Rattle.tinystr_words.proofs.Pieces.Word.{map-mod_bytes}
use Rattle.tinystr_words.proofs.Vectors.{sel_l-units}
use Rattle.tinystr_words.proofs.padded.code_units.lossy_lanes.Goals as goal

pub returns : goal.returns
returns c =
    let bytes = c.args.bytes.now in
    sel_l-units bytes c.lanes-given.result c.replacements.result c.args.replacement (IsBytes-from_Fits bytes c.type_inv.bytes) c.requires
    (c.lanes-given.ensures ∙ ap (lanes_of 16) (c.load.ensures ∙ ap word (map-mod_bytes bytes c.type_inv.bytes))) c.replacements.ensures
