use Rattle.std.proofs.Common.{◌%◌, ap, length, map, ◌∙◌, ◌≡◌}
use Rattle.std.proofs.lemmas.List.{length-map}
use Rattle.tinystr_words.specs.Words.{lanes_of}
use Rattle.tinystr_words.proofs.Words.Numbers.{bytes_low_first_is_lanes, lanes_of-word}
use Rattle.tinystr_words.proofs.Pieces.Word.{IsBytes-low, every_other-word}
use Rattle.tinystr_words.proofs.code_unit.U16CodeUnit.eight_low_bytes.Goals as goal

pub returns : goal.returns
returns c =
    let units = c.args.units.now in
    let low = map (λ u. u % 256) units in
    let eight : length low ≡ 8 = length-map units (λ u. u % 256) ∙ c.requires in
    c.to_le_bytes.ensures ∙ bytes_low_first_is_lanes 8 _ ∙ ap (lanes_of 8) (every_other-word 8 units c.requires c.type_inv.units) ∙ (rw eight at (lanes_of-word low (IsBytes-low (λ u. u) units)))
