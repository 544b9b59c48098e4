use Rattle.std.proofs.Common.{◌≡◌, ◌<◌, arith, rules, length, get_or, map, sym, ap, ◌∙◌}
use Rattle.std.proofs.lemmas.List.{get_or-map, length-map}
use Rattle.tinystr_words.proofs.Pieces.CodeUnits.{IsReadPiece-more}
use Rattle.tinystr_words.proofs.padded.code_units.read_piece.Goals as goal

pub loop-i-preserved : goal.loop-i-preserved
loop-i-preserved g c =
    let number = g.U.CodeUnit.number in
    let units = map number c.args.units.now in
    let inside : c.loop-i.i < length c.args.units.now = omega arith in
    let here : get_or units c.loop-i.i 0 ≡ number c.index-units-i.result =
    get_or-map number c.args.units.now c.loop-i.i c.index-units-i.result 0 inside ∙ ap number (sym c.index-units-i.is) in
    record {
      read = IsReadPiece-more c.args.bytes.now c.loop-i.bytes units c.args.replacement c.args.at c.loop-i.i c.byte_or.result c.loop-i.are_characters c.is_character-are_characters.result
          (omega (arith, length-map c.args.units.now number)) (omega (arith, length-map c.args.units.now number)) c.loop-i.invariant.read
          (rw here c.is_character-are_characters.ensures) (rw here c.byte_or.ensures);
      len = search rules;
    }
