use Rattle.std.proofs.Common.{map, get_or, sym, ap, ◌∙◌, ◌≡◌, arith}
use Rattle.std.proofs.lemmas.List.{get_or-map, length-map, take_all}
use Rattle.tinystr_words.specs.Text.{IsTextByte}
use Rattle.tinystr_words.proofs.Pieces.CodeUnits.{All-take-Decides}
use Rattle.tinystr_words.proofs.code_unit.are_characters.Goals as goal

pub loop-unit-preserved : goal.loop-unit-preserved
loop-unit-preserved g c =
    let number = g.U.CodeUnit.number in
    let here : get_or (map number c.args.units.now) c.loop-unit.unit-index 0 ≡ number c.unit-item.result =
    get_or-map number c.args.units.now c.loop-unit.unit-index c.unit-item.result 0 c.loop-unit-test.true ∙ ap number (sym c.unit-item.is) in
    All-take-Decides IsTextByte (map number c.args.units.now) c.loop-unit.unit-index 0 c.loop-unit.are_characters c.is_character-are_characters.result
    (omega (arith, length-map c.args.units.now number)) c.loop-unit.invariant (rw here c.is_character-are_characters.ensures)

pub returns : goal.returns
returns g c =
    let number = g.U.CodeUnit.number in
    let all = take_all c.loop-unit.unit-index (map number c.args.units.now) (omega (arith, length-map c.args.units.now number)) in
    rw all at c.loop-unit.invariant
