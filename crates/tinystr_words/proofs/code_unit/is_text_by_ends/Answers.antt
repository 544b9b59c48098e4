use Rattle.std.proofs.Common.{◌≡◌, ◌-◌, length, map, take, drop, ap, ◌∙◌, sym, arith}
use Rattle.std.proofs.lemmas.List.{length-map, length-drop, take-map, drop-map, take_all}
use Rattle.tinystr_words.proofs.Pieces.CodeUnits.{IsText-ends-Decides}
use Rattle.tinystr_words.proofs.code_unit.is_text_by_ends.Goals as goal

pub returns : goal.returns
returns g c =
    let number = g.U.CodeUnit.number in
    let units = c.args.units.now in
    let count = c.args.count in
    let long : length (map number units) ≡ length units = length-map units number in
    let back : map number (take (length units - (length units - count)) (drop (length units - count) units)) ≡ drop (length (map number units) - count) (map number units) =
    ap (map number) (take_all (length units - (length units - count)) (drop (length units - count) units) (omega (arith, length-drop (length units - count) units)))
    ∙ sym (drop-map number (length units - count) units) ∙ ap (λ n. drop (n - count) (map number units)) (sym long) in
    IsText-ends-Decides (map number units) count c.are_characters.result c.are_characters-2.result (omega arith) (omega arith)
    (rw (← take-map number count units) at c.are_characters.ensures) (rw back at c.are_characters-2.ensures)
