use Rattle.std.proofs.Common.{◌<◌, length, map, sym, ◌∙◌, ap, arith}
use Rattle.std.proofs.lemmas.List.{get_or-map, length-map}
use Rattle.tinystr_words.proofs.Reading.OnePass.{IsScanned-nul, IsScanned-char}
use Rattle.tinystr.proofs.ascii.readers.find_fault.Goals as goal
use Rattle.tinystr.proofs.ascii.readers.find_fault.Goals.{then-code-eq0, else-code-eq0+else-is_after_nul}

pub loop-unit-preserved : goal.loop-unit-preserved
loop-unit-preserved g c =
    let number = g.U.CodeUnit.number in
    let here = get_or-map number c.args.units.now c.loop-unit.unit-index c.unit-item.result 0 c.loop-unit-test.true ∙ ap number (sym c.unit-item.is) ∙ sym c.code-code.ensures in
    let inside : c.loop-unit.unit-index < length (map number c.args.units.now) = omega (arith, length-map c.args.units.now number) in
    elim c.if-code-eq0.branch [
      | then-code-eq0 w ↦ rw w.is_after_nul-is (IsScanned-nul _ _ _ c.loop-unit.invariant inside (here ∙ w.if-code-eq0.true))
      | else-code-eq0+else-is_after_nul w ↦
          rw (w.is_after_nul-is, w.if-is_after_nul.false)
          (IsScanned-char _ _ (rw w.if-is_after_nul.false at c.loop-unit.invariant) inside (omega (arith, here)) (omega (arith, here)))
    ]
