use Rattle.std.proofs.Common.{map, arith}
use Rattle.std.proofs.lemmas.List.{length-map}
use Rattle.tinystr_words.proofs.Pieces.Word.{map-mod_text}
use Rattle.tinystr_words.proofs.Words.Texts.{HoldsText-word}
use Rattle.tinystr_words.proofs.int_ops.Aligned.try_from_text.Goals as goal

pub invariant_of-result : goal.invariant_of-result
invariant_of-result g c =
    let number = g.U.CodeUnit.number in
    let text = c.is_text.ensures.0 c.if-is_text.true in
    rw (c.load.ensures, map-mod_text number c.args.units.now text)
    (HoldsText-word g.row.LEN (map number c.args.units.now) text (omega (arith, length-map c.args.units.now number))).0

pub returns-then-is_text : goal.returns-then-is_text
returns-then-is_text g c =
    let number = g.U.CodeUnit.number in
    let text = c.is_text.ensures.0 c.if-is_text.true in (
      text,
      rw (c.load.ensures, map-mod_text number c.args.units.now text)
          (HoldsText-word g.row.LEN (map number c.args.units.now) text (omega (arith, length-map c.args.units.now number))).1,
    )
