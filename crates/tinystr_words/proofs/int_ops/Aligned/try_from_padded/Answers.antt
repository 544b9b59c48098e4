use Rattle.std.proofs.Common.{◌∙◌, sym}
use Rattle.std.proofs.lemmas.Bool.{false≢true}
use Rattle.tinystr_words.proofs.Pieces.Word.{map-mod_bytes}
use Rattle.tinystr_words.proofs.Words.Lanes.{IsBytes-from_Fits}
use Rattle.tinystr_words.proofs.Padding.{is_padded_word-Decides}
use Rattle.tinystr_words.proofs.Words.Texts.{HoldsText-padded}
use Rattle.tinystr_words.proofs.int_ops.Aligned.try_from_padded.Goals as goal

pub invariant_of-result : goal.invariant_of-result
invariant_of-result g c =
    let e = rw (c.unpadded.ensures, c.splat.ensures, c.marks.ensures, c.load-word.ensures, map-mod_bytes c.args.bytes.now c.type_inv.bytes) at c.equals.ensures in
    let p = (is_padded_word-Decides g.row.LEN c.args.bytes.now (IsBytes-from_Fits c.args.bytes.now c.type_inv.bytes) c.requires.fits).0 (sym e ∙ c.if-equals.true) in
    rw c.load-word.ensures (HoldsText-padded g.row.LEN c.args.bytes.now c.type_inv.bytes p c.requires.fits).0

pub returns-then-equals : goal.returns-then-equals
returns-then-equals g c =
    let e = rw (c.unpadded.ensures, c.splat.ensures, c.marks.ensures, c.load-word.ensures, map-mod_bytes c.args.bytes.now c.type_inv.bytes) at c.equals.ensures in
    let p = (is_padded_word-Decides g.row.LEN c.args.bytes.now (IsBytes-from_Fits c.args.bytes.now c.type_inv.bytes) c.requires.fits).0 (sym e ∙ c.if-equals.true) in
    (p, rw c.load-word.ensures (HoldsText-padded g.row.LEN c.args.bytes.now c.type_inv.bytes p c.requires.fits).1)

pub returns-else-equals : goal.returns-else-equals
returns-else-equals g c = λ p.
    let e = rw (c.unpadded.ensures, c.splat.ensures, c.marks.ensures, c.load-word.ensures, map-mod_bytes c.args.bytes.now c.type_inv.bytes) at c.equals.ensures in
    let t = (is_padded_word-Decides g.row.LEN c.args.bytes.now (IsBytes-from_Fits c.args.bytes.now c.type_inv.bytes) c.requires.fits).1 p in
    absurd (false≢true (sym c.if-equals.false ∙ e ∙ t))
