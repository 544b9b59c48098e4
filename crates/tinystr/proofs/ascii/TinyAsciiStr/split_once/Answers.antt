use Rattle.std.proofs.Common.{◌+◌, ◌∙◌, take, drop, ap, sym, arith}
use Rattle.std.proofs.lemmas.List.{length-drop, length-take, take_all}
use Rattle.tinystr.proofs.Splits.{split_once-found, split_once-missed}
use Rattle.tinystr.proofs.ascii.TinyAsciiStr.split_once.Goals as goal

pub returns-in_err-at : goal.returns-in_err-at
returns-in_err-at g c = rw c.from_residual.ensures (split_once-missed c.args.separator c.args.self.now (sym c.in_err-at.ensures.place))

pub returns-then-this-le8 : goal.returns-then-this-le8
returns-then-this-le8 g c =
    let t = c.args.self.now in
    let at = c.in_ok-at.at in
    let whole = c.resize.ensures.whole c.if-this-le8.true in
    let front = c.resize-then-this-le8.ensures.text ∙ ap (take g.row.N) (c.split_around-before.ensures.part ∙ ap (take at) whole) ∙ take_all g.row.N (take at t) (omega (arith, length-take at t, c.fits.ensures.fits)) in
    let back = c.resize-then-this-le8-2.ensures.text ∙ ap (take g.row.N) (c.split_around-before.ensures.rest ∙ ap (drop (at + 1)) whole) ∙ take_all g.row.N (drop (at + 1) t) (omega (arith, length-drop (at + 1) t, c.fits.ensures.fits)) in
    split_once-found c.args.separator t c.resize-then-this-le8.result c.resize-then-this-le8-2.result at (sym c.in_ok-at.ensures.place) front back

pub returns : goal.returns
returns g c =
    let t = c.args.self.now in
    let at = c.in_ok-at.at in
    let back = c.suffix.ensures ∙ take_all g.row.N (drop (at + 1) t) (omega (arith, length-drop (at + 1) t, c.fits.ensures.fits)) in
    split_once-found c.args.separator t c.take.result c.suffix.result at (sym c.in_ok-at.ensures.place) c.take.ensures back
