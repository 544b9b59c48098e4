use Rattle.std.proofs.Common.{◌≡◌, ap, arith}
use Rattle.std.proofs.lemmas.Bool.Decides.{nat_tests}
use Rattle.tinystr_packed.specs.Private.{number_at, pair_at}
use Rattle.tinystr_packed.proofs.RecordOrder.{is_eq-Decides, same-pair, same-short}
use Rattle.tinystr_packed.proofs.record.are_same.Goals as goal

pub returns-then-this-le8 : goal.returns-then-this-le8
returns-then-this-le8 g c x y =
    let left = c.args.left.now in
    let right = c.args.right.now in (
      λ yes.
          let same : number_at 0 left ≡ number_at 0 right = grind (arith, nat_tests) in
          same-short left right g.row.N (omega arith) x y same,
      λ same.
          let number = ap (number_at 0) same in
          grind (arith, nat_tests, number),
    )

pub returns-then-this-le16 : goal.returns-then-this-le16
returns-then-this-le16 g c x y =
    let left = c.args.left.now in
    let right = c.args.right.now in (
      λ yes.
          let same : pair_at 0 left ≡ pair_at 0 right = grind (arith, nat_tests) in
          same-pair left right g.row.N (omega arith) (omega arith) x y same,
      λ same.
          let number = ap (pair_at 0) same in
          grind (arith, nat_tests, number),
    )

pub returns : goal.returns
returns g c x y = rw (c.is_eq.ensures, c.compare.ensures) (is_eq-Decides c.args.left.now c.args.right.now)
