use Rattle.std.proofs.Common.{arith, ◌+◌}
use Rattle.std.proofs.lemmas.Bool.Decides.{nat_tests}
use Rattle.tinystr_words.proofs.Padding.{ArePaddedFrom-more, ArePaddedFrom-padded, IsPadded-whole}
use Rattle.tinystr_words.proofs.padded.padding.is_padded.Goals as goal

pub returns : goal.returns
returns c =
    let bytes = c.args.bytes.now in
    let start = c.loop-start.start in
    let passed = c.loop-start.invariant.passed in
    let here = c.are_sixteen_padded-2.ensures in
    let ends = c.are_sixteen_padded-3.ensures in (
      λ t. IsPadded-whole bytes (start + 16 + 16)
          (ArePaddedFrom-more bytes (start + 16) (ArePaddedFrom-more bytes start passed (here.0 (grind (arith, nat_tests)))) (ends.0 (grind (arith, nat_tests))))
          (omega arith),
      λ p.
          let b = here.1 (ArePaddedFrom-padded bytes start 16 p) in
          let d = ends.1 (ArePaddedFrom-padded bytes (start + 16) 16 p) in
          grind (arith, nat_tests, b, d),
    )
