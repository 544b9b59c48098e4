use Rattle.std.proofs.Common.{◌≤◌, arith}
use Rattle.std.proofs.lemmas.Bool.Decides.{nat_tests}
use Rattle.tinystr_packed.specs.Private.{pair_at, wanted}
use Rattle.tinystr_packed.specs.Rising.{text_at}
use Rattle.tinystr_packed.proofs.EightSearches.{AreAscending-later}
use Rattle.tinystr_packed.proofs.eight.are_at_most.Goals as goal

pub returns-else-index-records : goal.returns-else-index-records
returns-else-index-records g c is numbered i k lane from inside =
    let w = wanted c.args.pairs.now.firsts c.args.pairs.now.nexts in
    let bit = c.bit_below_at.ensures.bit numbered in
    let other : w 7 ≤ pair_at c.args.start (text_at c.args.records.now c.args.index) = grind (arith, nat_tests, bit, is) in
    omega (arith, other, AreAscending-later w c.requires.in_turn i 7 (omega arith) (omega arith), numbered.rising.each c.args.index k from inside)
