use Rattle.std.proofs.Common.{arith, ◌-◌, ◌<◌}
use Rattle.std.proofs.lemmas.Bool.Decides.{nat_tests}
use Rattle.tinystr_packed.specs.Private.{pair_at, wanted}
use Rattle.tinystr_packed.specs.Rising.{text_at}
use Rattle.tinystr_packed.proofs.EightSearches.{AreAscending-later}
use Rattle.tinystr_packed.proofs.eight.are_at_least.Goals as goal

pub returns-else-index-eq0 : goal.returns-else-index-eq0
returns-else-index-eq0 g c is numbered i k lane before =
    let w = wanted c.args.pairs.now.firsts c.args.pairs.now.nexts in
    let last = c.args.index - 1 in
    let bit = c.bit_below_at.ensures.bit numbered in
    let less : pair_at c.args.start (text_at c.args.records.now last) < w 0 = grind (arith, nat_tests, bit, is) in
    omega (arith, less, AreAscending-later w c.requires.in_turn 0 i (omega arith) lane, numbered.rising.each k last (omega arith) (omega arith))
