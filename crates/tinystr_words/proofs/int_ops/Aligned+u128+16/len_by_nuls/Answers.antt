use Rattle.std.proofs.Common.{arith}
use Rattle.tinystr_words.proofs.Words.Texts.{nuls-text_in, leading_zeros-nuls}
use Rattle.tinystr_words.proofs.int_ops.Aligned+u128+16.len_by_nuls.Goals as goal

pub overflow_sub-result : goal.overflow_sub-result
overflow_sub-result c = omega (arith, nuls-text_in c.self.invariant c.lanes.result c.lanes.ensures)

pub overflow_sub-result-2 : goal.overflow_sub-result-2
overflow_sub-result-2 c = omega (arith, leading_zeros-nuls c.self.invariant c.lanes.result c.lanes.ensures)

pub returns : goal.returns
returns c = rw (← c.self.view_is) (omega (arith, leading_zeros-nuls c.self.invariant c.lanes.result c.lanes.ensures, c.self.invariant.fits))
