use Rattle.std.proofs.Common.{sym}
use Rattle.tinystr_words.proofs.Words.Kernels.{asked_letters}
use Rattle.tinystr_words.proofs.int_ops.Aligned.each_letter.Goals as goal

pub returns : goal.returns
returns g c = rw (← c.self.view_is, c.no_character_marked.ensures, c.outside.ensures, c.with_case_bits.ensures.bits) (sym (asked_letters c.self.invariant))
