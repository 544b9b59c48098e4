use Rattle.std.proofs.Common.{◌∙◌}
use Rattle.tinystr_words.proofs.Words.Numbers.{lanes_of-halves}
use Rattle.tinystr_words.proofs.word.U128Word16.to_bytes_in_memory.Goals as goal

pub returns : goal.returns
returns c =
    let low = c.copy_from_slice-2.ensures.after ∙ c.to_bytes_in_registers-2.ensures in
    let high = c.copy_from_slice.ensures.after ∙ c.to_bytes_in_registers.ensures in
    rw (low, high) (lanes_of-halves 8 c.args.self)
