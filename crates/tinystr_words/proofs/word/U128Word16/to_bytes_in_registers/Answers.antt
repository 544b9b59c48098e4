use Rattle.std.proofs.Common.{◌%◌, ◌/◌, ◌∙◌}
use Rattle.tinystr_words.proofs.Words.Numbers.{lanes_of-pieces, bytes_low_first_is_lanes}
use Rattle.tinystr_words.proofs.word.U128Word16.to_bytes_in_registers.Goals as goal

pub returns : goal.returns
returns c =
    let w = c.args.self in
    let low = c.copy_from_slice-3.ensures.after ∙ c.to_le_bytes-3.ensures ∙ bytes_low_first_is_lanes 4 (w % 4294967296) in
    let next = c.copy_from_slice-2.ensures.after ∙ c.to_le_bytes-2.ensures ∙ bytes_low_first_is_lanes 2 (w / 4294967296 % 65536) in
    let high = c.copy_from_slice.ensures.after ∙ c.to_le_bytes.ensures ∙ bytes_low_first_is_lanes 8 (w / 72057594037927936 % 18446744073709551616) in
    rw (low, next, high) (lanes_of-pieces w c.ranges.self.fits)
