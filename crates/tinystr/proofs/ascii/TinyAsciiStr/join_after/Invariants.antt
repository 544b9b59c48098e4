use Rattle.std.proofs.Common.{◌≡◌, ◌∷◌, length, take}
use Rattle.std.specs.List.{join_with_byte}
use Rattle.tinystr_words.specs.Text.{IsPadded, text_of}
use Rattle.tinystr.proofs.ascii.TinyAsciiStr.join_after.Given as goal

abbrev pub invariant-loop-text : goal.invariant-loop-text
invariant-loop-text g l = record {
  bytes_len : length l.bytes ≡ g.row.Q;
  padded : IsPadded l.bytes;
  len : l.len ≡ length (text_of l.bytes);
  joined : text_of l.bytes ≡ join_with_byte l.fn.separator (l.fn.first ∷ take l.text-index l.others);
}
