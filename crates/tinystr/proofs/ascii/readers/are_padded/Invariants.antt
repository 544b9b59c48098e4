use Rattle.std.proofs.Common.{All, IsTrue, ◌↔◌, take}
use Rattle.tinystr_words.specs.Text.{IsPaddedText}
use Rattle.tinystr.proofs.ascii.readers.are_padded.Given as goal

abbrev pub invariant-loop-bytes : goal.invariant-loop-bytes
invariant-loop-bytes g l = IsTrue l.are_padded ↔ All (λ bytes. IsPaddedText bytes g.row.N) (take l.bytes-index l.records)
