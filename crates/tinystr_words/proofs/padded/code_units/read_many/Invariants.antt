use Rattle.std.proofs.Common.{◌≡◌, ◌+◌, ◌-◌, ◌<◌, length, map}
use Rattle.tinystr_words.specs.Private.{IsReadPiece}
use Rattle.tinystr_words.proofs.padded.code_units.read_many.Given as goal

abbrev pub invariant-loop-at : goal.invariant-loop-at
invariant-loop-at g l = record {
  inside : l.at < l.last + 32;
  read : IsReadPiece l.are_characters l.initial.bytes l.bytes (map g.U.CodeUnit.number l.units) l.replacement 0 l.at;
  len : length l.bytes ≡ length l.initial.bytes;
}

abbrev pub decreases-loop-at : goal.decreases-loop-at
decreases-loop-at g l = l.last - l.at
