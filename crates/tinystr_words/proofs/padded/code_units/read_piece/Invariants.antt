use Rattle.std.proofs.Common.{◌≡◌, length, map}
use Rattle.tinystr_words.specs.Private.{IsReadPiece}
use Rattle.tinystr_words.proofs.padded.code_units.read_piece.Given as goal

abbrev pub invariant-loop-i : goal.invariant-loop-i
invariant-loop-i g l = record {
  read : IsReadPiece l.are_characters l.initial.bytes l.bytes (map g.U.CodeUnit.number l.units) l.replacement l.at l.i;
  len : length l.bytes ≡ length l.initial.bytes;
}
