use Rattle.std.proofs.Common.{◌≡◌, take}
use Rattle.std.specs.Prelude.{fold}
use Rattle.tinystr_hashed.specs.Hashing.{hash_on}
use Rattle.tinystr_hashed.proofs.hashing.hash_of.Given as goal

abbrev pub invariant-loop-piece : goal.invariant-loop-piece
invariant-loop-piece g l = l.hash ≡ fold hash_on l.fn.start (take l.piece-index l.pieces)
