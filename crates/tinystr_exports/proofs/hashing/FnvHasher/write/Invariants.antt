use Rattle.std.proofs.Common.{◌≡◌, ◌*◌, ◌%◌, ◌^◌, take, fold}
use Rattle.std.specs.Prelude.{bit_xor}
use Rattle.tinystr_exports.proofs.hashing.FnvHasher.write.Given as goal

abbrev pub invariant-loop-byte : goal.invariant-loop-byte
invariant-loop-byte l = l.hash ≡ fold (λ h b. (bit_xor h b * 0x100000001b3) % 2 ^ 64) l.fn.self.0 (take l.byte-index l.bytes)
