use Rattle.std.proofs.Common.{◌≡◌, take}
use Rattle.std.specs.List.{list_all}
use Rattle.tinystr_const.proofs.Passing.{passes_later}
use Rattle.tinystr_const.proofs.bytewise.all_pass.Given as goal

abbrev pub invariant-loop-byte : goal.invariant-loop-byte
invariant-loop-byte l = l.all ≡ list_all (passes_later l.question) (take l.byte-index l.bytes)
