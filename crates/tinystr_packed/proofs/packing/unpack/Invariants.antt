use Rattle.std.proofs.Common.{◌≡◌}
use Rattle.tinystr_packed.proofs.packing.unpack.Given as goal

abbrev pub invariant-loop-text : goal.invariant-loop-text
invariant-loop-text g l = l.texts.items ≡ l.yielded
