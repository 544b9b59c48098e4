use Rattle.std.proofs.Common.{◌≤◌, length}
use Rattle.tinystr_exports.proofs.batch.write_texts.Given as goal

abbrev pub invariant-loop-text : goal.invariant-loop-text
invariant-loop-text g l = l.start ≤ length l.bytes
