use Rattle.std.proofs.Common.{◌+◌, ◌-◌, ◌≤◌, length}
use Rattle.tinystr_words.specs.Private.{ArePaddedFrom}
use Rattle.tinystr_words.proofs.padded.padding.is_padded.Given as goal

-- what was tested
abbrev pub invariant-loop-start : goal.invariant-loop-start
invariant-loop-start l = record {
  inside : l.start + 16 ≤ length l.bytes;
  passed : ArePaddedFrom l.bytes 0 l.start;
}

abbrev pub decreases-loop-start : goal.decreases-loop-start
decreases-loop-start l = length l.bytes - l.start
