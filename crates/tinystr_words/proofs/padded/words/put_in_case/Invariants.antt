use Rattle.std.proofs.Common.{◌≡◌, ◌≤◌, ◌++◌, ◌-◌, length, take, drop}
use Rattle.tinystr_words.specs.Text.{IsPadded}
use Rattle.tinystr_words.specs.Questions.{in_case, later_case}
use Rattle.tinystr_words.proofs.padded.words.put_in_case.Given as goal

-- the array with its rest changed is the whole array changed, NULs and all
abbrev pub invariant-loop-bytes : goal.invariant-loop-bytes
invariant-loop-bytes l = record {
  inside : l.start ≤ length l.bytes;
  len : length l.bytes ≡ length l.fn.bytes;
  padded : IsPadded (drop l.start l.bytes);
  later : later_case l.applied ≡ later_case l.case;
  left : take l.start l.bytes ++ in_case l.applied (drop l.start l.bytes) ≡ in_case l.case l.fn.bytes;
}

abbrev pub decreases-loop-bytes : goal.decreases-loop-bytes
decreases-loop-bytes l = length l.bytes - l.start
