use Rattle.std.proofs.Common.{◌<◌, ◌≤◌, ◌-◌, length, take}
use Rattle.std.specs.List.{IsDistinct}
use Rattle.std.specs.Str.{bytes_eq}
use Rattle.tinystr_hashed.proofs.packing_into.first_repeat.Given as goal

abbrev pub invariant-loop-low : goal.invariant-loop-low
invariant-loop-low g l = record {
  ordered : l.low < l.high;
  inside : l.high ≤ length l.texts;
  differ : IsDistinct bytes_eq (take l.low l.texts);
  repeat : ¬ IsDistinct bytes_eq (take l.high l.texts);
}

abbrev pub decreases-loop-low : goal.decreases-loop-low
decreases-loop-low g l = l.high - l.low
