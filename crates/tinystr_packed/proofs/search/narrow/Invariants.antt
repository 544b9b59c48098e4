use Rattle.std.proofs.Common.{◌≡◌, ◌+◌, ◌<◌, ◌≤◌, ◌/◌, length}
use Rattle.tinystr_packed.specs.Private.{AreDistinguished}
use Rattle.tinystr_packed.specs.Rising.{text_at, IsFirstNotBelowWithin}
use Rattle.tinystr_packed.proofs.search.narrow.Given as goal

abbrev pub invariant-loop-size : goal.invariant-loop-size
invariant-loop-size g l = record {
  some : 0 < l.size;
  inside : l.base + l.size ≤ length l.records;
  within : AreDistinguished g.row.N (g.T.Number.spelled l.start) l.key l.records → IsFirstNotBelowWithin l.key l.records l.fn.range.start l.fn.range.end → IsFirstNotBelowWithin l.key l.records l.base (l.base + l.size);
  number : g.T.Number.value l.number ≡ g.T.Number.spelled l.start (text_at l.records (l.base + l.size / 2));
}

abbrev pub decreases-loop-size : goal.decreases-loop-size
decreases-loop-size g l = l.size
