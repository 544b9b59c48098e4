use Rattle.std.proofs.Common.{◌≡◌, ℕ, List, take, bytes_eq, count_by, is_some, unwrap_or}
use Rattle.std.specs.BTreeMap.{get}
use Rattle.std.specs.Cmp.Lexicographic.{slice_cmp}
use Rattle.std.specs.List.{list_any}
use Rattle.std.specs.Ordering.{nat_cmp}
use Rattle.tinystr_packed.proofs.packing.count_texts.Given as goal

abbrev pub invariant-loop-text : goal.invariant-loop-text
invariant-loop-text g l = record {
  counts : (t : List ℕ) → unwrap_or (get (slice_cmp nat_cmp) l.counts t) 0 ≡ count_by (bytes_eq t) (take l.text-index l.texts);
  keys : (t : List ℕ) → is_some (get (slice_cmp nat_cmp) l.counts t) ≡ list_any (bytes_eq t) (take l.text-index l.texts);
}
