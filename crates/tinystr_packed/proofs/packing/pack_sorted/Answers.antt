use Rattle.std.proofs.Common.{◌≡◌, ℕ, List, ◌++◌, ap, ◌∙◌, Vec, Global}
use Rattle.std.specs.List.Sorted.{IsPermutation}
use Rattle.std.specs.Str.{bytes_eq}
use Rattle.std.proofs.lemmas.List.Filters.{dedup_is}
use Rattle.tinystr_packed.proofs.SortedPacks.{ArePackedInOrder-packed}
use Rattle.tinystr_packed.proofs.packing.pack_sorted.Goals as goal

pub returns : goal.returns
returns g c =
    let filled : c.extend_from_slice.new.self.items ≡ c.args.texts.now = c.in_ok-extend_from_slice.ensures.items ∙ ap (λ (l : List (List ℕ)). l ++ c.args.texts.now) c.new-sorted.ensures.items in
    let moved : IsPermutation c.args.texts.now c.sort_unstable.new.self.items = rw (← filled) c.sort_unstable.ensures.permutation in
    let is = dedup_is bytes_eq c.sort_unstable.new.self.items c.dedup.new.self.items c.dedup.ensures.filtered in
    ArePackedInOrder-packed (λ (made : Vec ℕ Global). made.items) c.pack.result c.args.texts.now c.sort_unstable.new.self.items c.dedup.new.self.items g.row.N moved c.sort_unstable.ensures.sorted is
    (rw c.as_slice.ensures.value at c.pack.ensures.each) (rw c.as_slice.ensures.value at c.pack.ensures.bytes)
