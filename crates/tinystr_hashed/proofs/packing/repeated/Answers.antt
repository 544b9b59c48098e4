use Rattle.std.proofs.Common.{◌≡◌, ◌++◌, ◌∙◌, ap, List, ℕ}
use Rattle.std.specs.List.Sorted.{IsPermutation}
use Rattle.tinystr_hashed.proofs.Packs.{repeated-sorted}
use Rattle.tinystr_hashed.proofs.packing.repeated.Goals as goal

pub returns : goal.returns
returns g c =
    let filled : c.extend_from_slice.new.self.items ≡ c.args.texts.now = c.in_ok-extend_from_slice.ensures.items ∙ ap (λ (l : List (List ℕ)). l ++ c.args.texts.now) c.new-sorted.ensures.items in
    let moved : IsPermutation c.args.texts.now c.sort_unstable.new.self.items = rw (← filled) c.sort_unstable.ensures.permutation in
    repeated-sorted c.args.texts.now c.sort_unstable.new.self.items c.first_repeated.result moved c.sort_unstable.ensures.sorted
    (rw c.as_slice.ensures.value at c.first_repeated.ensures.none) (rw c.as_slice.ensures.value at c.first_repeated.ensures.twice)
