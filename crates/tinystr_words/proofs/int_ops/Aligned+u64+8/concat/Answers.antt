use Rattle.std.proofs.Common.{List, arith, length, sym, take, ℕ, ◌++◌, ◌∙◌, ◌≡◌}
use Rattle.std.proofs.Math.Seq.{take-append_seam}
use Rattle.tinystr_words.proofs.Words.Numbers.{pow_256}
use Rattle.tinystr_words.proofs.Words.Texts.{HoldsText-concat}
use Rattle.tinystr_words.proofs.int_ops.Aligned+u64+8.concat.Goals as goal

full : (t s : List ℕ) (n : ℕ) → length t ≡ n → t ≡ take n (t ++ s)
full t s n is = rw (← is) (sym (take-append_seam t s))

pub returns-then-len-eq8 : goal.returns-then-len-eq8
returns-then-len-eq8 c = rw (← c.self.view_is, ← c.other.view_is) (full _ _ 8 (sym (rw (← c.self.view_is) at c.len_by_top-len.ensures) ∙ c.if-len-eq8.true))

pub overflow_add-result : goal.overflow_add-result
overflow_add-result c =
    let small = rw (pow_256 c.len_by_top-len.result) at (HoldsText-concat c.self.invariant c.other.invariant c.len_by_top-len.result (rw (← c.self.view_is) at c.len_by_top-len.ensures)).0 in
    omega arith

pub invariant_of-result-2 : goal.invariant_of-result-2
invariant_of-result-2 c = rw (sym (pow_256 c.len_by_top-len.result)) (HoldsText-concat c.self.invariant c.other.invariant c.len_by_top-len.result (rw (← c.self.view_is) at c.len_by_top-len.ensures)).1

pub returns : goal.returns
returns c = rw (sym (pow_256 c.len_by_top-len.result), ← c.self.view_is, ← c.other.view_is) (HoldsText-concat c.self.invariant c.other.invariant c.len_by_top-len.result (rw (← c.self.view_is) at c.len_by_top-len.ensures)).2
