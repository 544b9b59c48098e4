use Rattle.std.proofs.Common.{◌≡◌, ◌<◌, ◌≤◌, ◌-◌, ◌==◌, ℕ, length, get_or, true, false, refl, arith}
use Rattle.std.proofs.lemmas.Bool.Decides.{nat_tests}
use Rattle.std.proofs.lemmas.List.Sums.{suffix_len_is}
use Rattle.std.specs.List.{suffix_len}
use Rattle.tinystr_c.proofs.texts.without_nuls.Goals as goal
use Rattle.tinystr_c.proofs.texts.without_nuls.Goals.{then-loop-len-test+else-bytes-len-eq0, else-loop-len-test}

pub returns-clause-bytes : goal.returns-clause-bytes
returns-clause-bytes c =
    let bytes = c.args.bytes.now in
    let len = c.loop-len.len in
    let nuls : (k : ℕ) → len ≤ k → k < length bytes → (get_or bytes k 0 == 0) ≡ true = λ k from within. rw (c.loop-len.invariant.nuls k from within) refl in
    let stops : 0 < len → (get_or bytes (len - 1) 0 == 0) ≡ false = elim c.loop-len-test.branch [
      | then-loop-len-test+else-bytes-len-eq0 w ↦ λ some. (let h = w.if-bytes-len-eq0 in grind (arith, nat_tests))
      | else-loop-len-test w ↦ λ some. absurd (omega (arith, w.loop-len-test))
    ] in
    let count : suffix_len (λ b. b == 0) bytes ≡ length bytes - len = suffix_len_is (λ b. b == 0) bytes len 0 c.loop-len.invariant.inside nuls stops in
    let kept : length bytes - (length bytes - len) ≡ len = omega (arith, c.loop-len.invariant.inside) in
    rw (count, kept) refl
