use Rattle.std.proofs.Common.{◌≡◌, ◌↔◌, ◌≤◌, ◌<◌, ◌+◌, ◌-◌, ◌*◌, ◌^◌, ◌%◌, ◌∙◌, ℕ, List, true, false, length, replicate, pow_mono, sym, arith}
use Rattle.std.specs.List.{list_all, position_or_len}
use Rattle.std.proofs.Math.Nat.{mul-le-mul, mod-eq_of_lt}
use Rattle.std.proofs.lemmas.Bool.Decides.{nat_tests}
use Rattle.std.proofs.lemmas.List.{length-append, length-replicate}
use Rattle.tinystr.specs.Classes.{is_alphabetic}
use Rattle.subtags.specs.Grammar.{IsLangId, is_language_length, is_separator}
use Rattle.subtags.specs.Private.{classes_of, tail_example, one_more}
use Rattle.subtags.proofs.MaskLemmas.{number_like}
use Rattle.subtags.proofs.HeadLemmas.{letters_few, end-le}
use Rattle.subtags.proofs.TailLemmas.{example_of_id, id_of_example, more_than_letters}
use Rattle.subtags.proofs.classes.Classes.language_len.Goals.{else-is_language_length-via-then-is_language_length+else-packed-one_more, else-is_language_length-via-else-is_language_length}
use Rattle.subtags.proofs.classes.Classes.language_len.Goals as goal

unwrapped : (n e : ℕ) → e ≤ 8 → one_more (tail_example n) * 2 ^ e % 2 ^ 64 ≡ one_more (tail_example n) * 2 ^ e
unwrapped n e few =
    let most : 2 ^ e ≤ 2 ^ 8 = pow_mono few in
    let small : one_more (tail_example n) ≤ 2 ^ 46 = grind (arith, nat_tests) in
    let scaled : one_more (tail_example n) * 2 ^ e ≤ 2 ^ 46 * 2 ^ 8 = mul-le-mul small most in
    mod-eq_of_lt (omega arith)

-- after a language's letters, the number of the classes is that of the example exactly if the bytes are an identifier
by_number : (u : List ℕ) (e : ℕ) → e ≡ position_or_len is_separator u → length u ≤ 17 → list_all is_alphabetic u ≡ false → is_language_length e ≡ true →
    (classes_of u + 1 ≡ one_more (tail_example (length u - e)) * 2 ^ e % 2 ^ 64) ↔ IsLangId u
by_number u e end few other right =
    let n = length u - e in
    let inside = end-le u in
    let size : (m : ℕ) → 0 < length (tail_example m) → length (tail_example m) ≡ m = λ m some. grind (arith, nat_tests) in
    let like = number_like u (tail_example n) e (λ some. omega (arith, size n some, length-append (replicate e 0x61) (tail_example n), length-replicate {A = ℕ} e 0x61)) few in
    rw (unwrapped n e (letters_few e right)) (
      λ h. (let x = like.0 h in id_of_example u e n right x.0 x.1),
      λ h. (let x = rw (← end) at (example_of_id u h) in like.1 (more_than_letters u e n other x.size x.like, x.like)),
    )

pub returns-then-packed-one_more : goal.returns-then-packed-one_more
returns-then-packed-one_more c =
    let end = c.first_end-end.ensures.end in
    let right : is_language_length c.first_end-end.result ≡ true = sym c.is_language_length.ensures ∙ c.if-is_language_length.true in
    let by = by_number c.args.self.now c.first_end-end.result end c.len-len.ensures.fits c.requires right in
    (by.0 (rw (← c.packed.ensures, ← c.len-len.ensures.len, ← c.one_more.ensures) (grind (arith, nat_tests))), end)

pub returns-else-is_language_length : goal.returns-else-is_language_length
returns-else-is_language_length c = λ id.
    let end = c.first_end-end.ensures.end in
    let language : is_language_length c.first_end-end.result ≡ true = rw (← end) at (example_of_id c.args.self.now id).language in
    let by = by_number c.args.self.now c.first_end-end.result end c.len-len.ensures.fits c.requires language in
    let same = rw (← c.len-len.ensures.len) at (by.1 id) in
    elim c.else-is_language_length.branch [
      | else-is_language_length-via-then-is_language_length+else-packed-one_more w ↦ (let packed = w.packed.ensures in let wanted = w.one_more.ensures in grind (arith, nat_tests))
      | else-is_language_length-via-else-is_language_length w ↦ (let tested = c.is_language_length.ensures in grind arith)
    ]
