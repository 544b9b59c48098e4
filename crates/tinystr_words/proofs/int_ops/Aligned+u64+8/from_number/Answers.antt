use Rattle.std.proofs.Common.{◌≡◌, ◌+◌, ◌-◌, ◌*◌, ◌/◌, ◌%◌, ◌^◌, ◌<◌, ◌≤◌, ◌⊎◌, ◌↔◌, ℕ, Bool, true, false, IsTrue, bit_or, inl, inr, length, arith}
use lib.Count.{count_trailing_zeros}
use Rattle.std.proofs.lemmas.List.{length-drop}
use Rattle.std.proofs.lemmas.List.Elements.{All-drop}
use Rattle.std.specs.Fmt.{decimal}
use Rattle.tinystr_words.specs.Decimal.{last}
use Rattle.tinystr_words.specs.Text.{IsTextByte}
use Rattle.tinystr_words.specs.Words.{word, text_in, HoldsText}
use Rattle.tinystr_words.proofs.Decimals.{word-last, eight_digits-fit, IsText-decimal}
use Rattle.tinystr_words.proofs.Words.Texts.{HoldsText-word}
use Rattle.tinystr_words.proofs.Words.Numbers.{pow_256}
use Rattle.tinystr_words.proofs.int_ops.Aligned+u64+8.from_number.Goals as goal
use Rattle.tinystr_words.proofs.int_ops.Aligned+u64+8.from_number.Goals.{then-decimal_fits, else-decimal_fits}

pub overflow_add-result : goal.overflow_add-result
overflow_add-result c = omega (arith, eight_digits-fit c.args.number _ (omega arith) c.eight_digits-digits.ensures)

-- which lanes are shifted out, and which remain
kept : (n most v z : ℕ) (fits : Bool) → (0 < most) × (most ≤ 8) → n < 2 ^ 32 → v + 3472328296227680304 ≡ word (decimal (100000000 + n % 100000000)) / 256
    → (IsTrue fits ↔ (length (decimal n) ≤ most)) → ((fits ≡ true) × (z ≡ count_trailing_zeros 64 (bit_or v 72057594037927936) / 8)) ⊎ ((fits ≡ false) × (z ≡ 8 - most))
    → (z < 8) × HoldsText 8 ((v + 3472328296227680304) / 2 ^ (8 * z)) × (text_in 8 ((v + 3472328296227680304) / 2 ^ (8 * z)) ≡ last most (decimal n))
kept n most v z fits bounds small is exact at =
    let whole : length (decimal n) ≤ most → z ≡ count_trailing_zeros 64 (bit_or v 72057594037927936) / 8 =
    λ short. elim at [ inl h ↦ h.1 | inr h ↦ (let yes = exact.1 short in let no = h.0 in absurd (cc)) ] in
    let cut : most < length (decimal n) → z ≡ 8 - most =
    λ more. elim at [ inl h ↦ (let short = exact.0 h.0 in absurd (omega arith)) | inr h ↦ h.1 ] in
    let left = word-last most n v z bounds.0 bounds.1 small is whole cut in
    let text = All-drop IsTextByte (length (decimal n) - most) (decimal n) (IsText-decimal n (omega arith)) in
    let holds = HoldsText-word 8 (last most (decimal n)) text (omega (arith, bounds.1, length-drop (length (decimal n) - most) (decimal n))) in
    rw (← pow_256 z, left.1) (left.0, holds.0, holds.1)

pub overflow_shr-result : goal.overflow_shr-result
overflow_shr-result c =
    omega (
      arith,
      (kept c.args.number c.args.most _ _ c.decimal_fits.result c.requires (omega arith) c.eight_digits-digits.ensures c.decimal_fits.ensures
          (elim c.if-decimal_fits.branch [ then-decimal_fits w ↦ inl (w.if-decimal_fits.true, w.others-is) | else-decimal_fits w ↦ inr (w.if-decimal_fits.false, w.others-is) ])).0,
    )

pub invariant_of-result : goal.invariant_of-result
invariant_of-result c =
    (kept c.args.number c.args.most _ _ c.decimal_fits.result c.requires (omega arith) c.eight_digits-digits.ensures c.decimal_fits.ensures
    (elim c.if-decimal_fits.branch [ then-decimal_fits w ↦ inl (w.if-decimal_fits.true, w.others-is) | else-decimal_fits w ↦ inr (w.if-decimal_fits.false, w.others-is) ])).1

pub returns : goal.returns
returns c =
    (kept c.args.number c.args.most _ _ c.decimal_fits.result c.requires (omega arith) c.eight_digits-digits.ensures c.decimal_fits.ensures
    (elim c.if-decimal_fits.branch [ then-decimal_fits w ↦ inl (w.if-decimal_fits.true, w.others-is) | else-decimal_fits w ↦ inr (w.if-decimal_fits.false, w.others-is) ])).2
