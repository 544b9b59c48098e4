-- The formulas of the questions and of each case change, and that they are right at each of the 128 bytes.
use Rattle.std.proofs.Common.{lit<, lit≤, ℕ, ◌+◌, ◌-◌, ◌*◌, ◌%◌, ◌<◌, ◌≡◌, Bool, true, false, not, cond, bit_and, bit_or, nat_eq, nat_le, nat_lt, refl, sym, ap, ap₂, ◌&&◌, ◌∙◌, arith}
use Rattle.std.proofs.lemmas.Bool.Decides.{nat_tests}
use Rattle.std.proofs.lemmas.Grind.{widths}
use Rattle.std.proofs.lemmas.Nat.{le_or_l, le_or_r, or_lt, and_le_r, xor_lt, xor_block}
use Rattle.std.specs.Int.Bits.{bit_xor}
use Rattle.std.specs.Bool.{beq}
use Rattle.tinystr_words.specs.Classes.{ask, is_alphabetic, is_alphanumeric}
use Rattle.tinystr_words.specs.Private.{is_in, is_not_in}
use Rattle.tinystr_words.specs.declared.question.Case.{Case}
use Rattle.tinystr_words.specs.declared.question.Case.TheVariants.{Lower, Title, Upper}
use Rattle.tinystr_words.specs.declared.kernel.Range.{Range}
use Rattle.tinystr_words.proofs.Words.Lanes.{everywhere, below_at, conjunction, disjunction, difference, addition}
use Rattle.tinystr_words.proofs.Words.Formulas.{Formula, itself, splat, lead, join, flip, quarter, Asks, Asks-from_everywhere, Changes, is_safe, same_from_nat_eq, nat_eq-on, on}
use Rattle.tinystr_words.specs.Words.{HoldsText, text_in}

-- the code's ranges
abbrev pub UPPER : Range
UPPER = record { low = 0x3f; high = 0x25; no_carry = (lit≤ tt, lit≤ tt); not_empty = lit< tt }

abbrev pub LOWER : Range
LOWER = record { low = 0x1f; high = 0x05; no_carry = (lit≤ tt, lit≤ tt); not_empty = lit< tt }

abbrev pub DIGIT : Range
DIGIT = record { low = 0x50; high = 0x46; no_carry = (lit≤ tt, lit≤ tt); not_empty = lit< tt }

abbrev pub outside : Formula → Range → Range → Formula
outside w first others = join disjunction (flip (join addition w (lead first.low others.low))) (join addition w (lead first.high others.high))

abbrev pub case_bits : Range → Range → Formula
case_bits first others = quarter (join conjunction (flip (outside itself first others)) (splat 0x80))

abbrev pub present : Formula
present = join conjunction (join addition itself (splat 0x7f)) (splat 0x80)

abbrev pub with_case_bits : Formula
with_case_bits = join disjunction itself (splat 0x20)

-- the marks of the bytes outside their ranges, without those of NULs
abbrev pub outside_but_nuls : Range → Range → Formula
outside_but_nuls first others = join conjunction (outside itself first others) present

-- the marks of the bytes inside their ranges, where no NUL is
abbrev pub inside : Range → Range → Formula
inside first others = join conjunction (join difference (join addition itself (lead first.low others.low)) (join addition itself (lead first.high others.high))) (splat 0x80)

abbrev pub not_letters : Formula
not_letters = join conjunction (outside with_case_bits LOWER LOWER) present

abbrev pub not_letters_or_digits : Formula
not_letters_or_digits = join conjunction (join conjunction (outside with_case_bits LOWER LOWER) (outside itself DIGIT DIGIT)) present

-- ---- ranges

abbrev is_high_bit_alone : ℕ → Bool
is_high_bit_alone z = nat_eq (bit_and z 0x80) (cond (nat_lt z 0x80) 0 0x80)

-- the high bit alone of a byte
and-high_bit : (z : ℕ) → z < 256 → bit_and z 0x80 ≡ cond (nat_lt z 0x80) 0 0x80
and-high_bit z h = same_from_nat_eq _ _ (below_at is_high_bit_alone 256 refl z h)

abbrev outside_of : Range → ℕ → ℕ
outside_of r b = bit_or (255 - (b + r.low)) (b + r.high)

-- two sums show whether a byte is in a range
pub is_in-sums : (r : Range) (b : ℕ) → (nat_le 0x80 (b + r.low) && nat_lt (b + r.high) 0x80) ≡ is_in r b
is_in-sums r b = let bounds = r.no_carry in grind (arith, nat_tests)

-- the byte of a lane has no high bit exactly in its range
nat_lt-outside_of : (r : Range) (b : ℕ) → b < 128 → nat_lt (outside_of r b) 0x80 ≡ is_in r b
nat_lt-outside_of r b h =
    let bounds = r.no_carry in
    let below = le_or_l (255 - (b + r.low)) (b + r.high) in
    let above = le_or_r (255 - (b + r.low)) (b + r.high) in
    let inside = or_lt 7 (255 - (b + r.low)) (b + r.high) in
    let unmarked : nat_lt (outside_of r b) 0x80 ≡ (nat_le 0x80 (b + r.low) && nat_lt (b + r.high) 0x80) = grind (arith, nat_tests) in
    unmarked ∙ is_in-sums r b

outside_of-lt : (r : Range) (b : ℕ) → b < 128 → outside_of r b < 256
outside_of-lt r b h = let bounds = r.no_carry in or_lt 8 (255 - (b + r.low)) (b + r.high) (omega arith) (omega arith)

-- without the mark of a NUL, no mark is left exactly at a NUL or in the range
nat_eq-outside_but_nuls : (r : Range) (b : ℕ) → b < 128 → nat_eq (bit_and (outside_of r b) (bit_and (b + 0x7f) 0x80)) 0 ≡ cond (nat_eq b 0) true (is_in r b)
nat_eq-outside_but_nuls r b h =
    let none = and_le_r (outside_of r b) 0 in
    let e = and-high_bit (outside_of r b) (outside_of-lt r b h) in
    let p = and-high_bit (b + 0x7f) (omega arith) in
    let m = nat_lt-outside_of r b h in
    grind (arith, nat_tests)

abbrev inside_of : Range → ℕ → ℕ
inside_of r b = bit_xor (b + r.low) (b + r.high)

-- two bits show whether the sum of the one that represents both and a number below is below them
nat_lt-bits : (p q : Bool) (m : ℕ) → m < 128 → nat_lt (bit_xor (cond p 0 1) (cond q 0 1) * 128 + m) 0x80 ≡ beq p q
nat_lt-bits true true m h = grind (arith, nat_tests)
nat_lt-bits true false m h = grind (arith, nat_tests)
nat_lt-bits false true m h = grind (arith, nat_tests)
nat_lt-bits false false m h = grind (arith, nat_tests)

high_and_low : (x : ℕ) → x < 256 → x ≡ cond (nat_lt x 0x80) 0 1 * 128 + x % 128
high_and_low x h = grind (arith, nat_tests)

-- of two bytes, the difference has no high bit exactly if both or neither have it
nat_lt-xor : (x y : ℕ) → x < 256 → y < 256 → nat_lt (bit_xor x y) 0x80 ≡ beq (nat_lt x 0x80) (nat_lt y 0x80)
nat_lt-xor x y h k =
    let p = nat_lt x 0x80 in
    let q = nat_lt y 0x80 in
    let r : x % 128 < 128 = omega arith in
    let s : y % 128 < 128 = omega arith in
    ap₂ (λ m n. nat_lt (bit_xor m n) 0x80) (high_and_low x h) (high_and_low y k)
    ∙ ap (λ m. nat_lt m 0x80) (xor_block 7 (cond p 0 1) (cond q 0 1) (x % 128) (y % 128) r s)
    ∙ nat_lt-bits p q (bit_xor (x % 128) (y % 128)) (xor_lt 7 (x % 128) (y % 128) r s)

-- the byte of a lane has no high bit exactly outside of its range
nat_lt-inside_of : (r : Range) (b : ℕ) → b < 128 → nat_lt (inside_of r b) 0x80 ≡ is_not_in r b
nat_lt-inside_of r b h =
    let bounds = r.no_carry in
    let apart = r.not_empty in
    nat_lt-xor (b + r.low) (b + r.high) (omega arith) (omega arith) ∙ grind (arith, nat_tests) ∙ ap not (is_in-sums r b)

inside_of-lt : (r : Range) (b : ℕ) → b < 128 → inside_of r b < 256
inside_of-lt r b h = let bounds = r.no_carry in xor_lt 8 (b + r.low) (b + r.high) (omega arith) (omega arith)

-- no mark is left exactly outside of the range
nat_eq-inside : (r : Range) (b : ℕ) → b < 128 → nat_eq (bit_and (inside_of r b) 0x80) 0 ≡ cond (nat_eq b 0) true (is_not_in r b)
nat_eq-inside r b h =
    rw (and-high_bit (inside_of r b) (inside_of-lt r b h), nat_lt-inside_of r b h) (let bounds = r.no_carry in grind (arith, nat_tests))

-- the formulas of these marks are safe
is_safe-marks : (r : Range) (b : ℕ) → b < 128 → (is_safe (outside_but_nuls r r) true b ≡ true) × (is_safe (inside r r) true b ≡ true)
is_safe-marks r b h = let bounds = r.no_carry in (grind (arith, nat_tests, widths), grind (arith, nat_tests, widths))

-- these test whether each byte is in its range
Asks-outside_but_nuls : (first others : Range) → Asks (outside_but_nuls first others) (splat 0) (is_in first) (is_in others)
Asks-outside_but_nuls first others true b h = ((is_safe-marks first b h).0, (refl, nat_eq-outside_but_nuls first b h))
Asks-outside_but_nuls first others false b h = ((is_safe-marks others b h).0, (refl, nat_eq-outside_but_nuls others b h))

-- and these to be outside it
Asks-inside : (first others : Range) → Asks (inside first others) (splat 0) (is_not_in first) (is_not_in others)
Asks-inside first others true b h = ((is_safe-marks first b h).1, (refl, nat_eq-inside first b h))
Asks-inside first others false b h = ((is_safe-marks others b h).1, (refl, nat_eq-inside others b h))

-- the answers about the text that a word holds
pub asked_in : {n w : ℕ} → HoldsText n w → (first others : Range) → ask (is_in first) (is_in others) (text_in n w) ≡ nat_eq (on (outside_but_nuls first others) n w) (on (splat 0) n w)
asked_in h first others = sym (nat_eq-on h (outside_but_nuls first others) (splat 0) _ _ (Asks-outside_but_nuls first others))

pub asked_not_in : {n w : ℕ} → HoldsText n w → (first others : Range) → ask (is_not_in first) (is_not_in others) (text_in n w) ≡ nat_eq (on (inside first others) n w) (on (splat 0) n w)
asked_not_in h first others = sym (nat_eq-on h (inside first others) (splat 0) _ _ (Asks-inside first others))

-- for letters, and for digits too, computing finds them at each byte
pub asked_letters : {n w : ℕ} → HoldsText n w → ask is_alphabetic is_alphabetic (text_in n w) ≡ nat_eq (on not_letters n w) (on (splat 0) n w)
unfolding everywhere
asked_letters h = sym (nat_eq-on h not_letters (splat 0) _ _ (Asks-from_everywhere not_letters (splat 0) is_alphabetic is_alphabetic refl))

pub asked_letters_or_digits : {n w : ℕ} → HoldsText n w → ask is_alphanumeric is_alphanumeric (text_in n w) ≡ nat_eq (on not_letters_or_digits n w) (on (splat 0) n w)
unfolding everywhere
asked_letters_or_digits h = sym (nat_eq-on h not_letters_or_digits (splat 0) _ _ (Asks-from_everywhere not_letters_or_digits (splat 0) is_alphanumeric is_alphanumeric refl))

-- the word in another case
abbrev pub case_change : Case → Formula
case_change Lower = join difference itself (case_bits UPPER UPPER)
case_change Title = join difference itself (case_bits LOWER UPPER)
case_change Upper = join difference itself (case_bits LOWER LOWER)

-- at each byte, the formula of a case keeps NUL and changes another as the case does
pub Changes-case_change : (c : Case) → Changes (case_change c) c
unfolding everywhere
Changes-case_change Lower = refl
Changes-case_change Title = refl
Changes-case_change Upper = refl
