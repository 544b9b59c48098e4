-- Bits that say which bytes pass a test.
use Rattle.std.proofs.Common.{◌≡◌, ◌+◌, ◌*◌, ◌%◌, ◌^◌, ◌<◌, ◌≤◌, ◌↔◌, ℕ, zero, suc, replicate, ap₂, Bool, ◌==◌, List, [], ◌∷◌, ◌++◌, length, map, take, drop, cond, pow_mono, ap, refl, sym, ◌∙◌, arith}
use lib.Count.{count_trailing_zeros}
use Rattle.std.specs.List.{list_all, position_or_len}
use Rattle.std.proofs.Math.Nat.{pow-suc, mul_assoc, mod-eq_of_lt}
use Rattle.std.proofs.Math.Arith.{digits_mod}
use Rattle.std.proofs.lemmas.Bool.Decides.{nat_tests}
use Rattle.std.proofs.lemmas.List.{length-take, length-append, take-append-drop}
use Rattle.std.proofs.lemmas.List.Folds.{position_or_len_push}
use Rattle.std.proofs.lemmas.Simd.{map-map, trailing_mask_l}
use Rattle.tinystr.specs.Classes.{is_alphabetic, is_digit}
use Rattle.tinystr.specs.ShortInput.{bits_of}
use Rattle.tinystr.proofs.ForCallers.{bits_of_class_all, bits_of_class_fits, bits_of_class_joined}
use Rattle.subtags.specs.Grammar.{dash, is_separator}
use Rattle.subtags.specs.Private.{classes_of, one_more}
use Rattle.subtags.proofs.TailLemmas.{class_of, is_alphabetic-class_of, is_digit-class_of, is_separator-class_of}

doubled : (n e : ℕ) → n * 2 ^ suc e ≡ n * 2 ^ e * 2
doubled n e = ap (λ m. n * m) (pow-suc 2 e) ∙ sym (mul_assoc n (2 ^ e) 2)

pub bits_of-split : (p : ℕ → Bool) (k : ℕ) (xs : List ℕ) → k ≤ length xs → bits_of p xs ≡ bits_of p (drop k xs) * 2 ^ k + bits_of p (take k xs)
bits_of-split p k xs le = let len : length (take k xs) ≡ k = omega (arith, length-take k xs) in rw (take-append-drop k xs, len) at (bits_of_class_joined p (take k xs) (drop k xs))

pub first_letters : (p : ℕ → Bool) (k : ℕ) (xs : List ℕ) → k ≤ length xs → (bits_of p xs % 2 ^ k + 1 == 2 ^ k) ≡ list_all p (take k xs)
first_letters p k xs le =
    let len : length (take k xs) ≡ k = omega (arith, length-take k xs) in
    rw (bits_of-split p k xs le, digits_mod (bits_of p (drop k xs)) (rw len at (bits_of_class_fits p (take k xs)))) (rw len at (bits_of_class_all p (take k xs)))

-- the lowest bit, where one more marks the end, is the first that passes
pub first_from_mask : (u : List ℕ) → length u ≤ 17 → count_trailing_zeros 64 (bits_of is_separator u + 2 ^ length u) ≡ position_or_len is_separator u
first_from_mask u few =
    let last : bits_of is_separator (u ++ dash ∷ []) ≡ bits_of is_separator u + 2 ^ length u = rw (bits_of_class_joined is_separator u (dash ∷ [])) (omega arith) in
    let first : position_or_len is_separator (u ++ dash ∷ []) ≡ position_or_len is_separator u = rw (position_or_len_push is_separator u dash) (grind (arith, nat_tests)) in
    rw (← last) (trailing_mask_l is_separator 64 (u ++ dash ∷ []) (omega (arith, length-append u (dash ∷ []))) (omega (arith, last, bits_of_class_fits is_separator u)) ∙ first)

-- the number after the bits of few bytes
pub few-pow : (n : ℕ) → n ≤ 17 → 2 ^ n ≤ 2 ^ 17
few-pow n few = pow_mono few

-- one, shifted
pub shifted-one : (n : ℕ) → n ≤ 17 → 1 * 2 ^ n % 2 ^ 64 ≡ 2 ^ n
shifted-one n few = ap (λ m. m % 2 ^ 64) (omega arith) ∙ mod-eq_of_lt (omega (arith, few-pow n few))

-- ---- bytes in one number, twenty bits for each class

pub bits_of-lt_17 : (p : ℕ → Bool) (u : List ℕ) → length u ≤ 17 → bits_of p u < 2 ^ 17
bits_of-lt_17 p u few = omega (arith, bits_of_class_fits p u, few-pow (length u) few)

pub same_bit : (a b : Bool) (m n : ℕ) → cond a 1 0 + 2 * m ≡ cond b 1 0 + 2 * n → (a ≡ b) × (m ≡ n)
same_bit a b m n e = (grind (arith, nat_tests), grind (arith, nat_tests))

-- the bits show the class of each byte
same_classes : (u v : List ℕ) → length u ≡ length v → bits_of is_alphabetic u ≡ bits_of is_alphabetic v → bits_of is_digit u ≡ bits_of is_digit v → bits_of is_separator u ≡ bits_of is_separator v → map class_of u ≡ map class_of v
same_classes [] [] len l d s = refl
same_classes [] (b ∷ v) len l d s = absurd (omega arith)
same_classes (a ∷ u) [] len l d s = absurd (omega arith)
same_classes (a ∷ u) (b ∷ v) len l d s =
    let letter = same_bit (is_alphabetic a) (is_alphabetic b) (bits_of is_alphabetic u) (bits_of is_alphabetic v) l in
    let digit = same_bit (is_digit a) (is_digit b) (bits_of is_digit u) (bits_of is_digit v) d in
    let separator = same_bit (is_separator a) (is_separator b) (bits_of is_separator u) (bits_of is_separator v) s in
    ap₂ (λ (x : ℕ) (w : List ℕ). x ∷ w) (rw (letter.0, digit.0, separator.0) refl) (same_classes u v (omega arith) letter.1 digit.1 separator.1)

-- fields that fit are the same where their sum is
same_fields : (l d s x y z : ℕ) → l < 2 ^ 17 → d < 2 ^ 17 → s < 2 ^ 17 → x < 2 ^ 17 → y < 2 ^ 17 → z < 2 ^ 17 → l + d * 2 ^ 20 + s * 2 ^ 40 ≡ x + y * 2 ^ 20 + z * 2 ^ 40 → (l ≡ x) × (d ≡ y) × (s ≡ z)
same_fields l d s x y z a b c f g h e = (omega arith, omega arith, omega arith)

-- and so does their number, whose fields hold them
classes_from_number : (u v : List ℕ) → length u ≡ length v → length u ≤ 17 → classes_of u ≡ classes_of v → map class_of u ≡ map class_of v
classes_from_number u v len few same =
    let fits = λ (p : ℕ → Bool). bits_of-lt_17 p u few in
    let others = λ (p : ℕ → Bool). bits_of-lt_17 p v (omega arith) in
    let f = same_fields _ _ _ _ _ _ (fits is_alphabetic) (fits is_digit) (fits is_separator) (others is_alphabetic) (others is_digit) (others is_separator) same in
    same_classes u v len f.0 f.1 f.2

number_from_classes : (u : List ℕ) → classes_of (map class_of u) ≡ classes_of u
number_from_classes u = simp (map-map, is_alphabetic-class_of, is_digit-class_of, is_separator-class_of)

-- letters before other bytes, in the number of these
letters_first : (e : ℕ) (t : List ℕ) → classes_of (replicate e 0x61 ++ t) + 1 ≡ (classes_of t + 1) * 2 ^ e
letters_first zero t = omega arith
letters_first (suc e) t = omega (arith, letters_first e t, doubled (classes_of t + 1) e)

-- bytes have the shifted number of others exactly if they are letters and then of the classes of these
pub number_like : (u t : List ℕ) (e : ℕ) → (0 < length t → length u ≡ length (replicate e 0x61 ++ t)) → length u ≤ 17 → (classes_of u + 1 ≡ one_more t * 2 ^ e) ↔ ((0 < length t) × (map class_of u ≡ map class_of (replicate e 0x61 ++ t)))
number_like u [] e len few = (λ h. absurd (omega arith), λ h. absurd (omega arith))
number_like u (a ∷ t) e len few =
    let shifted = letters_first e (a ∷ t) in (
      λ h. (omega arith, classes_from_number u (replicate e 0x61 ++ a ∷ t) (len (omega arith)) few (omega (arith, h, shifted))),
      λ h. omega (arith, shifted, sym (number_from_classes u) ∙ ap (λ w. classes_of w) h.1 ∙ number_from_classes (replicate e 0x61 ++ a ∷ t)),
    )

pub ruleset class_bits = (bits_of_class_all, bits_of-lt_17, few-pow, shifted-one, first_letters, first_from_mask)
