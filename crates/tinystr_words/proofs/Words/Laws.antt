-- The laws of words: the lanes of a sum, what two sums show of a lane, and the size of a word.
use Rattle.std.proofs.Common.{ℕ, zero, suc, ◌+◌, ◌-◌, ◌/◌, ◌%◌, ◌^◌, ◌<◌, ◌≤◌, ◌≡◌, ◌↔◌, List, [], ◌∷◌, length, get_or, map, sym, ap, ◌∙◌, arith, lit<}
use Rattle.std.proofs.Math.Nat.{mod-eq_of_lt}
use Rattle.std.proofs.lemmas.List.{length-map, get_or-map}
use Rattle.std.proofs.lemmas.Grind.{get_or_default_zero}
use Rattle.std.proofs.lemmas.List.Elements.{All-map}
use Rattle.std.proofs.lemmas.Simd.{length-zip2, get_or-zip2, Each1-from_get_or}
use Rattle.std.specs.Simd.Lanes.{zip2}
use Rattle.std.specs.List.{All}
use Rattle.std.specs.Int.{IsInRange}
use Rattle.tinystr_words.specs.Text.{IsText, pad}
use Rattle.tinystr_words.specs.Words.{word, lane, lanes_of}
use Rattle.tinystr_words.proofs.Words.Lanes.{Ascii, IsBytes, IsBytes-from_Ascii, IsBytes-from_IsText, addition, op-word, word-lt}
use Rattle.tinystr_words.proofs.Words.Numbers.{low_sum, low_word, div-pow_256, lanes_of-word, word-nuls, word_bounds, exponent-lt}
use Rattle.tinystr_words.proofs.Words.Kernels.{is_in-sums}
use Rattle.tinystr_words.specs.declared.kernel.Range.{Range}
use Rattle.std.proofs.lemmas.Bool.Decides.{nat_tests}

-- the byte at a place is the lane there
get_or-lanes_of : (n w i : ℕ) → i < n → get_or (lanes_of n w) i 0 ≡ lane w i
get_or-lanes_of zero w i h = absurd (omega arith)
get_or-lanes_of (suc n) w zero h = omega arith
get_or-lanes_of (suc n) w (suc i) h = get_or-lanes_of n (w / 256) i (omega arith) ∙ ap (λ m. m % 256) (sym (div-pow_256 w i))

-- each lane of a word of bytes is the byte at that position
lane-word : (l : List ℕ) (i : ℕ) → IsBytes l → i < length l → lane (word l) i ≡ get_or l i 0
lane-word l i a h = sym (get_or-lanes_of (length l) (word l) i h) ∙ ap (λ (m : List ℕ). get_or m i 0) (lanes_of-word l a)

abbrev pub IsLow : ℕ → Type 0
IsLow b = b ≤ 0x7f

-- and the bytes of such lanes are ASCII
Ascii-low : (a : List ℕ) → All IsLow a → Ascii a
Ascii-low a p = Each1-from_get_or (λ b. b < 128) a 0 (λ i h. omega (arith, p i 0 h))

-- lanes of at most 0x7f are summed each for itself
pub lane_sum_is : (a c : List ℕ) → length a ≡ length c → All IsLow a → All IsLow c →
    (word a + word c < 256 ^ length a) × ((i : ℕ) → i < length a → lane (word a + word c) i ≡ get_or a i 0 + get_or c i 0)
lane_sum_is a c e p q =
    let plus : ℕ → ℕ → ℕ = λ m n. m + n in
    let low_a = Ascii-low a p in
    let low_c = Ascii-low c q in
    let bytes_a = IsBytes-from_Ascii a low_a in
    let bytes_c = IsBytes-from_Ascii c low_c in
    let each : (i : ℕ) → i < length a → get_or (zip2 plus a c) i 0 ≡ get_or a i 0 + get_or c i 0 = λ i h. get_or-zip2 plus a c i 0 0 0 h (omega arith) in
    let long : length (zip2 plus a c) ≡ length a = length-zip2 plus a c e in
    let bytes : IsBytes (zip2 plus a c) = Each1-from_get_or (λ b. b < 256) (zip2 plus a c) 0 (λ i h. let k : i < length a = omega arith in omega (arith, each i k, p i 0 k, q i 0 (omega arith))) in
    let small_a : word a % 256 ^ length a ≡ word a = mod-eq_of_lt (word-lt a bytes_a) in
    let small_c : word c % 256 ^ length a ≡ word c = rw e (mod-eq_of_lt (word-lt c bytes_c)) in (
      rw (small_a, small_c) at (low_sum (length a) (word a) (word c) (low_word a low_a) (low_word c low_c)),
      λ i h. rw (op-word addition a c e bytes_a bytes_c) (lane-word (zip2 plus a c) i bytes (omega arith) ∙ each i h),
    )

-- a text whose word is below 256 ^ k has at most k bytes
length-le_from_word : (t : List ℕ) → IsText t → (k : ℕ) → word t < 256 ^ k → length t ≤ k
length-le_from_word [] x k h = omega arith
length-le_from_word (b ∷ t) x k h = exponent-lt 256 (length t) k (lit< tt) (omega (arith, (word_bounds b t x).0))

-- the size of a word gives the length of its text
pub word_length_is : (w : ℕ) (t : List ℕ) → IsText t → length t ≤ w → (word (pad t w) < 256 ^ length t) × ((k : ℕ) → word (pad t w) < 256 ^ k → length t ≤ k)
word_length_is w t x le = rw (word-nuls t (w - length t)) (word-lt t (IsBytes-from_IsText t x), length-le_from_word t x)

-- two sums show whether a lane is in its range
pub lane_class_is : (a low high : List ℕ) → length low ≡ length a → length high ≡ length a → All IsLow a
    → ((i : ℕ) → i < length a → (1 ≤ get_or low i 0) × (get_or low i 0 ≤ get_or high i 0) × (get_or high i 0 ≤ 0x7f))
    → (i : ℕ) → i < length a
    → (IsInRange (get_or low i 0) (get_or high i 0) (get_or a i 0)) ↔ ((0x80 ≤ lane (word a + word (map (λ b. 0x80 - b) low)) i) × (lane (word a + word (map (λ b. 0x7f - b) high)) i < 0x80))
lane_class_is a low high m n p bounds i h =
    let p_low : All IsLow (map (λ b. 0x80 - b) low) = All-map IsLow (λ b. 0x80 - b) low (λ k d l. rw (get_or_default_zero low k d l) (omega (arith, bounds k (omega arith)))) in
    let q_low : All IsLow (map (λ b. 0x7f - b) high) = All-map IsLow (λ b. 0x7f - b) high (λ k d l. rw (get_or_default_zero high k d l) (omega (arith, bounds k (omega arith)))) in
    let e = (lane_sum_is a (map (λ b. 0x80 - b) low) (omega (arith, length-map low (λ b. 0x80 - b))) p p_low).1 i h in
    let f = (lane_sum_is a (map (λ b. 0x7f - b) high) (omega (arith, length-map high (λ b. 0x7f - b))) p q_low).1 i h in
    let b = bounds i h in
    let range : Range = record { low = 0x80 - get_or low i 0; high = 0x7f - get_or high i 0; no_carry = (omega arith, omega arith); not_empty = omega arith } in
    let by_sums = is_in-sums range (get_or a i 0) in
    rw (e, f, get_or-map (λ b. 0x80 - b) low i 0 0 (omega arith), get_or-map (λ b. 0x7f - b) high i 0 0 (omega arith)) (λ r. (grind (arith, nat_tests), grind (arith, nat_tests)), λ r. (grind (arith, nat_tests), grind (arith, nat_tests)))
