-- A word is a number: its bytes are the remainders, padding adds nothing, and its size gives the number of its bytes.
use Rattle.std.proofs.Common.{ℕ, zero, suc, ◌+◌, ◌-◌, ◌*◌, ◌/◌, ◌%◌, ◌^◌, ◌<◌, ◌≤◌, ◌≡◌, List, [], ◌∷◌, ◌++◌, length, refl, sym, ap, ap₂, ◌∙◌, subst, arith, lit<, ⊎_elim, replicate, bit_and, bit_or}
use Rattle.std.proofs.Math.Nat.{one-le-pow, mul_comm, pow-suc, div-div-eq-div-mul, pow-le-pow_right}
use Rattle.std.proofs.Math.Arith.{mod-mul}
use Rattle.std.proofs.lemmas.Nat.{leading_length, leading_top, pow-add, pow_pos, and_shr, and_mod, and_le_r, or_shr, or_mod, or_lt, xor_mod, xor_shr}
use Rattle.std.specs.Int.Bits.{bit_xor}
use Rattle.std.proofs.lemmas.Bool.{cases_lt}
use Rattle.std.proofs.lemmas.List.Elements.{All-head, All-tail}
use Rattle.std.specs.Int.{bytes_low_first, byte_at}
use Rattle.std.specs.Int.Count.{count_leading_zeros, leading_of_zero, leading_unique}
use Rattle.tinystr_words.specs.Text.{IsTextByte, IsText, pad}
use Rattle.tinystr_words.specs.Words.{word, lanes_of, lane, first_then, HasLowLanes}
use Rattle.tinystr_words.proofs.Texts.{NULS, length-pad}
use Rattle.std.proofs.lemmas.Simd.{Each1-replicate}
use Rattle.tinystr_words.proofs.Words.Lanes.{IsBytes, IsBytes-append, IsBytes-from_Ascii, Ascii}
use Rattle.tinystr_words.proofs.Words.Formulas.{Ascii-padded}

-- ---- the bytes of a word

-- a power of 256 is positive
pub pow_256-pos : (n : ℕ) → 0 < 256 ^ n
pow_256-pos n = one-le-pow n 256 (lit< tt)

-- the lowest lanes of a number are its lowest byte and the lowest lanes above it
pub mod-pow_256 : (n w : ℕ) → w % 256 ^ suc n ≡ w % 256 + 256 * (w / 256 % 256 ^ n)
mod-pow_256 n w = ap (λ m. w % m) (pow-suc 256 n) ∙ mod-mul w (pow_256-pos n) (lit< tt) ∙ omega arith

-- the lowest bytes are those of the remainder
lanes_of-mod : (n w : ℕ) → lanes_of n (w % 256 ^ n) ≡ lanes_of n w
lanes_of-mod zero w = refl
lanes_of-mod (suc n) w =
    let low : w % 256 ^ suc n % 256 ≡ w % 256 = omega (arith, mod-pow_256 n w) in
    let high : w % 256 ^ suc n / 256 ≡ w / 256 % 256 ^ n = omega (arith, mod-pow_256 n w) in
    ap₂ (λ x xs. x ∷ xs) low (ap (lanes_of n) high ∙ lanes_of-mod n (w / 256))

-- the lanes above the lowest
pub div-pow_256 : (w m : ℕ) → w / 256 ^ suc m ≡ w / 256 / 256 ^ m
div-pow_256 w m = ap (λ d. w / d) (pow-suc 256 m ∙ mul_comm (256 ^ m) 256) ∙ sym (div-div-eq-div-mul w 256 (256 ^ m))

-- and the others those of the quotient
lanes_of-append : (m n w : ℕ) → lanes_of m w ++ lanes_of n (w / 256 ^ m) ≡ lanes_of (m + n) w
lanes_of-append zero n w = let e : w / 256 ^ 0 ≡ w = omega arith in let k : 0 + n ≡ n = omega arith in rw (e, k) refl
lanes_of-append (suc m) n w =
    let e : suc m + n ≡ suc (m + n) = omega arith in
    rw (e, div-pow_256 w m) (ap (λ l. (w % 256) ∷ l) (lanes_of-append m n (w / 256)))

-- a word's bytes, from those of its two halves
pub lanes_of-halves : (n w : ℕ) → lanes_of n (w % 256 ^ n) ++ lanes_of n (w / 256 ^ n) ≡ lanes_of (n + n) w
lanes_of-halves n w = ap (λ l. l ++ lanes_of n (w / 256 ^ n)) (lanes_of-mod n w) ∙ lanes_of-append n n w

-- sixteen bytes, from those of pieces
pub lanes_of-pieces : (w : ℕ) → w < 256 ^ 16
    → lanes_of 4 (w % 256 ^ 4) ++ (lanes_of 2 (w / 256 ^ 4 % 256 ^ 2) ++ (w / 256 ^ 6 % 256) ∷ (lanes_of 8 (w / 256 ^ 7 % 256 ^ 8) ++ w / 256 ^ 15 ∷ [])) ≡ lanes_of 16 w
lanes_of-pieces w small =
    let second : w / 256 ^ 4 / 256 ^ 2 ≡ w / 256 ^ 6 = omega arith in
    let third : w / 256 ^ 6 / 256 ≡ w / 256 ^ 7 = omega arith in
    let top : w / 256 ^ 15 ≡ w / 256 ^ 7 / 256 ^ 8 % 256 = omega arith in
    let back : lanes_of 8 (w / 256 ^ 7 % 256 ^ 8) ++ w / 256 ^ 15 ∷ [] ≡ lanes_of 9 (w / 256 ^ 7) =
    ap₂ (λ (l : List ℕ) x. l ++ x ∷ []) (lanes_of-mod 8 (w / 256 ^ 7)) top ∙ lanes_of-append 8 1 (w / 256 ^ 7) in
    let middle : lanes_of 2 (w / 256 ^ 4 % 256 ^ 2) ++ lanes_of 10 (w / 256 ^ 6) ≡ lanes_of 12 (w / 256 ^ 4) =
    ap₂ (λ (l : List ℕ) x. l ++ lanes_of 10 x) (lanes_of-mod 2 (w / 256 ^ 4)) (sym second) ∙ lanes_of-append 2 10 (w / 256 ^ 4) in
    let from_six : (w / 256 ^ 6 % 256) ∷ (lanes_of 8 (w / 256 ^ 7 % 256 ^ 8) ++ w / 256 ^ 15 ∷ []) ≡ lanes_of 10 (w / 256 ^ 6) =
    ap (λ (l : List ℕ). (w / 256 ^ 6 % 256) ∷ l) (back ∙ ap (λ x. lanes_of 9 x) (sym third)) in
    ap₂ (λ (l : List ℕ) m. l ++ m) (lanes_of-mod 4 w) (ap (λ (l : List ℕ). lanes_of 2 (w / 256 ^ 4 % 256 ^ 2) ++ l) from_six ∙ middle) ∙ lanes_of-append 4 12 w

-- std's bytes of a number
bytes_low_first_is : (i k n : ℕ) → bytes_low_first i k n ≡ lanes_of k (n / 256 ^ i)
bytes_low_first_is i zero n = refl
bytes_low_first_is i (suc k) n =
    let rest : n / 256 ^ suc i ≡ n / 256 ^ i / 256 = ap (λ d. n / d) (pow-suc 256 i) ∙ sym (div-div-eq-div-mul n (256 ^ i) 256) in
    ap₂ (λ (x : ℕ) (xs : List ℕ). x ∷ xs) (here i) (bytes_low_first_is (suc i) k n ∙ ap (λ m. lanes_of k m) rest)
  where
    here : (i : ℕ) → byte_at i n ≡ n / 256 ^ i % 256
    here zero = omega arith
    here (suc i) = refl

-- std's bytes of a number are its lanes
pub bytes_low_first_is_lanes : (k n : ℕ) → bytes_low_first 0 k n ≡ lanes_of k n
bytes_low_first_is_lanes k n = bytes_low_first_is 0 k n ∙ ap (λ m. lanes_of k m) (omega arith)

-- a word of bytes has these bytes
pub lanes_of-word : (l : List ℕ) → IsBytes l → lanes_of (length l) (word l) ≡ l
lanes_of-word [] a = refl
lanes_of-word (b ∷ l) a =
    let h : b < 256 = a.0 in
    let e : (b + 256 * word l) % 256 ≡ b = omega arith in
    let k : (b + 256 * word l) / 256 ≡ word l = omega arith in
    ap₂ (λ x xs. x ∷ xs) e (ap (λ m. lanes_of (length l) m) k ∙ lanes_of-word l a.1)

-- a word of a padded text has its bytes
pub lanes_of-word_pad : (n : ℕ) (t : List ℕ) → IsText t → length t ≤ n → lanes_of n (word (pad t n)) ≡ pad t n
lanes_of-word_pad n t x le =
    subst (λ m. lanes_of m (word (pad t n)) ≡ pad t n) (length-pad t n le)
    (lanes_of-word (pad t n) (IsBytes-from_Ascii (pad t n) (Ascii-padded t (n - length t) x)))

-- ---- padding, and the size of a text's word

-- NULs after a text add nothing
pub word-nuls : (t : List ℕ) (k : ℕ) → word (t ++ NULS k) ≡ word t
word-nuls [] zero = refl
word-nuls [] (suc k) = let e : word (NULS k) ≡ 0 = word-nuls [] k in omega arith
word-nuls (b ∷ t) k = ap (λ n. b + 256 * n) (word-nuls t k)

-- so a word has more lanes than bytes, with NULs above these
pub lanes_of-word_bytes : (n : ℕ) (l : List ℕ) → IsBytes l → length l ≤ n → lanes_of n (word l) ≡ pad l n
lanes_of-word_bytes n l a le =
    subst (λ m. lanes_of m (word l) ≡ pad l n) (length-pad l n le)
    (ap (lanes_of (length (pad l n))) (sym (word-nuls l (n - length l))) ∙ lanes_of-word (pad l n) (IsBytes-append l (NULS (n - length l)) a (Each1-replicate (λ b. b < 256) (n - length l) 0 (lit< tt))))

-- ---- the length of a text, by the leading zeros of its word

-- the last byte is at least 1 at its place, and leaves the highest bit clear
pub word_bounds : (b : ℕ) (t : List ℕ) → IsText (b ∷ t) → (256 ^ length t ≤ word (b ∷ t)) × (word (b ∷ t) < 128 * 256 ^ length t)
word_bounds b [] x = let h = All-head (IsTextByte) b [] x in (omega arith, omega arith)
word_bounds b (d ∷ t) x =
    let h = All-head (IsTextByte) b (d ∷ t) x in
    let rest = word_bounds d t (All-tail (IsTextByte) b (d ∷ t) x) in
    (omega (arith, pow-suc 256 (length t)), omega (arith, pow-suc 256 (length t)))

-- a place is eight bits
pub pow_256 : (m : ℕ) → 256 ^ m ≡ 2 ^ (8 * m)
pow_256 zero = refl
pow_256 (suc m) =
    let e : 8 * suc m ≡ 8 * m + 8 = omega arith in
    rw (pow-suc 256 m, pow_256 m, e) (sym (pow-add 2 (8 * m) 8))

-- the lesser power has the lesser exponent
pub exponent-lt : (n i j : ℕ) → 0 < n → n ^ i < n ^ j → i < j
exponent-lt n i j some h =
    ⊎_elim (λ l. l) (λ le. let k : n ^ j ≤ n ^ i = pow-le-pow_right {n = n} some le in absurd (omega arith)) (cases_lt i j)

-- the zeros above a text, by eight, are the places that it leaves
pub leading_zeros-word : (n : ℕ) (t : List ℕ) → IsText t → length t ≤ n → count_leading_zeros (8 * n) (word t) / 8 ≡ n - length t
leading_zeros-word n [] x le = rw (leading_of_zero (8 * n)) (omega arith)
leading_zeros-word n (b ∷ t) x le =
    let least : 2 ^ (8 * length t) ≤ word (b ∷ t) = rw pow_256 at (word_bounds b t x).0 in
    let one : 0 < 2 ^ (8 * length t) = pow_pos (8 * length t) in
    let top : word (b ∷ t) < 2 ^ (8 * length t + 7) = rw (pow-add 2 (8 * length t) 7, ← pow_256 (length t)) (omega (arith, (word_bounds b t x).1)) in
    let within : 8 * length t + 7 ≤ 8 * n = omega arith in
    let wide : 2 ^ (8 * length t + 7) ≤ 2 ^ (8 * n) = pow-le-pow_right {n = 2} (lit< tt) within in
    let found = leading_top (8 * n) (word (b ∷ t)) (omega arith) (omega arith) in
    let low = exponent-lt 2 (8 * length t) (suc found.0) (lit< tt) (omega arith) in
    let high = exponent-lt 2 found.0 (8 * length t + 7) (lit< tt) (omega arith) in
    omega arith

-- one more bit below a number takes the place of a zero above it
pub leading_zeros-more : (k w : ℕ) → w < 2 ^ k → suc (count_leading_zeros (suc k) (2 * w + 1)) ≡ count_leading_zeros (suc k) w
leading_zeros-more k w h =
    let found = leading_length (suc k) w (omega (arith, pow-suc 2 k)) in
    let zeros = count_leading_zeros (suc k) w in
    let inside : found.0 < suc k = exponent-lt 2 found.0 (suc k) (lit< tt) (omega (arith, pow-suc 2 k)) in
    let fewer : zeros - 1 ≡ count_leading_zeros (suc k) (2 * w + 1) =
    leading_unique (suc k) (2 * w + 1) (zeros - 1) (suc found.0) (omega arith) (omega (arith, pow-suc 2 found.0)) (omega (arith, pow-suc 2 found.0)) in
    omega arith

-- ---- words whose lanes are all below 0x80: what makes them, and how large they are

-- a word of bytes below 0x80
pub low_word : (l : List ℕ) → Ascii l → HasLowLanes (word l)
low_word [] a zero = omega arith
low_word [] a (suc i) = rw (div-pow_256 0 i) (low_word [] a i)
low_word (b ∷ l) a zero = let h : b < 128 = a.0 in omega arith
low_word (b ∷ l) a (suc i) =
    let h : b < 128 = a.0 in
    let e : (b + 256 * word l) / 256 ≡ word l = omega arith in
    rw (div-pow_256 (b + 256 * word l) i, e) (low_word l a.1 i)

-- what the lowest lanes of such a word leave
pub low_bound : (n w : ℕ) → HasLowLanes w → w % 256 ^ n ≤ word (replicate n 0x7f)
low_bound zero w h = omega arith
low_bound (suc n) w h =
    let first = h 0 in
    omega (arith, mod-pow_256 n w, low_bound n (w / 256) (λ i. rw (div-pow_256 w i) at (h (suc i))))

-- so it fits with room for one bit
pub low_word_bounds : (w : ℕ) → HasLowLanes w → (w < 2 ^ 32 → w ≤ 0x7f7f7f7f) × (w < 2 ^ 64 → w ≤ 0x7f7f7f7f7f7f7f7f)
low_word_bounds w h = (λ k. omega (arith, low_bound 4 w h), λ k. omega (arith, low_bound 8 w h))

-- two such lanes leave no carry, so nor do two such words
pub low_sum : (n w v : ℕ) → HasLowLanes w → HasLowLanes v → w % 256 ^ n + v % 256 ^ n < 256 ^ n
low_sum zero w v h k = omega arith
low_sum (suc n) w v h k =
    let first = h 0 in
    let other = k 0 in
    let rest = low_sum n (w / 256) (v / 256) (λ i. rw (div-pow_256 w i) at (h (suc i))) (λ i. rw (div-pow_256 v i) at (k (suc i))) in
    omega (arith, mod-pow_256 n w, mod-pow_256 n v, pow-suc 256 n)

-- one byte below 0x80 and then copies of another
pub low_first_then : (n a c : ℕ) → a ≤ 0x7f → c ≤ 0x7f → HasLowLanes (word (first_then n a c))
low_first_then zero a c h k = low_word [] tt
low_first_then (suc n) a c h k = low_word (a ∷ replicate n c) (omega arith, Each1-replicate (λ b. b < 128) n c (omega arith))

-- what is cut to the bits of such a word
pub low_and : (w m : ℕ) → HasLowLanes m → HasLowLanes (bit_and w m)
low_and w m h i =
    let e : lane (bit_and w m) i ≡ bit_and (lane w i) (lane m i) =
    rw (pow_256 i) (ap (λ n. n % 256) (and_shr w m (8 * i)) ∙ and_mod (w / 2 ^ (8 * i)) (m / 2 ^ (8 * i)) 8) in
    omega (arith, h i, and_le_r (lane w i) (lane m i))

-- what such words have in one or in both
pub low_or : (w m : ℕ) → HasLowLanes w → HasLowLanes m → HasLowLanes (bit_or w m)
low_or w m h k i =
    let e : lane (bit_or w m) i ≡ bit_or (lane w i) (lane m i) =
    rw (pow_256 i) (ap (λ n. n % 256) (or_shr w m (8 * i)) ∙ or_mod (w / 2 ^ (8 * i)) (m / 2 ^ (8 * i)) 8) in
    omega (arith, or_lt 7 (lane w i) (lane m i) (omega (arith, h i)) (omega (arith, k i)))

-- ---- a word of sixteen lanes, by its halves

pub and_halves : (w v : ℕ) → bit_and (w % 2 ^ 64) (v % 2 ^ 64) + 2 ^ 64 * bit_and (w / 2 ^ 64) (v / 2 ^ 64) ≡ bit_and w v
and_halves w v = omega (arith, and_mod w v 64, and_shr w v 64)

pub or_halves : (w v : ℕ) → bit_or (w % 2 ^ 64) (v % 2 ^ 64) + 2 ^ 64 * bit_or (w / 2 ^ 64) (v / 2 ^ 64) ≡ bit_or w v
or_halves w v = omega (arith, or_mod w v 64, or_shr w v 64)

pub xor_halves : (w v : ℕ) → bit_xor (w % 2 ^ 64) (v % 2 ^ 64) + 2 ^ 64 * bit_xor (w / 2 ^ 64) (v / 2 ^ 64) ≡ bit_xor w v
xor_halves w v = omega (arith, xor_mod w v 64, xor_shr w v 64)

-- no lane carries into the next, so nor does the low half into the high one
pub low_halves : (w : ℕ) → HasLowLanes w → w < 2 ^ 128 → (w % 2 ^ 64 ≤ 0x7f7f7f7f7f7f7f7f) × (w / 2 ^ 64 ≤ 0x7f7f7f7f7f7f7f7f)
low_halves w h fits = (omega (arith, low_bound 8 w h), omega (arith, low_bound 16 w h))

-- the high bits, two places lower
pub case_halves : (w : ℕ) → bit_and (w % 2 ^ 64) 0x8080808080808080 / 4 + 2 ^ 64 * (bit_and (w / 2 ^ 64) 0x8080808080808080 / 4) ≡ bit_and w 0x80808080808080808080808080808080 / 4
case_halves w =
    let mask : ℕ = 0x80808080808080808080808080808080 in
    let none = and_mod (w / 2 ^ 64) 0x8080808080808080 2 in
    let least = and_le_r (w / 2 ^ 64 % 4) 0 in
    omega (arith, and_mod w mask 64, and_shr w mask 64)
