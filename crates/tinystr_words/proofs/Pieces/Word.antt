-- The word of some bytes is made of the words of their pieces, which may overlap.
use Rattle.std.proofs.Common.{ℕ, zero, suc, ◌+◌, ◌-◌, ◌*◌, ◌/◌, ◌%◌, ◌^◌, ◌<◌, ◌≤◌, ◌≡◌, List, [], ◌∷◌, length, get_or, take, drop, map, refl, sym, ap, ap₂, ◌∙◌, subst, arith, bit_or, Fits, w8, w16, lit<, min, inl, inr}
use lib.Lanes.{number_l}
use Rattle.std.proofs.lemmas.Bool.{cases_lt}
use Rattle.std.proofs.Math.Nat.{pow-suc, mul_comm, mul_assoc, pow-le-pow_right}
use Rattle.std.proofs.lemmas.List.{map-id, drop-drop, length-map, take-map, drop-map, length-drop, length-take, take_all, drop_all}
use Rattle.std.proofs.lemmas.Nat.{and_or_self, div-mul-add, mod-mul-add}
use Rattle.std.specs.Int.Bits.{or_self, or_add_and}
use Rattle.tinystr_words.specs.Text.{IsText}
use Rattle.tinystr_words.specs.Words.{word}
use Rattle.tinystr_words.proofs.Words.Lanes.{IsBytes, IsBytes-from_Fits, IsBytes-from_IsText, word-lt}
use Rattle.std.proofs.lemmas.Simd.{Each1-chunk}
use Rattle.std.proofs.lemmas.Grind.{common_steps}
use Rattle.tinystr_words.proofs.Words.Numbers.{pow_256}

-- ---- a word, by its halves

-- the front of a word, and after it the back
pub word_split : (n : ℕ) (l : List ℕ) → n ≤ length l → word l ≡ word (take n l) + 256 ^ n * word (drop n l)
word_split zero l h = omega arith
word_split (suc n) [] h = absurd (omega arith)
word_split (suc n) (b ∷ l) h =
    let e = word_split n l (omega arith) in
    let k : 256 ^ suc n * word (drop n l) ≡ 256 * (256 ^ n * word (drop n l)) = ap (λ p. p * word (drop n l)) (pow-suc 256 n ∙ mul_comm (256 ^ n) 256) ∙ mul_assoc 256 (256 ^ n) (word (drop n l)) in
    omega arith

-- cut at a place, or whole where it ends before that
pub word_cut : (m n : ℕ) (l : List ℕ) → n ≡ min (length l) m → word (take n l) + 256 ^ m * word (drop n l) ≡ word l
word_cut m n l cut = elim (cases_lt (length l) m) [
  | inl short ↦ (let end : n ≡ length l = omega (arith, cut) in rw (end, take_all (length l) l (omega arith), drop_all (length l) l (omega arith)) (omega arith))
  | inr long ↦ (let at : n ≡ m = omega (arith, cut) in rw at (sym (word_split m l long)))
]

-- cut at eight bytes
pub word_by_halves : (l : List ℕ) → let n = min (length l) 8 in word (take n l) + 2 ^ 64 * word (drop n l) ≡ word l
word_by_halves l = word_cut 8 (min (length l) 8) l refl

-- ---- the pieces that a word is loaded by

-- of one to three bytes, the first, the middle and the last
pub word_from_three : (l : List ℕ) → IsBytes l → 0 < length l → length l < 4
    → bit_or (bit_or (get_or l 0 0) (get_or l (length l / 2) 0 * 2 ^ (8 * (length l / 2)) % 4294967296)) (get_or l (length l - 1) 0 * 2 ^ (8 * (length l - 1)) % 4294967296) ≡ word l
word_from_three [] a some few = absurd (omega arith)
word_from_three (x ∷ []) a some few =
    let h : x < 256 = a.0 in
    let e : x * 1 % 4294967296 ≡ x = omega arith in
    rw (e, or_self x) (or_self x ∙ omega arith)
word_from_three (x ∷ y ∷ []) a some few =
    let h : x < 256 = a.0 in
    let k : y < 256 = a.1.0 in
    let once = or_add_and (bit_or x (y * 256)) (y * 256) in
    let same = and_or_self (y * 256) x in
    grind (arith, common_steps)
word_from_three (x ∷ y ∷ z ∷ []) a some few =
    let h : x < 256 = a.0 in
    let k : y < 256 = a.1.0 in
    let m : z < 256 = a.1.1.0 in
    grind (arith, common_steps)
word_from_three (x ∷ y ∷ z ∷ u ∷ l) a some few = absurd (omega arith)

-- ---- the lowest bytes of code units

-- the lowest bytes of numbers
pub IsBytes-low : {X : Type 0} (f : X → ℕ) (l : List X) → IsBytes (map (λ u. f u % 256) l)
IsBytes-low f [] = tt
IsBytes-low f (x ∷ l) = (omega arith, IsBytes-low f l)

-- numbers below 256 are their own lowest bytes
map-mod_small : {X : Type 0} (f : X → ℕ) (l : List X) → IsBytes (map f l) → map (λ u. f u % 256) l ≡ map f l
map-mod_small f [] a = refl
map-mod_small f (x ∷ l) a = let h : f x < 256 = a.0 in ap₂ (λ y (m : List ℕ). y ∷ m) (omega arith) (map-mod_small f l a.1)

-- as bytes are
pub map-mod_bytes : (l : List ℕ) → ((i : ℕ) → Fits w8 (get_or l i 0)) → map (λ u. u % 256) l ≡ l
map-mod_bytes l f = rw (map-id l) at (map-mod_small (λ u. u) l (rw (map-id l) (IsBytes-from_Fits l f)))

pub ruleset bytes_unchanged = map-mod_bytes

-- and characters
pub map-mod_text : {X : Type 0} (f : X → ℕ) (l : List X) → IsText (map f l) → map (λ u. f u % 256) l ≡ map f l
map-mod_text f l h = map-mod_small f l (IsBytes-from_IsText (map f l) h)

-- the last n code units, without those that are among the first n, follow these, as the code shifts them, and nothing
-- is lost
pub word_from_halves : {X : Type 0} (f : X → ℕ) (n : ℕ) (l : List X) → n ≤ length l → length l ≤ n + n
    → (word (map (λ u. f u % 256) (take n l)) + 256 ^ n * (word (map (λ u. f u % 256) (take (length l - (length l - n)) (drop (length l - n) l))) / 2 ^ (8 * (n + n - length l))) ≡ word (map (λ u. f u % 256) l))
    × (word (map (λ u. f u % 256) l) < 256 ^ (n + n))
word_from_halves {X} f n l least most =
    let low : X → ℕ = λ u. f u % 256 in
    let m = map low l in
    let all = length-map l low in
    let s = n + n - length l in
    let back = drop (length l - n) m in
    let long : length back ≡ n = omega (arith, length-drop (length l - n) m) in
    let others : drop s back ≡ drop n m = drop-drop s (length l - n) m ∙ ap (λ k. drop k m) (omega arith) in
    let sum : word back ≡ word (drop s back) * 256 ^ s + word (take s back) =
    word_split s back (omega arith) ∙ omega (arith, mul_comm (256 ^ s) (word (drop s back))) in
    let small : word (take s back) < 256 ^ s =
    subst (λ k. word (take s back) < 256 ^ k) (omega (arith, length-take s back)) (word-lt (take s back) (Each1-chunk (λ b. b < 256) (length l - n) s m (IsBytes-low f l))) in
    let quotient : word back / 256 ^ s ≡ word (drop n m) =
    ap (λ m. m / 256 ^ s) sum ∙ div-mul-add (word (drop s back)) (256 ^ s) (word (take s back)) small ∙ ap word others in
    let wide : 256 ^ length m ≤ 256 ^ (n + n) = pow-le-pow_right {n = 256} (lit< tt) (omega arith) in
    rw (← take-map low n l, ← take-map low (length l - (length l - n)) (drop (length l - n) l), ← drop-map low (length l - n) l, take_all (length l - (length l - n)) back (omega arith), ← pow_256 s, quotient)
    (sym (word_split n m (omega arith)), omega (arith, word-lt m (IsBytes-low f l)))

-- ---- 16-bit numbers, narrowed in a vector

-- every other byte of a number
abbrev pub every_other : ℕ → ℕ → ℕ
every_other zero x = 0
every_other (suc n) x = x % 256 + 256 * every_other n (x / 256 / 256)

-- they are the lowest of each of the numbers
pub every_other-number_l : (l : List ℕ) → ((i : ℕ) → Fits w16 (get_or l i 0)) → every_other (length l) (number_l 65536 l) ≡ word (map (λ u. u % 256) l)
every_other-number_l [] f = refl
every_other-number_l (u ∷ l) f =
    let small : u < 65536 = (f 0).fits in
    let low : (u + 65536 * number_l 65536 l) % 256 ≡ u % 256 = omega arith in
    let others : (u + 65536 * number_l 65536 l) / 256 / 256 ≡ number_l 65536 l = omega arith in
    ap₂ (λ b w. b + 256 * w) low (ap (every_other (length l)) others ∙ every_other-number_l l (λ i. f (suc i)))

-- as a word's lanes, of which none is lost
pub every_other-word : (n : ℕ) (l : List ℕ) → length l ≡ n → ((i : ℕ) → Fits w16 (get_or l i 0))
    → every_other n (number_l 65536 (take n l)) % 256 ^ n ≡ word (map (λ u. u % 256) l)
every_other-word n l long f =
    let all : take n l ≡ l = take_all n l (omega arith) in
    let low : every_other n (number_l 65536 (take n l)) ≡ word (map (λ u. u % 256) l) = rw (all, ← long) (every_other-number_l l f) in
    let small : word (map (λ u. u % 256) l) < 256 ^ n =
    subst (λ k. word (map (λ u. u % 256) l) < 256 ^ k) (length-map l (λ u. u % 256) ∙ long) (word-lt (map (λ u. u % 256) l) (IsBytes-low (λ u. u) l)) in
    let none : 0 * 256 ^ n + word (map (λ u. u % 256) l) ≡ word (map (λ u. u % 256) l) = omega arith in
    rw low (rw none at (mod-mul-add 0 (256 ^ n) (word (map (λ u. u % 256) l)) small))
