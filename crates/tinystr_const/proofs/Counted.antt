-- The length of a text, by ones that are summed in the bytes of a word.
use Rattle.std.proofs.Common.{ℕ, zero, suc, ◌+◌, ◌-◌, ◌*◌, ◌/◌, ◌%◌, ◌^◌, ◌<◌, ◌≤◌, ◌≡◌, List, [], ◌∷◌, ◌++◌, length, map, take, drop, rules, refl, sym, ap, ap₂, ◌∙◌, arith, bit_and, nat_eq, lit<, cond}
use Rattle.std.proofs.Math.Nat.{pow-le-pow_right}
use Rattle.std.proofs.lemmas.Bool.Decides.{nat_tests}
use Rattle.std.proofs.lemmas.List.{length-append, length-drop, length-map, length-take, places}
use Rattle.std.proofs.lemmas.List.Elements.{All-head, All-tail}
use Rattle.std.proofs.lemmas.Simd.{Each1-from_get_or, length-zip2, sum-zip2}
use Rattle.std.specs.Simd.Lanes.{zip2}
use lib.Lanes.{sum_l}
use Rattle.tinystr_words.specs.Text.{IsPadded, IsText, IsTextByte, text_of}
use Rattle.tinystr_words.specs.Words.{word}
use Rattle.tinystr_words.proofs.Texts.{NULS, IsPaddedText-take, text_of-drop, text_of-take, length-text_of-le}
use Rattle.tinystr_words.proofs.Pieces.Copying.{IsPadded-append, IsPadded-nuls}
use Rattle.tinystr_words.proofs.Words.Lanes.{Ascii, IsBytes, IsBytes-from_Ascii, and_step, word-lt}
use Rattle.tinystr_words.proofs.Words.Numbers.{low_word, low_word_bounds, word-nuls}
use Rattle.tinystr_words.proofs.Padding.{fill, high_bit-is, padded_at}
use Rattle.tinystr_const.proofs.Continued.{low-bytes}

-- ---- a one for each character

abbrev one : ℕ → ℕ
one b = cond (nat_eq b 0) 0 1

one_mark : (b : ℕ) → b < 128 → bit_and (b + 0x7f) 0x80 ≡ 128 * one b
one_mark b low = high_bit-is (b + 0x7f) (omega arith) ∙ grind (arith, nat_tests)

ones_word : (l : List ℕ) → Ascii l → bit_and (word l + fill (length l) 0x7f) (fill (length l) 0x80) ≡ 128 * word (map one l)
ones_word [] a = refl
ones_word (b ∷ l) a =
    let n = length l in
    let low : b < 128 = a.0 in
    let sum : b + 256 * word l + (0x7f + 256 * fill n 0x7f) ≡ b + 0x7f + 256 * (word l + fill n 0x7f) = omega arith in
    rw (sum, and_step (word l + fill n 0x7f) (fill n 0x80) (b + 0x7f) 0x80 (omega arith) (lit< tt), one_mark b low, ones_word l a.1) (omega arith)

ones_text : (t : List ℕ) → IsText t → sum_l (map one t) ≡ length t
ones_text [] h = refl
ones_text (b ∷ t) h =
    let here : IsTextByte b = All-head IsTextByte b t h in
    let others = ones_text t (All-tail IsTextByte b t h) in
    let is : one b ≡ 1 = grind (arith, nat_tests) in
    omega arith

ones_nuls : (t : List ℕ) (k : ℕ) → sum_l (map one (t ++ NULS k)) ≡ sum_l (map one t)
ones_nuls [] zero = refl
ones_nuls [] (suc k) = let others = ones_nuls [] k in omega arith
ones_nuls (b ∷ t) k = ap (λ n. one b + n) (ones_nuls t k)

-- there are as many as the text has bytes
ones_padded : (l : List ℕ) → IsPadded l → sum_l (map one l) ≡ length (text_of l)
ones_padded l p =
    let t = text_of l in
    ap (λ (m : List ℕ). sum_l (map one m)) p.padded ∙ ones_nuls t (length l - length t) ∙ ones_text t p.text

Ascii-padded : (l : List ℕ) → IsPadded l → Ascii l
Ascii-padded l p = Each1-from_get_or (λ b. b < 128) l 0 (λ i h. (padded_at l i p).0)

-- ---- their sums, lane by lane

word_sum : (l m : List ℕ) → length l ≡ length m → word (zip2 (λ a b. a + b) l m) ≡ word l + word m
word_sum [] [] e = refl
word_sum [] (d ∷ m) e = absurd (omega arith)
word_sum (b ∷ l) [] e = absurd (omega arith)
word_sum (b ∷ l) (d ∷ m) e = let others = word_sum l m (omega arith) in omega arith

IsBytes-small_sum : (l : List ℕ) → sum_l l < 256 → IsBytes l
IsBytes-small_sum [] h = tt
IsBytes-small_sum (b ∷ l) h = (omega arith, IsBytes-small_sum l (omega arith))

-- eight sums count the characters before the rest
pub record Counts (w : ℕ) (rest all : List ℕ) : Type 0 where
  pub sums : List ℕ
  pub eight : length sums ≡ 8
  pub is : w ≡ word sums
  pub total : sum_l sums + length (text_of rest) ≡ length (text_of all)

pub Counts-none : (all : List ℕ) → Counts 0 all all
Counts-none all = record { sums = NULS 8; eight = refl; is = refl; total = omega arith }

counts_eight : (all rest u v : List ℕ) (w n : ℕ) → IsPadded u → length u ≡ 8 → length (text_of rest) ≡ length (text_of u) + length (text_of v)
    → n ≡ bit_and (word u + 0x7f7f7f7f7f7f7f7f) 0x8080808080808080 / 128 → Counts w rest all → Counts (w + n) v all
counts_eight all rest u v w n p long lens n_is c =
    let ones = map one u in
    let same : length c.sums ≡ length ones = c.eight ∙ sym (length-map u one ∙ long) in
    let marks = rw long at (ones_word u (Ascii-padded u p)) in
    let number : n ≡ word ones = n_is ∙ omega (arith, marks) in
    record {
      sums = zip2 (λ a b. a + b) c.sums ones;
      eight = length-zip2 (λ a b. a + b) c.sums ones same ∙ c.eight;
      is = ap₂ (λ a b. a + b) c.is number ∙ sym (word_sum c.sums ones same);
      total = omega (arith, sum-zip2 c.sums ones same, ones_padded u p, c.total);
    }

-- eight bytes more
pub counts_more : (all rest u v : List ℕ) (w x n : ℕ) → IsPadded rest → u ≡ take 8 rest → v ≡ drop 8 rest → length v + 8 ≡ length rest
    → x ≡ word u → n ≡ bit_and (x + 0x7f7f7f7f7f7f7f7f) 0x8080808080808080 / 128 → Counts w rest all → Counts (w + n) v all
counts_more all rest u v w x n p front back long x_is n_is c =
    let t = text_of rest in
    let eight : length u ≡ 8 = rw front (omega (arith, length-take 8 rest)) in
    let first : text_of u ≡ take 8 t = rw front (text_of-take rest (length rest) 8 p) in
    let others : text_of v ≡ drop 8 t = rw back (text_of-drop rest (length rest) 8 p) in
    let lens : length t ≡ length (text_of u) + length (text_of v) = rw (first, others) (omega (arith, length-take 8 t, length-drop 8 t)) in
    counts_eight all rest u v w n (rw front (IsPaddedText-take rest (length rest) 8 p)) eight lens (rw x_is at n_is) c

-- the last bytes
pub counts_last : (all rest : List ℕ) (w x n : ℕ) → IsPadded rest → length rest ≤ 8
    → x ≡ word (map (λ b. b % 256) rest) → n ≡ bit_and (x + 0x7f7f7f7f7f7f7f7f) 0x8080808080808080 / 128 → Counts w rest all → Counts (w + n) [] all
counts_last all rest w x n p few x_is n_is c =
    let k = 8 - length rest in
    let u = rest ++ NULS k in
    let eight : length u ≡ 8 = search (rules, places) in
    let nuls = IsPadded-nuls k in
    let whole = IsPadded-append rest (NULS k) p nuls.0 (λ short. nuls.1) in
    let text : length (text_of rest) ≡ length (text_of u) + 0 = rw (whole.1, nuls.1) (omega (arith, length-append (text_of rest) [])) in
    let same : x ≡ word u = x_is ∙ ap word (low-bytes rest (IsBytes-from_Ascii rest (Ascii-padded rest p))) ∙ sym (word-nuls rest k) in
    counts_eight all rest u [] w n whole.0 eight text (rw same at n_is) c

-- a word of such bytes leaves room for a carry in each
pub word_low : (l : List ℕ) (x : ℕ) → IsPadded l → length l ≤ 8 → x ≡ word l → x ≤ 0x7f7f7f7f7f7f7f7f
word_low l x p few is =
    let ascii = Ascii-padded l p in
    let small : word l < 256 ^ length l = word-lt l (IsBytes-from_Ascii l ascii) in
    let wide : 256 ^ length l ≤ 256 ^ 8 = pow-le-pow_right {n = 256} (lit< tt) few in
    let low : word l ≤ 0x7f7f7f7f7f7f7f7f = (low_word_bounds (word l) (low_word l ascii)).1 (omega arith) in
    omega arith

pub word_low-front : (rest u : List ℕ) (x : ℕ) → IsPadded rest → u ≡ take 8 rest → x ≡ word u → x ≤ 0x7f7f7f7f7f7f7f7f
word_low-front rest u x p front is = word_low u x (rw front (IsPaddedText-take rest (length rest) 8 p)) (rw front (omega (arith, length-take 8 rest))) is

pub word_low-last : (rest : List ℕ) (x : ℕ) → IsPadded rest → length rest ≤ 8 → x ≡ word (map (λ b. b % 256) rest) → x ≤ 0x7f7f7f7f7f7f7f7f
word_low-last rest x p few is = word_low rest x p few (is ∙ ap word (low-bytes rest (IsBytes-from_Ascii rest (Ascii-padded rest p))))

-- sums of at most 255 fit
pub counts_fit : (w : ℕ) (rest all : List ℕ) → Counts w rest all → length all < 256 → w < 2 ^ 64
counts_fit w rest all c short = rw c.is (rw c.eight at (word-lt c.sums (IsBytes-small_sum c.sums (omega (arith, c.total, length-text_of-le all)))))

-- ---- the sum of eight bytes, in the highest byte of a product

cut : (low top high : ℕ) → low < 2 ^ 56 → top < 256 → (low + 2 ^ 56 * top + 2 ^ 64 * high) % 2 ^ 64 / 2 ^ 56 ≡ top
cut low top high h k = omega arith

sum_of_eight : (l : List ℕ) → length l ≡ 8 → sum_l l < 256 → word l * 0x0101010101010101 % 2 ^ 64 / 2 ^ 56 ≡ sum_l l
sum_of_eight [] long small = absurd (omega arith)
sum_of_eight (a ∷ []) long small = absurd (omega arith)
sum_of_eight (a ∷ b ∷ []) long small = absurd (omega arith)
sum_of_eight (a ∷ b ∷ c ∷ []) long small = absurd (omega arith)
sum_of_eight (a ∷ b ∷ c ∷ d ∷ []) long small = absurd (omega arith)
sum_of_eight (a ∷ b ∷ c ∷ d ∷ e ∷ []) long small = absurd (omega arith)
sum_of_eight (a ∷ b ∷ c ∷ d ∷ e ∷ f ∷ []) long small = absurd (omega arith)
sum_of_eight (a ∷ b ∷ c ∷ d ∷ e ∷ f ∷ g ∷ []) long small = absurd (omega arith)
sum_of_eight (a ∷ b ∷ c ∷ d ∷ e ∷ f ∷ g ∷ h ∷ []) long small =
    let low = a + 256 * (a + b) + 65536 * (a + b + c) + 256 ^ 3 * (a + b + c + d) + 256 ^ 4 * (a + b + c + d + e) + 256 ^ 5 * (a + b + c + d + e + f) + 256 ^ 6 * (a + b + c + d + e + f + g) in
    let high = b + c + d + e + f + g + h + 256 * (c + d + e + f + g + h) + 65536 * (d + e + f + g + h) + 256 ^ 3 * (e + f + g + h) + 256 ^ 4 * (f + g + h) + 256 ^ 5 * (g + h) + 256 ^ 6 * h in
    let parts : word (a ∷ b ∷ c ∷ d ∷ e ∷ f ∷ g ∷ h ∷ []) * 0x0101010101010101 ≡ low + 2 ^ 56 * sum_l (a ∷ b ∷ c ∷ d ∷ e ∷ f ∷ g ∷ h ∷ []) + 2 ^ 64 * high = omega arith in
    rw parts (cut low (sum_l (a ∷ b ∷ c ∷ d ∷ e ∷ f ∷ g ∷ h ∷ [])) high (omega arith) small)
sum_of_eight (a ∷ b ∷ c ∷ d ∷ e ∷ f ∷ g ∷ h ∷ (i ∷ l)) long small = absurd (omega arith)

pub counts_total : (w x : ℕ) (all : List ℕ) → Counts w [] all → length all < 256 → x ≡ w * 0x0101010101010101 % 2 ^ 64 → x / 2 ^ 56 ≡ length (text_of all)
counts_total w x all c short x_is =
    let total : sum_l c.sums ≡ length (text_of all) = omega (arith, c.total) in
    rw (x_is, c.is) (sum_of_eight c.sums c.eight (omega (arith, total, length-text_of-le all))) ∙ total

-- ---- pieces of any length

pub length_pieces : (l front back : List ℕ) (n : ℕ) → IsPadded l → front ≡ take n l → back ≡ drop n l → length (text_of front) + length (text_of back) ≡ length (text_of l)
length_pieces l front back n p front_is back_is =
    let t = text_of l in
    let first : text_of front ≡ take n t = rw front_is (text_of-take l (length l) n p) in
    let others : text_of back ≡ drop n t = rw back_is (text_of-drop l (length l) n p) in
    rw (first, others) (omega (arith, length-take n t, length-drop n t))
