-- Decimal texts of numbers.
use Rattle.std.proofs.Common.{◌≡◌, ℕ, ◌+◌, ◌/◌, ◌%◌, ◌^◌, ◌<◌, ◌≤◌, List, [], ◌∷◌, ◌++◌, refl, ap, ap₂, ◌*◌, ◌∙◌, arith, lit<, zero, suc, ◌-◌, length, take, drop, get_or, replicate, sym, inl, inr, map, bit_and, bit_or, subst}
use Rattle.std.proofs.Math.Nat.{mod-lt, pow-le-pow_right, mul-le-mul_right, one-le-pow, mul_assoc, add-mul, pow-suc, mul_comm, mul-mod_left}
use Rattle.std.specs.Fmt.{decimal}
use Rattle.std.proofs.lemmas.Fmt.{decimal_step, decimal_digit, decimal_nonempty, first_decimal, digits_decimal, digits_value-decimal, decimal-digits_value, length-decimal-le}
use Rattle.tinystr_words.specs.Words.{HoldsText, text_in, word}
use Rattle.tinystr_words.proofs.Words.Texts.{HoldsText-rest, HoldsText-word}
use Rattle.std.proofs.lemmas.Grind.{pow_more}
use Rattle.std.proofs.Math.Seq.{drop-append-add}
use Rattle.std.proofs.lemmas.List.{length-drop, take-append-drop, length-append, length-replicate, drop-drop, drop_at, length-take-le}
use Rattle.std.proofs.lemmas.Bool.{cases_lt}
use Rattle.std.proofs.lemmas.List.Elements.{All-append, All-drop, All-replicate, All-weaker, All-nil, All-cons, All-head, All-tail}
use Rattle.std.proofs.lemmas.Str.Parse.{IsNumeralModel, numerals_by_weight, digits_value_short}
use Rattle.std.proofs.lemmas.Nat.{pow-add, mod-mul-add, and_block, and_mask, or_block, or_mod, le_or_l, le_or_r, mod-pow-add, pow_pos, div-mul-add}
use Rattle.tinystr_words.specs.Text.{IsTextByte, IsText}
use Rattle.std.specs.Int.{IsInRange}
use Rattle.std.specs.List.{All}
use Rattle.tinystr_words.specs.Decimal.{number_of, IsDecimalOf, last}
use lib.Count.{count_trailing_zeros, under}
use Rattle.std.proofs.lemmas.Simd.{Each1-chunk}
use Rattle.tinystr_words.proofs.Words.Lanes.{IsBytes, IsBytes-from_IsText, word-lt}
use Rattle.tinystr_words.proofs.Words.Numbers.{pow_256}
use Rattle.tinystr_words.proofs.Pieces.Word.{word_split}

-- ---- digits in a word

-- the word of a list whose last byte is below the bytes of another word
abbrev pub word_onto : List ℕ → ℕ → ℕ
word_onto [] w = w
word_onto (b ∷ l) w = b + 256 * word_onto l w

-- the word of a list is that of the list below the word 0
pub word_is_onto : (l : List ℕ) → word l ≡ word_onto l 0
word_is_onto [] = refl
word_is_onto (b ∷ l) = ap (λ n. b + 256 * n) (word_is_onto l)

-- the last byte of the list may go to the lowest lane of the word above it
word_onto-push : (l : List ℕ) (d w : ℕ) → word_onto (l ++ d ∷ []) w ≡ word_onto l (d + 256 * w)
word_onto-push [] d w = refl
word_onto-push (b ∷ l) d w = ap (λ n. b + 256 * n) (word_onto-push l d w)

-- so may the last digit of a number from 10 on
word_onto-decimal : (r w : ℕ) → 10 ≤ r → r < 2 ^ 64 → word_onto (decimal r) w ≡ word_onto (decimal (r / 10)) (48 + r % 10 + 256 * w)
word_onto-decimal r w big fits = ap (λ (l : List ℕ). word_onto l w) (decimal_step r big fits) ∙ word_onto-push (decimal (r / 10)) (48 + r % 10) w

-- and the last two digits of one from 100 on
pub word_onto-two_digits : (r w : ℕ) → 100 ≤ r → r < 2 ^ 64 → word_onto (decimal r) w ≡ word_onto (decimal (r / 100)) (65536 * w + (48 + r % 100 / 10 + 256 * (48 + r % 100 % 10)))
word_onto-two_digits r w big fits =
    let again : r / 10 / 10 ≡ r / 100 = omega arith in
    let pair : 48 + r / 10 % 10 + 256 * (48 + r % 10 + 256 * w) ≡ 65536 * w + (48 + r % 100 / 10 + 256 * (48 + r % 100 % 10)) = omega arith in
    word_onto-decimal r w (omega arith) fits ∙ word_onto-decimal (r / 10) (48 + r % 10 + 256 * w) (omega arith) (omega arith)
    ∙ ap₂ (λ n v. word_onto (decimal n) v) again pair

-- the digit of a number below 10, below a word
pub word_onto-one_digit : (r w : ℕ) → r < 10 → word_onto (decimal r) w ≡ 256 * w + (r + 48)
word_onto-one_digit r w small = ap (λ (l : List ℕ). word_onto l w) (decimal_digit r small) ∙ omega arith

-- the two digits of a number from 10 to 99, below a word
pub word_onto-last_two : (r w : ℕ) → 10 ≤ r → r < 100 → word_onto (decimal r) w ≡ 65536 * w + (48 + r / 10 + 256 * (48 + r % 10))
word_onto-last_two r w big small =
    word_onto-decimal r w big (omega arith) ∙ word_onto-one_digit (r / 10) (48 + r % 10 + 256 * w) (omega arith) ∙ omega arith

-- ---- the steps fit in 64 bits

-- three pairs of bytes fit, with one more pair below them
pub pow_65536-bounds : (i : ℕ) → i < 4 → (65536 ^ i ≤ 2 ^ 48) × (65536 ^ (i + 1) ≡ 65536 ^ i * 65536)
pow_65536-bounds i few =
    let three : i ≤ 3 = omega arith in
    (pow-le-pow_right {n = 65536} (lit< tt) three, pow_more 65536 i)

-- the remainder, times 100 for each pair of digits taken, stays at most n with one pair more
pub enough_next : (r i n : ℕ) → r * 100 ^ i ≤ n → r / 100 * 100 ^ (i + 1) ≤ n
enough_next r i n enough =
    let less : (r / 100 * 100) * 100 ^ i ≤ r * 100 ^ i = mul-le-mul_right (100 ^ i) (omega arith) in
    rw (pow_more 100 i) (omega arith)

-- after four pairs of digits, less than 100 is left of a number of 32 bits
pub enough_small : (r i n : ℕ) → 4 ≤ i → i ≤ 4 → n < 2 ^ 32 → r * 100 ^ i ≤ n → r < 100
enough_small r i n from to small enough =
    let four : i ≡ 4 = omega arith in
    let steps = rw four at enough in
    omega arith

pub ruleset decimal_steps = (word_is_onto, word_onto-two_digits, word_onto-one_digit, word_onto-last_two, pow_65536-bounds, enough_next, enough_small)

-- ---- std's `decimal` is the shortest decimal text

abbrev pub IsDigit : ℕ → Type 0
IsDigit d = IsInRange 48 57 d

-- digits and the number that they spell are a model of std's numerals
digits_model : IsNumeralModel (All IsDigit) number_of
digits_model = numerals_by_weight (All IsDigit)
    (record { empty = All-nil IsDigit; parts = λ c cs p. (All-head IsDigit c cs p, All-tail IsDigit c cs p); more = λ c cs k p. All-cons IsDigit c cs k p })
    number_of (record { empty = refl; more = λ c cs k. refl })

-- a decimal text is of digits
pub digits-decimal : (n : ℕ) → n < 2 ^ 64 → All IsDigit (decimal n)
digits-decimal n fits = digits_decimal digits_model n fits

-- one that begins with `0` has one digit
pub no_leading_zero : (n : ℕ) → n < 2 ^ 64 → get_or (decimal n) 0 0 ≡ 48 → length (decimal n) ≡ 1
no_leading_zero n fits zero_first =
    elim (cases_lt 0 n) [
      | inl some ↦ absurd (omega (arith, first_decimal n some fits))
      | inr none ↦ (let zero_is : n ≡ 0 = omega arith in rw (zero_is, decimal_digit 0 (omega arith)) refl)
    ]

-- std's `decimal` of a number is a decimal text of it
pub IsDecimalOf-decimal : (n : ℕ) → n < 2 ^ 64 → IsDecimalOf n (decimal n)
IsDecimalOf-decimal n fits = record {
  some = decimal_nonempty n fits;
  digits = digits_decimal digits_model n fits;
  value = digits_value-decimal digits_model n fits;
  shortest = no_leading_zero n fits;
}

-- its digits are a text
pub IsText-decimal : (n : ℕ) → n < 2 ^ 64 → IsText (decimal n)
IsText-decimal n fits = All-weaker IsDigit IsTextByte (λ d h. (omega arith, omega arith)) (decimal n) (digits_decimal digits_model n fits)

-- and the only one
pub IsDecimalOf-only : (n : ℕ) (ds : List ℕ) → n < 2 ^ 64 → IsDecimalOf n ds → ds ≡ decimal n
IsDecimalOf-only n ds fits h =
    sym (decimal-digits_value digits_model ds h.digits h.some h.shortest (omega (arith, h.value))) ∙ ap decimal h.value

-- a number of 32 bits has at most ten digits
pub length-decimal-le_ten : (n : ℕ) → n ≤ 4294967295 → length (decimal n) ≤ 10
length-decimal-le_ten n fits = length-decimal-le 10 n (omega arith) (omega arith) (omega arith)

-- ---- the last digits of a number that has more

-- the number that two parts spell
number_of-append : (a b : List ℕ) → number_of (a ++ b) ≡ number_of a * 10 ^ length b + number_of b
number_of-append [] b = omega arith
number_of-append (d ∷ a) b =
    rw (length-append a b, pow-add 10 (length a) (length b), number_of-append a b, add-mul ((d - 48) * 10 ^ length a) (number_of a) (10 ^ length b), mul_assoc (d - 48) (10 ^ length a) (10 ^ length b)) (omega arith)

-- a number of at most k digits is below 10 ^ k
pub decimal-lt : (k n : ℕ) → n < 2 ^ 64 → length (decimal n) ≤ k → n < 10 ^ k
decimal-lt k n fits short = rw (digits_value-decimal digits_model n fits) at (digits_value_short digits_model (decimal n) k (digits_decimal digits_model n fits) short)

-- a word holds the decimal text of a number of 32 bits
pub decimal_in_word : (n : ℕ) → n < 2 ^ 32 → (decimal n ≡ text_in 16 (word (decimal n))) × HoldsText 16 (word (decimal n))
decimal_in_word n fits =
    let held = HoldsText-word 16 (decimal n) (IsText-decimal n (omega arith)) (omega (arith, length-decimal-le_ten n (omega arith))) in
    (sym held.1, held.0)

pub ruleset decimal_lengths = (length-decimal-le, decimal_nonempty, length-decimal-le_ten, decimal-lt)

-- they are those of a number that has a 1 before them, without the 1
pub decimal-last_digits : (k n : ℕ) → n < 2 ^ 32 → k < length (decimal n) → drop 1 (decimal (10 ^ k + n % 10 ^ k)) ≡ last k (decimal n)
decimal-last_digits k n fits more =
    let ds = last k (decimal n) in
    let front = take (length (decimal n) - k) (decimal n) in
    let digits : All IsDigit (49 ∷ ds) = All-cons IsDigit 49 ds (omega arith, omega arith) (All-drop IsDigit (length (decimal n) - k) (decimal n) (digits_decimal digits_model n (omega arith))) in
    let long : length ds ≡ k = omega (arith, length-drop (length (decimal n) - k) (decimal n)) in
    let ten = length-decimal-le_ten n (omega arith) in
    let whole : n ≡ number_of front * 10 ^ k + number_of ds =
    sym (digits_value-decimal digits_model n (omega arith)) ∙ ap number_of (sym (take-append-drop (length (decimal n) - k) (decimal n))) ∙ number_of-append front ds ∙ ap (λ m. number_of front * 10 ^ m + number_of ds) long in
    let low : n % 10 ^ k ≡ number_of ds = ap (λ m. m % 10 ^ k) whole ∙ mod-mul-add (number_of front) (10 ^ k) (number_of ds) (digits_value_short digits_model ds k (All-tail IsDigit 49 ds digits) (omega arith)) in
    let value : 10 ^ k + n % 10 ^ k ≡ number_of (49 ∷ ds) = rw (long, low) (omega arith) in
    let small = digits_value_short digits_model (49 ∷ ds) 11 digits (omega arith) in
    ap (λ m. drop 1 (decimal m)) value ∙ ap (drop 1) (decimal-digits_value digits_model (49 ∷ ds) digits (omega arith) (λ e. absurd (omega arith)) (omega arith))

-- at most nine zeros after a 1
pub pow_10-bounds : (k : ℕ) → k ≤ 9 → (10 ^ k ≤ 10 ^ 9) × (0 < 10 ^ k)
pow_10-bounds k nine = (pow-le-pow_right {n = 10} (lit< tt) nine, one-le-pow k 10 (lit< tt))

-- where a number of 32 bits has more than k digits, a word holds the last k, without a 1 before them; the first part says nothing
pub last_digits_in_word : (k n : ℕ) → n < 2 ^ 32 → k < length (decimal n) → let m = 10 ^ k + n % 10 ^ k in
    (decimal m ≡ decimal m) × ((last k (decimal n) ≡ text_in 16 (word (decimal m) / 256)) × HoldsText 16 (word (decimal m) / 256))
last_digits_in_word k n fits more =
    let m = 10 ^ k + n % 10 ^ k in
    let bounds = pow_10-bounds k (omega (arith, length-decimal-le_ten n (omega arith))) in
    let small : m < 2 ^ 32 = omega (arith, mod-lt n bounds.1) in
    let whole = HoldsText-rest 16 (decimal m) (IsText-decimal m (omega arith)) (omega (arith, length-decimal-le_ten m (omega arith))) in
    (refl, (sym (whole.1 ∙ decimal-last_digits k n fits more), whole.0))

pub ruleset last_digits = (length-decimal-le_ten, pow_10-bounds, last_digits_in_word)

-- ---- the last eight digits of a number, and leading zeros where it has fewer

-- leading zeros add nothing
number_of-zeros : (j : ℕ) (l : List ℕ) → number_of (replicate j 48 ++ l) ≡ number_of l
number_of-zeros zero l = refl
number_of-zeros (suc j) l = omega (arith, number_of-zeros j l)

-- the digits after a 1 that keeps their zeros
abbrev pub eight_digits : ℕ → List ℕ
eight_digits n = drop 1 (decimal (10 ^ 8 + n % 10 ^ 8))

pub digits-eight_digits : (n : ℕ) → n < 2 ^ 32 → All IsDigit (eight_digits n)
digits-eight_digits n fits = All-drop IsDigit 1 (decimal (10 ^ 8 + n % 10 ^ 8)) (digits-decimal (10 ^ 8 + n % 10 ^ 8) (omega arith))

-- of a number with no more digits
pub eight_digits-zeros : (n : ℕ) → n < 2 ^ 32 → length (decimal n) ≤ 8 → eight_digits n ≡ replicate (8 - length (decimal n)) 48 ++ decimal n
eight_digits-zeros n fits short =
    let j : ℕ = 8 - length (decimal n) in
    let ds : List ℕ = replicate j 48 ++ decimal n in
    let zero_digit : IsDigit 48 = (omega arith, omega arith) in
    let digits : All IsDigit (49 ∷ ds) = All-cons IsDigit 49 ds (omega arith, omega arith) (All-append IsDigit (replicate j 48) (decimal n) (All-replicate IsDigit j 48 zero_digit) (digits-decimal n (omega arith))) in
    let long : length ds ≡ 8 = omega (arith, length-append (replicate j 48) (decimal n), length-replicate {A = ℕ} j 48) in
    let spelled : number_of ds ≡ n = number_of-zeros j (decimal n) ∙ digits_value-decimal digits_model n (omega arith) in
    let small = decimal-lt 8 n (omega arith) short in
    let value : 10 ^ 8 + n % 10 ^ 8 ≡ number_of (49 ∷ ds) = rw (long, spelled) (omega arith) in
    ap (λ m. drop 1 (decimal m)) value ∙ ap (λ (l : List ℕ). drop 1 l) (decimal-digits_value digits_model (49 ∷ ds) digits (omega arith) (λ e. absurd (omega arith)) (omega arith))

-- of any number
pub length-eight_digits : (n : ℕ) → n < 2 ^ 32 → length (eight_digits n) ≡ 8
length-eight_digits n fits =
    elim (cases_lt 8 (length (decimal n))) [
      | inl more ↦ ap (λ (l : List ℕ). length l) (decimal-last_digits 8 n fits more) ∙ omega (arith, length-drop (length (decimal n) - 8) (decimal n))
      | inr all ↦ (
          let j : ℕ = 8 - length (decimal n) in
          ap (λ (l : List ℕ). length l) (eight_digits-zeros n fits all) ∙ omega (arith, length-append (replicate j 48) (decimal n), length-replicate {A = ℕ} j 48)
          )
    ]

-- the last k of them
pub eight_digits-last : (k n : ℕ) → n < 2 ^ 32 → k ≤ 8 → k < length (decimal n) → drop (8 - k) (eight_digits n) ≡ last k (decimal n)
eight_digits-last k n fits most more =
    let len : ℕ = length (decimal n) in
    elim (cases_lt 8 (length (decimal n))) [
      | inl long ↦ (
          let sum : len - 8 + (8 - k) ≡ len - k = omega arith in
          ap (λ (l : List ℕ). drop (8 - k) l) (decimal-last_digits 8 n fits long) ∙ drop-drop (8 - k) (len - 8) (decimal n) ∙ ap (λ i. drop i (decimal n)) sum
          )
      | inr short ↦ (
          let j : ℕ = 8 - len in
          let sum : 8 - k ≡ length (replicate j 48) + (len - k) = omega (arith, length-replicate {A = ℕ} j 48) in
          ap₂ (λ i (l : List ℕ). drop i l) sum (eight_digits-zeros n fits short) ∙ drop-append-add (replicate j 48) (decimal n) (len - k)
          )
    ]

-- ---- four numbers in lanes of 16 bits

abbrev pub four : ℕ → ℕ → ℕ → ℕ → ℕ
four a b c d = a + 65536 * (b + 65536 * (c + 65536 * d))

-- the tenth of a lane, whatever is in the lanes above
tenth : (p r m : ℕ) → p < 100 → bit_and ((103 * p + 65536 * r) / 1024) (15 + 65536 * m) ≡ p / 10 + 65536 * bit_and (r / 1024) m
tenth p r m small =
    let low : ℕ = 103 * p / 1024 + 64 * (r % 1024) in
    let split : (103 * p + 65536 * r) / 1024 ≡ r / 1024 * 65536 + low = omega arith in
    let mask : 15 + 65536 * m ≡ m * 65536 + 15 = omega arith in
    let digit : low % 16 ≡ p / 10 = omega arith in
    ap₂ (λ x y. bit_and x y) split mask ∙ and_block 16 (r / 1024) m low 15 (omega arith) (omega arith)
    ∙ ap (λ n. bit_and (r / 1024) m * 65536 + n) (and_mask low 4 ∙ digit) ∙ omega arith

-- the tenths of all lanes
pub tenths : (a b c d : ℕ) → a < 100 → b < 100 → c < 100 → d < 100 → bit_and (four a b c d * 103 / 1024) 0x000f_000f_000f_000f ≡ four (a / 10) (b / 10) (c / 10) (d / 10)
tenths a b c d p q r s =
    let x : ℕ = 103 * d + 65536 * 0 in
    let y : ℕ = 103 * c + 65536 * x in
    let z : ℕ = 103 * b + 65536 * y in
    let product : four a b c d * 103 ≡ 103 * a + 65536 * z = omega arith in
    let one : bit_and (x / 1024) 0x000f ≡ d / 10 = tenth d 0 0 s ∙ omega arith in
    let two : bit_and (y / 1024) 0x000f_000f ≡ c / 10 + 65536 * (d / 10) = tenth c x 0x000f r ∙ ap (λ n. c / 10 + 65536 * n) one in
    let three : bit_and (z / 1024) 0x000f_000f_000f ≡ b / 10 + 65536 * (c / 10 + 65536 * (d / 10)) = tenth b y 0x000f_000f q ∙ ap (λ n. b / 10 + 65536 * n) two in
    ap (λ n. bit_and (n / 1024) 0x000f_000f_000f_000f) product ∙ tenth a z 0x000f_000f_000f p ∙ ap (λ n. a / 10 + 65536 * n) three

-- a pair's two digits, the tens lowest
abbrev pub pair : ℕ → ℕ
pair p = 48 + p / 10 + 256 * (48 + p % 10)

-- the pairs' digits, from the pairs and their tens
pub digits_of_pairs : (a b c d : ℕ) → let tens = four (a / 10) (b / 10) (c / 10) (d / 10) in
    (10 * tens ≤ four a b c d) × (tens + 256 * (four a b c d - 10 * tens) + 0x3030303030303030 ≡ four (pair a) (pair b) (pair c) (pair d))
digits_of_pairs a b c d =
    let tens = four (a / 10) (b / 10) (c / 10) (d / 10) in
    let ones : 10 * tens + four (a % 10) (b % 10) (c % 10) (d % 10) ≡ four a b c d = omega arith in
    (omega arith, omega arith)

-- they fit in 64 bits
pairs_fit : (a b c d : ℕ) → a < 100 → b < 100 → c < 100 → d < 100 → four (pair a) (pair b) (pair c) (pair d) < 2 ^ 64
pairs_fit a b c d p q r s = omega arith

-- ---- the word of eight digits

-- the last two digits of a number, below a word
two_more : (r q p w : ℕ) → 0 < q → p < 100 → r ≡ 100 * q + p → r < 2 ^ 64 → word_onto (decimal r) w ≡ word_onto (decimal q) (pair p + 65536 * w)
two_more r q p w some small is fits =
    let high : r / 100 ≡ q = omega arith in
    let rest : r % 100 ≡ p = omega arith in
    let low : 65536 * w + (48 + r % 100 / 10 + 256 * (48 + r % 100 % 10)) ≡ pair p + 65536 * w = rw rest (omega arith) in
    word_onto-two_digits r w (omega arith) fits ∙ ap₂ (λ n v. word_onto (decimal n) v) high low

-- a digit below a word goes away
without_first : (w d : ℕ) → d < 256 → (256 * w + d) / 256 ≡ w
without_first w d small = omega arith

-- the digits after a 1, by pairs
pub word-eight_digits : (n : ℕ) → n < 10 ^ 8 → word (decimal (10 ^ 8 + n)) / 256 ≡ four (pair (n / 10 ^ 6)) (pair (n / 10 ^ 4 % 100)) (pair (n / 100 % 100)) (pair (n % 100))
word-eight_digits n small =
    let w1 : ℕ = pair (n % 100) in
    let w2 : ℕ = pair (n / 100 % 100) + 65536 * w1 in
    let w3 : ℕ = pair (n / 10 ^ 4 % 100) + 65536 * w2 in
    let w4 : ℕ = pair (n / 10 ^ 6) + 65536 * w3 in
    let none : pair (n % 100) + 65536 * 0 ≡ w1 = omega arith in
    ap (λ w. w / 256) (word_is_onto (decimal (10 ^ 8 + n))
    ∙ two_more (10 ^ 8 + n) (10 ^ 6 + n / 100) (n % 100) 0 (omega arith) (omega arith) (omega arith) (omega arith)
    ∙ ap (λ w. word_onto (decimal (10 ^ 6 + n / 100)) w) none
    ∙ two_more (10 ^ 6 + n / 100) (10 ^ 4 + n / 10 ^ 4) (n / 100 % 100) w1 (omega arith) (omega arith) (omega arith) (omega arith)
    ∙ two_more (10 ^ 4 + n / 10 ^ 4) (10 ^ 2 + n / 10 ^ 6) (n / 10 ^ 4 % 100) w2 (omega arith) (omega arith) (omega arith) (omega arith)
    ∙ two_more (10 ^ 2 + n / 10 ^ 6) 1 (n / 10 ^ 6) w3 (omega arith) (omega arith) (omega arith) (omega arith)
    ∙ word_onto-one_digit 1 w4 (omega arith))
    ∙ without_first w4 49 (omega arith)

-- the pairs, their tens, and the digits made of these; the first part says nothing
pub made : (n : ℕ) → n < 10 ^ 8 → (n / 10 ^ 6 ≡ n / 10 ^ 6)
    × (let pairs = n / 10 ^ 6 + 65536 * (n / 10 ^ 4 % 100 + 65536 * (n / 100 % 100 + 65536 * (n % 100))) in let tens = bit_and (pairs * 103 / 1024) 0x000f_000f_000f_000f in
    (10 * tens ≤ pairs) × (tens + 256 * (pairs - 10 * tens) + 0x3030303030303030 ≡ word (decimal (10 ^ 8 + n)) / 256))
made n small =
    let a : ℕ = n / 10 ^ 6 in
    let b : ℕ = n / 10 ^ 4 % 100 in
    let c : ℕ = n / 100 % 100 in
    let d : ℕ = n % 100 in
    let tenth = tenths a b c d (omega arith) (omega arith) (omega arith) (omega arith) in
    let digits = digits_of_pairs a b c d in
    (refl, rw tenth (digits.0, digits.1 ∙ sym (word-eight_digits n small)))

-- ---- the zeros at the low end of a number

-- one more zero, below t
under-ge : (d t u : ℕ) → d ≡ 0 → t ≤ u → suc t ≤ under d u
under-ge zero t u even le = omega arith
under-ge (suc d) t u even le = absurd (omega arith)

under-lt : (d t u : ℕ) → (d ≡ 0 → u < t) → under d u < suc t
under-lt zero t u few = omega (arith, few refl)
under-lt (suc d) t u few = omega arith

-- the lowest bit, and those above it
mod-pow_suc : (n t : ℕ) → n % 2 ^ suc t ≡ n / 2 % 2 ^ t * 2 + n % 2
mod-pow_suc n t = let e : suc t ≡ t + 1 = omega arith in rw e (mod-pow-add n t 1)

-- at least the exponent of a power of two that divides it
trailing-ge : (k t n : ℕ) → t ≤ k → n % 2 ^ t ≡ 0 → t ≤ count_trailing_zeros k n
unfolding count_trailing_zeros
trailing-ge k zero n le none = omega arith
trailing-ge zero (suc t) n le none = absurd (omega arith)
trailing-ge (suc k) (suc t) n le none =
    let parts = mod-pow_suc n t in
    under-ge (n % 2) t (count_trailing_zeros k (n / 2)) (omega arith) (trailing-ge k t (n / 2) (omega arith) (omega arith))

-- and less than that of one that doesn't
trailing-lt : (k t n : ℕ) → 0 < n % 2 ^ t → count_trailing_zeros k n < t
unfolding count_trailing_zeros
trailing-lt k zero n some = absurd (omega arith)
trailing-lt zero (suc t) n some = omega arith
trailing-lt (suc k) (suc t) n some =
    let parts = mod-pow_suc n t in
    under-lt (n % 2) t (count_trailing_zeros k (n / 2)) (λ even. trailing-lt k t (n / 2) (omega arith))

-- by eight, the lanes below the first that isn't 0
trailing-lanes : (j y : ℕ) → j < 8 → 0 < y % 256 → count_trailing_zeros 64 (y * 256 ^ j) / 8 ≡ j
trailing-lanes j y few some =
    let p : ℕ = 2 ^ (8 * j) in
    let x : ℕ = y * p in
    let one : 0 < p = pow_pos (8 * j) in
    let low : x % p ≡ 0 = mul-mod_left y p in
    let none : y * p + 0 ≡ x = omega arith in
    let up : x / p ≡ y = rw none at (div-mul-add y p 0 one) in
    let parts : x % 2 ^ (8 + 8 * j) ≡ (y % 256) * p = mod-pow-add x 8 (8 * j) ∙ ap₂ (λ a b. a % 256 * p + b) up low ∙ omega arith in
    let much : 1 * p ≤ (y % 256) * p = mul-le-mul_right p some in
    rw (pow_256 j) (omega (arith, trailing-ge 64 (8 * j) x (omega arith) low, trailing-lt 64 (8 + 8 * j) x (omega arith)))

-- ---- the digits that aren't text

-- the digits as numbers
abbrev pub values : List ℕ → List ℕ
values l = map (λ d. d - 48) l

-- without 48 in each lane they are in the word
word-values : (l : List ℕ) → All IsDigit l → word l ≡ word (values l) + word (replicate (length l) 48)
word-values [] a = refl
word-values (d ∷ l) a =
    let h = All-head IsDigit d l a in
    omega (arith, word-values l (All-tail IsDigit d l a))

-- leading zeros only shift them up
word-zeros : (j : ℕ) (l : List ℕ) → word (values (replicate j 48 ++ l)) ≡ word (values l) * 256 ^ j
word-zeros zero l = omega arith
word-zeros (suc j) l =
    let up : word (values l) * 256 ^ suc j ≡ word (values l) * 256 ^ j * 256 = ap (λ p. word (values l) * p) (pow-suc 256 j) ∙ sym (mul_assoc (word (values l)) (256 ^ j) 256) in
    omega (arith, word-zeros j l)

-- the lowest bit gives the number of leading zeros, where one more bit is set in the last lane
trailing-digits : (j : ℕ) (l : List ℕ) → j + length l ≡ 8 → All IsDigit l → (get_or l 0 0 ≡ 48 → length l ≡ 1) → 0 < length l
    → count_trailing_zeros 64 (bit_or (word (values (replicate j 48 ++ l))) (2 ^ 56)) / 8 ≡ j
trailing-digits j [] long digits first some = absurd (omega arith)
trailing-digits j (d ∷ l) long digits first some =
    let h = All-head IsDigit d l digits in
    let a : ℕ = word (values (d ∷ l)) in
    let b : ℕ = 256 ^ length l in
    let p : ℕ = 2 ^ (8 * j) in
    let seven : length l + j ≡ 7 = omega arith in
    let left : word (values (replicate j 48 ++ d ∷ l)) ≡ a * p + 0 = word-zeros j (d ∷ l) ∙ ap (λ m. a * m) (pow_256 j) ∙ omega arith in
    let right : 2 ^ 56 ≡ b * p + 0 = ap (λ m. 256 ^ m) (sym seven) ∙ pow-add 256 (length l) j ∙ ap (λ m. b * m) (pow_256 j) ∙ omega arith in
    let one : 0 < p = pow_pos (8 * j) in
    let none : bit_or a b * p + bit_or 0 0 ≡ bit_or a b * p = omega arith in
    let both : bit_or (word (values (replicate j 48 ++ d ∷ l))) (2 ^ 56) ≡ bit_or a b * 256 ^ j =
    ap₂ (λ m n. bit_or m n) left right ∙ or_block (8 * j) a b 0 0 one one ∙ none ∙ ap (λ m. bit_or a b * m) (sym (pow_256 j)) in
    let lane : bit_or a b % 256 ≡ bit_or (a % 256) (b % 256) = or_mod a b 8 in
    let low : a % 256 ≡ d - 48 = omega arith in
    let set : 0 < bit_or a b % 256 = elim (cases_lt 48 d) [
      | inl more ↦ omega (arith, le_or_l (a % 256) (b % 256))
      | inr less ↦ (
          let only : length l ≡ 0 = omega (arith, first (omega arith)) in
          let last : b ≡ 1 = ap (λ m. 256 ^ m) only in
          omega (arith, le_or_r (a % 256) (b % 256))
          )
    ] in
    rw both (trailing-lanes j (bit_or a b) (omega arith) set)

-- ---- the text among the digits

-- a word without its lowest lanes
word-drop : (z : ℕ) (l : List ℕ) → IsBytes l → z ≤ length l → word l / 256 ^ z ≡ word (drop z l)
word-drop z l bytes le =
    let front : word (take z l) < 256 ^ z = subst (λ m. word (take z l) < 256 ^ m) (length-take-le z l le) (word-lt (take z l) (Each1-chunk (λ b. b < 256) 0 z l bytes)) in
    ap (λ m. m / 256 ^ z) (word_split z l le ∙ omega (arith, mul_comm (256 ^ z) (word (drop z l)))) ∙ div-mul-add (word (drop z l)) (256 ^ z) (word (take z l)) front

-- the word of eight digits fits in 64 bits
pub eight_digits-fit : (n v : ℕ) → n < 2 ^ 32 → v + 0x3030303030303030 ≡ word (decimal (10 ^ 8 + n % 10 ^ 8)) / 256 → v + 0x3030303030303030 < 2 ^ 64
eight_digits-fit n v fits is =
    let e : ℕ = n % 10 ^ 8 in
    let small = pairs_fit (e / 10 ^ 6) (e / 10 ^ 4 % 100) (e / 100 % 100) (e % 100) (omega arith) (omega arith) (omega arith) (omega arith) in
    omega (arith, word-eight_digits e (omega arith))

-- of eight digits those are left that are the text, or the last k
pub word-last : (k n v z : ℕ) → 0 < k → k ≤ 8 → n < 2 ^ 32 → v + 0x3030303030303030 ≡ word (decimal (10 ^ 8 + n % 10 ^ 8)) / 256
    → (length (decimal n) ≤ k → z ≡ count_trailing_zeros 64 (bit_or v (2 ^ 56)) / 8) → (k < length (decimal n) → z ≡ 8 - k)
    → (z < 8) × ((v + 0x3030303030303030) / 256 ^ z ≡ word (last k (decimal n)))
word-last k n v z some most fits is whole cut =
    let m : ℕ = 10 ^ 8 + n % 10 ^ 8 in
    let ds : List ℕ = eight_digits n in
    let text : IsText (decimal m) = IsText-decimal m (omega arith) in
    let long : length ds ≡ 8 = length-eight_digits n fits in
    let word_of : v + 0x3030303030303030 ≡ word ds = is ∙ word-drop 1 (decimal m) (IsBytes-from_IsText (decimal m) text) (decimal_nonempty m (omega arith)) in
    let bytes : IsBytes ds = IsBytes-from_IsText ds (All-drop IsTextByte 1 (decimal m) text) in
    let left : (j : ℕ) → z ≡ j → j < 8 → drop j ds ≡ last k (decimal n) → (z < 8) × ((v + 0x3030303030303030) / 256 ^ z ≡ word (last k (decimal n))) =
    λ j at few kept. (omega arith, ap₂ (λ w i. w / 256 ^ i) word_of at ∙ word-drop j ds bytes (omega arith) ∙ ap word kept) in
    elim (cases_lt k (length (decimal n))) [
      | inl more ↦ left (8 - k) (cut more) (omega arith) (eight_digits-last k n fits most more)
      | inr all ↦ (
          let j : ℕ = 8 - length (decimal n) in
          let zeros : ds ≡ replicate j 48 ++ decimal n = eight_digits-zeros n fits (omega arith) in
          let one = decimal_nonempty n (omega arith) in
          let same : v ≡ word (values ds) = omega (arith, rw long at (word-values ds (digits-eight_digits n fits))) in
          let found : z ≡ j = whole all ∙ ap (λ w. count_trailing_zeros 64 (bit_or w (2 ^ 56)) / 8) (same ∙ ap (λ (l : List ℕ). word (values l)) zeros)
          ∙ trailing-digits j (decimal n) (omega arith) (digits-decimal n (omega arith)) (no_leading_zero n (omega arith)) one in
          let none : length (decimal n) - k ≡ 0 = omega arith in
          left j found (omega arith) (ap (λ (l : List ℕ). drop j l) zeros ∙ drop_at (replicate j 48) (decimal n) j (length-replicate {A = ℕ} j 48) ∙ sym (ap (λ i. drop i (decimal n)) none))
          )
    ]
