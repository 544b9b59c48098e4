-- Texts as they are printed under a width and a precision.
use Rattle.std.proofs.Common.{◌≡◌, ℕ, zero, suc, ◌-◌, ◌<◌, ◌≤◌, ◌/◌, ◌^◌, Bool, true, false, List, [], ◌∷◌, ◌++◌, length, replicate, take, ap, ap₂, refl, sym, arith, cond}
use Rattle.std.proofs.lemmas.Bool.Decides.{nat_tests}
use Rattle.std.proofs.lemmas.List.{append-nil, length-append, length-replicate, take_all}
use Rattle.std.proofs.lemmas.Str.Ascii.{encode_ascii}
use Rattle.std.specs.Fmt.{is_char_start, char_count, take_chars, padded, padding_before, spec_fill, styled_text}
use Rattle.std.specs.List.{repeat}
use Rattle.std.specs.Prelude.{encode_utf8, ◌==◌, ◌&&◌}
use Rattle.tinystr_words.specs.Text.{IsTextByte, IsText}

-- a byte of a text is the first of a character
is_char_start-text : (b : ℕ) → IsTextByte b → is_char_start b ≡ true
is_char_start-text b h = grind (arith, nat_tests)

-- the characters of a text are its bytes
pub char_count-text : (t : List ℕ) → IsText t → char_count t ≡ length t
unfolding char_count
char_count-text [] h = refl
char_count-text (b ∷ t) h = rw (is_char_start-text b (h 0 0 (omega arith))) (omega (arith, char_count-text t (λ k d below. h (suc k) d (omega arith))))

-- its first characters are its first bytes
pub take_chars-text : (n : ℕ) (t : List ℕ) → IsText t → take_chars n t ≡ take n t
unfolding take_chars
take_chars-text zero [] h = refl
take_chars-text (suc n) [] h = refl
take_chars-text zero (b ∷ t) h = rw (is_char_start-text b (h 0 0 (omega arith))) refl
take_chars-text (suc n) (b ∷ t) h =
    let some : (suc n == 0) ≡ false = grind (arith, nat_tests) in
    let less : suc n - 1 ≡ n = omega arith in
    rw (is_char_start-text b (h 0 0 (omega arith)), some, less) (ap (λ l. b ∷ l) (take_chars-text n t (λ k d below. h (suc k) d (omega arith))))

-- a fill character of ASCII is one byte
repeat-ascii : (n c : ℕ) → c < 128 → repeat n (encode_utf8 c) ≡ replicate n c
repeat-ascii zero c low = refl
repeat-ascii (suc n) c low = rw (encode_ascii c low) (ap (λ l. c ∷ l) (rw (encode_ascii c low) at (repeat-ascii n c low)))

-- ---- under a width

-- a text that the precision doesn't cut is filled up to the width
padded-text : (s : _) (t : List ℕ) → IsText t → spec_fill s < 128 → length t ≤ s.precision
    → let short = s.width - length t in let before = padding_before s short 1 in
    padded s t ≡ replicate before s.fill ++ (t ++ replicate (short - before) s.fill)
unfolding padded
padded-text s t h low fits =
    rw (take_chars-text s.precision t h, take_all s.precision t fits, char_count-text t h)
    (ap₂ (λ x y. x ++ (t ++ y)) (repeat-ascii _ s.fill low) (repeat-ascii _ s.fill low))

-- after it where no side is named, and under `<`
pub padded-after : (s : _) (t : List ℕ) → IsText t → spec_fill s < 128 → padding_before s (s.width - length t) 1 ≡ 0 → length t ≤ s.precision
    → padded s t ≡ t ++ replicate (s.width - length t) s.fill
padded-after s t h low none fits =
    let all : s.width - length t - 0 ≡ s.width - length t = omega arith in
    rw (none, all) at (padded-text s t h low fits)

-- by halves under `^`
pub padded-between : (s : _) (t : List ℕ) → IsText t → spec_fill s < 128 → padding_before s (s.width - length t) 1 ≡ (s.width - length t) / 2 → length t ≤ s.precision
    → let short = s.width - length t in padded s t ≡ replicate (short / 2) s.fill ++ (t ++ replicate (short - short / 2) s.fill)
padded-between s t h low half fits = rw half at (padded-text s t h low fits)

-- before it under `>`
pub padded-before : (s : _) (t : List ℕ) → IsText t → spec_fill s < 128 → padding_before s (s.width - length t) 1 ≡ s.width - length t → length t ≤ s.precision
    → padded s t ≡ replicate (s.width - length t) s.fill ++ t
padded-before s t h low all fits =
    let none : (s.width - length t) - (s.width - length t) ≡ 0 = omega arith in
    rw (all, none, append-nil t) at (padded-text s t h low fits)

padding_before-le : (s : _) (n : ℕ) → padding_before s n 1 ≤ n
padding_before-le s n = grind (arith, nat_tests)

-- so that it has that width
pub length-padded : (s : _) (t : List ℕ) → IsText t → spec_fill s < 128 → length t ≤ s.precision → length t ≤ s.width → length (padded s t) ≡ s.width
length-padded s t h low fits short =
    let front = padding_before s (s.width - length t) 1 in
    let after = s.width - length t - front in
    rw (padded-text s t h low fits)
    (omega (arith, padding_before-le s (s.width - length t), length-append (replicate front s.fill) (t ++ replicate after s.fill), length-append t (replicate after s.fill), length-replicate {A = ℕ} front s.fill, length-replicate {A = ℕ} after s.fill))

-- ---- with no width and no precision

padding_before-none : (s : _) → padding_before s 0 1 ≡ 0
padding_before-none s = grind (arith, nat_tests)

padded-bare : (s : _) (t : List ℕ) → padding_before s 0 1 ≡ 0 → IsText t → s.width ≡ 0 → length t ≤ s.precision → padded s t ≡ t
unfolding padded
padded-bare s t none h bare fits =
    let short : s.width - length t ≡ 0 = omega arith in
    rw (take_chars-text s.precision t h, take_all s.precision t fits, char_count-text t h, short, none) (append-nil t)

if_true : {A : Type 0} (test : Bool) (x y : A) → (test ≡ true → x ≡ y) → cond test x y ≡ y
if_true true x y same = same refl
if_true false x y same = refl

-- a text is unchanged where a style names neither
pub styled-padded : (s : _) (t : List ℕ) → IsText t → length t ≤ 2 ^ 64 - 1 → styled_text s t ≡ padded s t
styled-padded s t h small = if_true (s.width == 0 && s.precision == 2 ^ 64 - 1) t (padded s t)
    (λ bare.
    let width : s.width ≡ 0 = grind (arith, nat_tests) in
    let precision : s.precision ≡ 2 ^ 64 - 1 = grind (arith, nat_tests) in
    sym (padded-bare s t (padding_before-none s) h width (omega arith)))
