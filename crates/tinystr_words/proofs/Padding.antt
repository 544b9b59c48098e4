-- Whether bytes are a text and then NULs.
use Rattle.std.proofs.Common.{ℕ, zero, suc, ◌+◌, ◌-◌, ◌*◌, ◌/◌, ◌%◌, ◌^◌, ◌<◌, ◌≤◌, ◌≡◌, Bool, true, ◌||◌, List, [], ◌∷◌, ◌++◌, length, replicate, map, refl, ap, ◌∙◌, subst, arith, bit_and, bit_or, nat_eq, nat_lt, lit<, inl, inr, cond, false, rules, get_or, ◌↔◌, ap₂, Fits, eqb, not, sym, w8, ◌&&◌, take, drop}
use Rattle.std.proofs.Math.Nat.{pow-suc}
use Rattle.std.proofs.lemmas.Bool.{cases_lt}
use Rattle.std.proofs.lemmas.Grind.{get_or_head, get_or_tail, same_number_lists}
use Rattle.std.proofs.lemmas.Bool.Decides.{nat_tests}
use Rattle.std.proofs.lemmas.List.{get_or_past, places, length-map, length-append, length-take, length-drop, get_or-take, get_or-drop, take_all}
use Rattle.std.proofs.Math.Seq.{take-append_seam}
use Rattle.std.proofs.lemmas.List.Elements.{All-cons, All-nil, All-take}
use Rattle.std.proofs.lemmas.Nat.{and_le_r, le_or_l, le_or_r}
use Rattle.std.proofs.lemmas.Simd.{Each1-replicate, get_or-chunk, length-chunk, length-sel_l, length-zip2, pick_l-range_with_len, tops_compared, Each1-from_get_or, Each1-get_or, get_or-zip2}
use Rattle.tinystr_words.specs.Text.{IsTextByte, IsPadded, text_of, IsPaddedText, pad}
use Rattle.tinystr_words.specs.Words.{word, first_then}
use Rattle.tinystr_words.proofs.Words.Lanes.{below_at, IsBytes, IsBytes-append, word-lt, and_step}
use Rattle.tinystr_words.proofs.Texts.{NULS, get_or-text_of, IsPaddedText-drop, IsPaddedText-places, IsPaddedText-take, IsPaddedText-whole, get_or-pad, length-pad}
use Rattle.tinystr_words.proofs.Pieces.Copying.{IsPadded-append, IsPadded-nuls}
use Rattle.tinystr_words.proofs.Words.Formulas.{same_from_nat_eq}
use Rattle.tinystr_words.proofs.Words.Numbers.{word-nuls}
use Rattle.std.proofs.Math.Facts.{Fits-lt-pow}
use Rattle.tinystr_words.specs.Private.{ArePaddedFrom}
use Rattle.std.specs.Int.Bits.{or_zero_r}
use Rattle.std.specs.List.{range_with_len}
use Rattle.std.specs.Simd.Lanes.{mask_l, pick_l, sel_l, top, zip2, chunk}
use Rattle.std.specs.Str.{bytes_eq}
use Rattle.tinystr_words.proofs.Vectors.{HasLanes, vectors_same}
use lib.Lanes.{Each1}
use Rattle.tinystr_words.specs.declared.padded.first_lanes.TheConstants.{KEPT_LANES}

-- ---- the test of a word of any bytes passes exactly where they are a text and then NULs

abbrev pub word_of_each : ℕ → ℕ → ℕ
word_of_each n c = word (first_then n c c)

-- the word with one byte in each lane is that of a list of it
word_of_each-replicate : (n c : ℕ) → word_of_each n c ≡ word (replicate n c)
word_of_each-replicate zero c = refl
word_of_each-replicate (suc n) c = refl

-- ---- the high bit of each lane that isn't NUL, apart from its own high bit

abbrev pub mark : ℕ → ℕ
mark b = bit_and (bit_and b 0x7f + 0x7f) 0x80

abbrev pub marks_of : ℕ → ℕ → ℕ
marks_of n w = bit_and (bit_and w (word_of_each n 0x7f) + word_of_each n 0x7f) (word_of_each n 0x80)

-- a word has no lane above 0x7f, and no mark is after a lane without one
abbrev pub is_padded_word : ℕ → ℕ → Bool
is_padded_word n w = nat_eq (bit_or (bit_and w (word_of_each n 0x80)) (bit_and (marks_of n w / 256) (256 ^ n - 1 - marks_of n w))) (word_of_each n 0)

abbrev pub fill : ℕ → ℕ → ℕ
fill n c = word (replicate n c)

-- a mark is a byte
mark-lt : (b : ℕ) → mark b < 256
mark-lt b = let e = and_le_r (bit_and b 0x7f + 0x7f) 0x80 in omega arith

-- the marks of a list are bytes
IsBytes-marks : (l : List ℕ) → IsBytes (map mark l)
IsBytes-marks [] = tt
IsBytes-marks (b ∷ l) = (mark-lt b, IsBytes-marks l)

-- the marks of a word are those of its bytes
marks_word : (l : List ℕ) → IsBytes l → bit_and (bit_and (word l) (fill (length l) 0x7f) + fill (length l) 0x7f) (fill (length l) 0x80) ≡ word (map mark l)
marks_word [] a = refl
marks_word (b ∷ l) a =
    let n = length l in
    let h : b < 256 = a.0 in
    let low = and_le_r b 0x7f in
    let one = and_step (word l) (fill n 0x7f) b 0x7f h (lit< tt) in
    let two : bit_and b 0x7f + 256 * bit_and (word l) (fill n 0x7f) + (0x7f + 256 * fill n 0x7f) ≡ bit_and b 0x7f + 0x7f + 256 * (bit_and (word l) (fill n 0x7f) + fill n 0x7f) = omega arith in
    let three = and_step (bit_and (word l) (fill n 0x7f) + fill n 0x7f) (fill n 0x80) (bit_and b 0x7f + 0x7f) 0x80 (omega arith) (lit< tt) in
    ap (λ m. bit_and (m + fill (suc n) 0x7f) (fill (suc n) 0x80)) one ∙ ap (λ m. bit_and m (fill (suc n) 0x80)) two ∙ three
    ∙ ap (λ m. mark b + 256 * m) (marks_word l a.1)

-- ---- the bytes, one after another

-- the mark of a byte is the high bit, unless the lower ones are clear
mark-is : (b : ℕ) → b < 256 → mark b ≡ cond (nat_eq b 0 || nat_eq b 0x80) 0 0x80
mark-is b l = same_from_nat_eq _ _ (below_at (λ b. nat_eq (mark b) (cond (nat_eq b 0 || nat_eq b 0x80) 0 0x80)) 256 refl b l)

-- the high bit of a byte is clear below 128
pub high_bit-is : (b : ℕ) → b < 256 → bit_and b 0x80 ≡ cond (nat_lt b 0x80) 0 0x80
high_bit-is b l = same_from_nat_eq _ _ (below_at (λ b. nat_eq (bit_and b 0x80) (cond (nat_lt b 0x80) 0 0x80)) 256 refl b l)

-- the lowest mark of a word
first_mark-is : (l : List ℕ) → word (map mark l) % 256 ≡ mark (get_or l 0 0)
first_mark-is [] = refl
first_mark-is (b ∷ l) = let k = mark-lt b in omega arith

-- of two marks, the one that is after a lane without one
bit_and-marks : (p q : Bool) → bit_and (cond p 0 0x80) (255 - cond q 0 0x80) ≡ cond q (cond p 0 0x80) 0
bit_and-marks true true = refl
bit_and-marks true false = refl
bit_and-marks false true = refl
bit_and-marks false false = refl

abbrev late_marks : List ℕ → ℕ
late_marks l = bit_and (word (map mark l) / 256) (256 ^ length l - 1 - word (map mark l))

-- the marks that are after a lane without one, by the first lane and the others
late_marks-cons : (b : ℕ) (l : List ℕ) → late_marks (b ∷ l) ≡ bit_and (word (map mark l) % 256) (255 - mark b) + 256 * late_marks l
late_marks-cons b l =
    let n = length l in
    let x = word (map mark l) in
    let k = mark-lt b in
    let small : x < 256 ^ n = subst (λ m. x < 256 ^ m) (length-map l mark) (word-lt (map mark l) (IsBytes-marks l)) in
    let rest : (mark b + 256 * x) / 256 ≡ x % 256 + 256 * (x / 256) = omega arith in
    let others : 256 ^ suc n - 1 - (mark b + 256 * x) ≡ 255 - mark b + 256 * (256 ^ n - 1 - x) = omega (arith, pow-suc 256 n) in
    let m : x % 256 < 256 = omega arith in
    let d : 255 - mark b < 256 = omega arith in
    rw (rest, others) (and_step (x / 256) (256 ^ n - 1 - x) (x % 256) (255 - mark b) m d)

-- no lane is above 0x7f, and no mark is after a lane without one
abbrev IsClean : List ℕ → Type 0
IsClean l = (bit_and (word l) (fill (length l) 0x80) ≡ 0) × (late_marks l ≡ 0)

-- the bytes of a padded text are below 128
IsPadded-lt : (l : List ℕ) (k : ℕ) → IsPadded l → get_or l k 0 < 128
IsPadded-lt l k p = let e = get_or-text_of l (length l) k p in grind (arith, p.text k 0, get_or_past (text_of l) k 0)

-- bytes are padded exactly if the first is below 128, none but NUL follows it where it is NUL, and the others are padded
pub IsPadded-cons : (b : ℕ) (l : List ℕ) → ((b < 128) × (IsPadded l × (b ≡ 0 → get_or l 0 0 ≡ 0))) ↔ IsPadded (b ∷ l)
IsPadded-cons b l = (
  λ h.
      let p = h.1.0 in
      let t = text_of l in
      let same : (k : ℕ) → get_or l k 0 ≡ get_or t k 0 = λ k. get_or-text_of l (length l) k p in
      elim (cases_lt 0 b) [
        | inl char ↦ (IsPaddedText-places (b ∷ l) (b ∷ t) (length (b ∷ l)) refl (All-cons IsTextByte b t (char, h.0) p.text) (λ k below.
            grind (arith, get_or_head b l k 0, get_or_tail b l k 0, get_or_head b t k 0, get_or_tail b t k 0, same (k - 1)))).0
        | inr nul ↦ (IsPaddedText-places (b ∷ l) [] (length (b ∷ l)) refl (All-nil IsTextByte) (λ k below.
            let none : length t ≡ 0 = grind (arith, p.text 0 0, same 0, h.1.1) in
            grind (arith, get_or_head b l k 0, get_or_tail b l k 0, same (k - 1), get_or_past t (k - 1) 0))).0
      ],
  λ p.
      let t = text_of (b ∷ l) in
      let here : b ≡ get_or t 0 0 = get_or-text_of (b ∷ l) (length (b ∷ l)) 0 p in
      let next : get_or l 0 0 ≡ get_or t 1 0 = get_or-text_of (b ∷ l) (length (b ∷ l)) 1 p in
      (IsPadded-lt (b ∷ l) 0 p, (IsPaddedText-drop (b ∷ l) (length (b ∷ l)) 1 p, λ nul. grind (arith, p.text 0 0, get_or_past t 1 0))),
)

-- clean bytes are a text and then NULs, and the other way round
IsPadded-IsClean : (l : List ℕ) → IsBytes l → IsClean l ↔ IsPadded l
IsPadded-IsClean [] a = (λ c. IsPaddedText-whole [] (All-nil IsTextByte), λ p. (refl, refl))
IsPadded-IsClean (b ∷ l) a =
    let d = get_or l 0 0 in
    let e = and_step (word l) (fill (length l) 0x80) b 0x80 a.0 (lit< tt) in
    let f = late_marks-cons b l in
    let high = high_bit-is b a.0 in
    let rest = IsPadded-IsClean l a.1 in
    let first : d < 256 → bit_and (word (map mark l) % 256) (255 - mark b) ≡ cond (nat_eq b 0 || nat_eq b 0x80) (cond (nat_eq d 0 || nat_eq d 0x80) 0 0x80) 0 =
    λ less. rw (first_mark-is l, mark-is d less, mark-is b a.0) (bit_and-marks (nat_eq d 0 || nat_eq d 0x80) (nat_eq b 0 || nat_eq b 0x80)) in (
      λ c.
          let low : bit_and b 0x80 ≡ 0 = omega (arith, c.0) in
          let follows : bit_and (word (map mark l) % 256) (255 - mark b) ≡ 0 = omega (arith, c.1) in
          let padded = rest.0 (omega (arith, c.0), omega (arith, c.1)) in
          let less = IsPadded-lt l 0 padded in
          let is = first (omega arith) in
          (IsPadded-cons b l).0 (grind (arith, nat_tests), (padded, λ nul. grind (arith, nat_tests))),
      λ p.
          let parts = (IsPadded-cons b l).1 p in
          let clean = rest.1 parts.1.0 in
          let small = parts.0 in
          let less = IsPadded-lt l 0 parts.1.0 in
          let is = first (omega arith) in
          let low : bit_and b 0x80 ≡ 0 = grind (arith, nat_tests) in
          let follows : bit_and (word (map mark l) % 256) (255 - mark b) ≡ 0 = grind (arith, nat_tests, parts.1.1) in
          (omega (arith, clean.0), omega (arith, clean.1)),
    )

-- ---- the test

-- the test of a word of that number of bytes
is_padded_word-whole : (l : List ℕ) → IsBytes l → (is_padded_word (length l) (word l) ≡ true → IsPadded l) × (IsPadded l → is_padded_word (length l) (word l) ≡ true)
is_padded_word-whole l a =
    let n = length l in
    let marks : marks_of n (word l) ≡ word (map mark l) = rw (word_of_each-replicate n 0x7f, word_of_each-replicate n 0x80) (marks_word l a) in
    let none : word_of_each n 0 ≡ 0 = word_of_each-replicate n 0 ∙ word-nuls [] n in
    let clean = IsPadded-IsClean l a in
    rw (marks, none, word_of_each-replicate n 0x80) (
      λ h. (let p = le_or_l (bit_and (word l) (fill n 0x80)) (late_marks l) in
          let q = le_or_r (bit_and (word l) (fill n 0x80)) (late_marks l) in
          let z : bit_or (bit_and (word l) (fill n 0x80)) (late_marks l) ≡ 0 = grind (arith, nat_tests) in
          clean.0 (omega arith, omega arith)),
      λ p. (let c = clean.1 p in rw (c.0, c.1) refl),
    )

-- a word is that of a text and then NULs exactly if the test finds so
pub is_padded_word-Decides : (n : ℕ) (l : List ℕ) → IsBytes l → length l ≤ n
    → (is_padded_word n (word l) ≡ true → IsPadded l) × (IsPadded l → is_padded_word n (word l) ≡ true)
is_padded_word-Decides n l a fits =
    let m = n - length l in
    let long : length (l ++ NULS m) ≡ n = search (rules, places) in
    let test = rw (long, word-nuls l m) at (is_padded_word-whole (l ++ NULS m) (IsBytes-append l (NULS m) a (Each1-replicate (λ b. b < 256) m 0 (lit< tt)))) in
    let nuls = IsPadded-nuls m in (
      λ h. rw take-append_seam at (IsPaddedText-take (l ++ NULS m) n (length l) (test.0 h)),
      λ p. test.1 (rw long at (IsPadded-append l (NULS m) p nuls.0 (λ short. nuls.1)).0),
    )

-- ---- bytes are a text and then NULs where each is below 128 and another NUL follows each NUL

IsPadded-from_places : (l : List ℕ) → ArePaddedFrom l 0 (length l) → IsPadded l
IsPadded-from_places [] h = IsPaddedText-whole [] (All-nil IsTextByte)
IsPadded-from_places (b ∷ l) h =
    let first = h 0 (omega arith) (omega arith) in
    (IsPadded-cons b l).0 (first.0, (IsPadded-from_places l (λ k _ inside. h (suc k) (omega arith) (omega arith)), first.1))

pub padded_at : (l : List ℕ) (k : ℕ) → IsPadded l → (get_or l k 0 < 128) × (get_or l k 0 ≡ 0 → get_or l (suc k) 0 ≡ 0)
padded_at [] k p = (omega arith, λ _. refl)
padded_at (b ∷ l) zero p = let parts = (IsPadded-cons b l).1 p in (parts.0, parts.1.1)
padded_at (b ∷ l) (suc k) p = let parts = (IsPadded-cons b l).1 p in padded_at l k parts.1.0

pub ArePaddedFrom-padded : (bytes : List ℕ) (start count : ℕ) → IsPadded bytes → ArePaddedFrom bytes start count
ArePaddedFrom-padded bytes start count p = λ k _ _. padded_at bytes k p

-- sixteen more
pub ArePaddedFrom-more : (bytes : List ℕ) (start : ℕ) → ArePaddedFrom bytes 0 start → ArePaddedFrom bytes start 16 → ArePaddedFrom bytes 0 (start + 16)
ArePaddedFrom-more bytes start before more = λ k _ inside. elim (cases_lt k start) [
  | inl below ↦ before k (omega arith) (omega arith)
  | inr from ↦ more k (omega arith) (omega arith)
]

-- all of them
pub IsPadded-whole : (bytes : List ℕ) (count : ℕ) → ArePaddedFrom bytes 0 count → length bytes ≤ count → IsPadded bytes
IsPadded-whole bytes count all most = IsPadded-from_places bytes (λ k from inside. all k from (omega arith))

-- ---- sixteen of them in vectors, each with the byte after it

abbrev is_fine : ℕ → ℕ → Bool
is_fine x y = nat_lt x 128 && (not (nat_eq x 0) || nat_eq y 0)

abbrev are_fine : List ℕ → List ℕ → Bool
are_fine [] ys = true
are_fine (x ∷ xs) [] = true
are_fine (x ∷ xs) (y ∷ ys) = is_fine x y && are_fine xs ys

lane : (x y : ℕ) → x < 256 → nat_eq (bit_or (cond (eqb x 0) y 0) (bit_and x 128)) 0 ≡ is_fine x y
lane zero y small = ap (λ z. nat_eq z 0) (or_zero_r y)
lane (suc x) y small =
    let other : eqb (suc x) 0 ≡ false = grind (arith, nat_tests) in
    rw (other, high_bit-is (suc x) small) (elim (cases_lt (suc x) 128) [
      | inl low ↦ grind (arith, nat_tests)
      | inr high ↦ grind (arith, nat_tests)
    ])

late_lanes : (xs ys : List ℕ) (n : ℕ) → IsBytes xs → length xs ≡ n → length ys ≡ n
    → bytes_eq (zip2 bit_or (sel_l (zip2 eqb xs (replicate n 0)) ys (replicate n 0)) (zip2 bit_and xs (replicate n 128))) (replicate n 0) ≡ are_fine xs ys
late_lanes [] [] zero a e f = refl
late_lanes [] ys (suc n) a e f = absurd (omega arith)
late_lanes [] (y ∷ ys) zero a e f = absurd (omega arith)
late_lanes (x ∷ xs) ys zero a e f = absurd (omega arith)
late_lanes (x ∷ xs) [] (suc n) a e f = absurd (omega arith)
late_lanes (x ∷ xs) (y ∷ ys) (suc n) a e f = ap₂ (λ p q. p && q) (lane x y a.0) (late_lanes xs ys n a.1 (omega arith) (omega arith))

are_fine-at : (xs ys : List ℕ) (k : ℕ) → length xs ≡ length ys → are_fine xs ys ≡ true → k < length xs
    → (get_or xs k 0 < 128) × (get_or xs k 0 ≡ 0 → get_or ys k 0 ≡ 0)
are_fine-at [] ys k e t inside = absurd (omega arith)
are_fine-at (x ∷ xs) [] k e t inside = absurd (omega arith)
are_fine-at (x ∷ xs) (y ∷ ys) zero e t inside = (grind (arith, nat_tests), λ nul. grind (arith, nat_tests))
are_fine-at (x ∷ xs) (y ∷ ys) (suc k) e t inside =
    let others : are_fine xs ys ≡ true = grind (arith, nat_tests) in
    are_fine-at xs ys k (omega arith) others (omega arith)

are_fine-from : (xs ys : List ℕ) → length xs ≡ length ys
    → ((k : ℕ) → k < length xs → (get_or xs k 0 < 128) × (get_or xs k 0 ≡ 0 → get_or ys k 0 ≡ 0)) → are_fine xs ys ≡ true
are_fine-from [] ys e h = refl
are_fine-from (x ∷ xs) [] e h = refl
are_fine-from (x ∷ xs) (y ∷ ys) e h =
    let others : are_fine xs ys ≡ true = are_fine-from xs ys (omega arith) (λ k inside. h (suc k) (omega arith)) in
    let first = h 0 (omega arith) in
    let low : x < 128 = first.0 in
    let next : x ≡ 0 → y ≡ 0 = first.1 in
    grind (arith, nat_tests, next)

pub sixteen_fine : (xs ys : List ℕ) → IsBytes xs → length xs ≡ 16 → length ys ≡ 16
    → eqb (mask_l (map (top 7) (zip2 (λ a b. cond (not (eqb a b)) 255 0)
    (zip2 bit_or (sel_l (map (top 7) (zip2 (λ a b. cond (eqb a b) 255 0) xs (replicate 16 0))) ys (replicate 16 0)) (zip2 bit_and xs (replicate 16 128)))
    (replicate 16 0))) % 2 ^ 64) 0 ≡ are_fine xs ys
sixteen_fine xs ys a e f =
    let tests = zip2 eqb xs (replicate 16 0) in
    let high = zip2 bit_and xs (replicate 16 128) in
    let late = sel_l tests ys (replicate 16 0) in
    let tests_long : length tests ≡ 16 = length-zip2 eqb xs (replicate 16 0) e ∙ e in
    let high_long : length high ≡ 16 = length-zip2 bit_and xs (replicate 16 128) e ∙ e in
    let late_long : length late ≡ 16 = length-sel_l tests ys (replicate 16 0) (tests_long ∙ sym f) tests_long ∙ tests_long in
    let long : length (zip2 bit_or late high) ≡ 16 = length-zip2 bit_or late high (late_long ∙ sym high_long) ∙ late_long in
    ap (λ ms. eqb (mask_l (map (top 7) (zip2 (λ a b. cond (not (eqb a b)) 255 0) (zip2 bit_or (sel_l ms ys (replicate 16 0)) high) (replicate 16 0))) % 2 ^ 64) 0)
    (tops_compared w8 eqb xs (replicate 16 0))
    ∙ vectors_same (zip2 bit_or late high) (replicate 16 0) long (omega (arith, long))
    ∙ late_lanes xs ys 16 a e f

-- the bytes after those of a vector, of which the last is in the next vector
pub HasLanes-next : (xs ys bytes : List ℕ) (start : ℕ) → HasLanes xs bytes start → HasLanes ys bytes (start + 16) → HasLanes (pick_l 0 (xs ++ ys) (range_with_len 1 16)) bytes (start + 1)
HasLanes-next xs ys bytes start x y =
    let long : 1 + 16 ≤ length (xs ++ ys) = omega (arith, length-append xs ys, x.0, y.0) in
    subst (λ l. HasLanes l bytes (start + 1)) (sym (pick_l-range_with_len 0 (xs ++ ys) 1 16 long)) (
      length-chunk 1 16 (xs ++ ys) long,
      λ k less. get_or-chunk 1 16 (xs ++ ys) k 0 less ∙ grind (arith, places, x.0, x.1 (1 + k), y.1 0),
    )

-- the lanes of bytes are bytes
pub IsBytes-HasLanes : (xs bytes : List ℕ) (start : ℕ) → HasLanes xs bytes start → ((k : ℕ) → Fits w8 (get_or bytes k 0)) → IsBytes xs
IsBytes-HasLanes xs bytes start x fits = Each1-from_get_or (λ b. b < 256) xs 0 (λ k inside. rw (x.1 k (omega (arith, x.0))) (Fits-lt-pow (fits (start + k))))

-- the test of sixteen bytes, each with the byte after it
pub ArePaddedFrom-tested : (bytes xs ys : List ℕ) (start : ℕ) (passed : Bool) → HasLanes xs bytes start → HasLanes ys bytes (start + 1)
    → passed ≡ are_fine xs ys → (passed ≡ true) ↔ ArePaddedFrom bytes start 16
ArePaddedFrom-tested bytes xs ys start passed x y is = (
  λ t k from below.
      let j = k - start in
      let here : start + j ≡ k = omega arith in
      let next : start + 1 + j ≡ suc k = omega arith in
      let fine = are_fine-at xs ys j (x.0 ∙ sym y.0) (sym is ∙ t) (omega (arith, x.0)) in
      let given : get_or xs j 0 ≡ get_or bytes k 0 = x.1 j (omega arith) ∙ ap (λ i. get_or bytes i 0) here in
      let after : get_or ys j 0 ≡ get_or bytes (suc k) 0 = y.1 j (omega arith) ∙ ap (λ i. get_or bytes i 0) next in
      (omega (arith, fine.0), λ nul. sym after ∙ fine.1 (given ∙ nul)),
  λ h. is ∙ are_fine-from xs ys (x.0 ∙ sym y.0) (λ k less.
      let small : k < 16 = omega (arith, x.0) in
      let at = h (start + k) (omega arith) (omega arith) in
      let given = x.1 k small in
      let after : get_or ys k 0 ≡ get_or bytes (suc (start + k)) 0 = y.1 k small ∙ ap (λ i. get_or bytes i 0) (omega arith) in
      (omega (arith, at.0), λ nul. after ∙ at.1 (sym given ∙ nul))),
)

pub ruleset padding = (ArePaddedFrom-padded, ArePaddedFrom-more, IsPadded-whole)

-- ---- the first lanes of a vector, and then NULs

KEPT_LANES-at : (k : ℕ) → k < 32 → get_or KEPT_LANES k 0 ≡ cond (nat_lt k 16) 255 0
KEPT_LANES-at k inside = let e = below_at (λ k. nat_eq (get_or KEPT_LANES k 0) (cond (nat_lt k 16) 255 0)) 32 refl k inside in grind (arith, nat_tests)

-- n lanes of the table, as they are loaded
abbrev pub kept_lanes : ℕ → ℕ → List ℕ
kept_lanes n start = chunk 0 n (take (32 - start) (drop start KEPT_LANES))

length-kept_lanes : (n start : ℕ) → n ≤ 16 → start ≤ 16 → length (kept_lanes n start) ≡ n
length-kept_lanes n start few inside = omega (arith, length-take {A = ℕ}, length-drop {A = ℕ})

get_or-kept_lanes : (n start i : ℕ) → n ≤ 16 → start ≤ 16 → i < n → get_or (kept_lanes n start) i 0 ≡ cond (nat_lt (start + i) 16) 255 0
get_or-kept_lanes n start i few inside small =
    get_or-take n (take (32 - start) (drop start KEPT_LANES)) i 0 small ∙ get_or-take (32 - start) (drop start KEPT_LANES) i 0 (omega arith) ∙ get_or-drop start KEPT_LANES i 0
    ∙ KEPT_LANES-at (start + i) (omega arith)

-- a byte with all bits kept, and with none
byte_kept : (r : ℕ) → r < 256 → (kept : Bool) → bit_and r (cond kept 255 0) ≡ cond kept r 0
byte_kept r small true = let e = below_at (λ r. nat_eq (bit_and r 255) r) 256 refl r small in grind (arith, nat_tests)
byte_kept r small false = let e = below_at (λ r. nat_eq (bit_and r 0) 0) 256 refl r small in grind (arith, nat_tests)

-- a lane before a place, and 0 from it on
kept_at : (lanes : List ℕ) (n count i : ℕ) → count ≤ 16 → cond (nat_lt (16 - count + i) 16) (get_or lanes i 0) 0 ≡ get_or (pad (take count lanes) n) i 0
kept_at lanes n count i few = rw get_or-pad (grind (arith, nat_tests, places))

-- lanes whose later ones were cleared
pub lanes_kept : (n : ℕ) (lanes : List ℕ) (count : ℕ) → n ≤ 16 → length lanes ≡ n → Each1 (Fits w8) lanes → count ≤ n → zip2 bit_and lanes (kept_lanes n (16 - count)) ≡ pad (take count lanes) n
lanes_kept n lanes count few long small some =
    let kept = length-kept_lanes n (16 - count) few (omega arith) in
    let all = length-zip2 bit_and lanes (kept_lanes n (16 - count)) (long ∙ sym kept) ∙ long in
    same_number_lists _ _ (all ∙ sym (length-pad (take count lanes) n (omega (arith, length-take count lanes)))) (λ i inside.
    get_or-zip2 bit_and lanes (kept_lanes n (16 - count)) i 0 0 0 (omega arith) (omega arith)
    ∙ ap (bit_and (get_or lanes i 0)) (get_or-kept_lanes n (16 - count) i few (omega arith) (omega arith))
    ∙ byte_kept (get_or lanes i 0) (Each1-get_or (Fits w8) lanes i 0 (omega arith) small).fits (nat_lt (16 - count + i) 16)
    ∙ kept_at lanes n count i (omega arith))

-- the lanes of a text up to a place are a front of the text
pub IsPadded-first_lanes : (bytes lanes : List ℕ) (n count : ℕ) → IsPaddedText bytes n → count ≤ n → lanes ≡ pad (take count bytes) n → IsPadded lanes × (text_of lanes ≡ take count (text_of bytes))
IsPadded-first_lanes bytes lanes n count padded some is =
    let t = text_of bytes in
    let size : length (pad (take count bytes) n) ≡ n = length-pad (take count bytes) n (omega (arith, length-take count bytes)) in
    let made = IsPaddedText-places (pad (take count bytes) n) (take count t) n size (All-take IsTextByte count t padded.text)
    (λ i near. rw get_or-pad (grind (arith, places, get_or-text_of bytes n i padded))) in
    rw is (rw size made.0, made.1 ∙ take_all n (take count t) (omega (arith, length-take count t)))
