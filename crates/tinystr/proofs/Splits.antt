-- The parts of a padded text, found and taken in vectors of sixteen bytes.
use Rattle.std.proofs.Common.{◌≡◌, ◌+◌, ◌*◌, ◌%◌, ◌-◌, ◌<◌, ◌≤◌, ℕ, suc, inl, inr, Bool, true, false, not, Some, None, List, [], ◌∷◌, length, map, replicate, take, drop, get_or, cond, eqb, ap, sym, ◌∙◌, w8, arith, refl, take_all, rules, append_assoc}
use lib.Lanes.{zip2, mask_l, top}
use lib.Count.{count_trailing_zeros}
use Rattle.std.specs.List.{join_with_byte, Contains, after_first, before_first, position, position_or_len, slice_split}
use Rattle.std.proofs.lemmas.Bool.{cases_lt}
use Rattle.std.proofs.lemmas.Bool.Decides.{nat_tests}
use Rattle.std.proofs.lemmas.List.{length-append, length-drop, length-map, length-take, take-take, get_or_default, places, take_rest}
use Rattle.std.proofs.lemmas.List.Elements.{All-cons, All-nil}
use Rattle.std.proofs.lemmas.List.Quantifiers.{position-Some}
use Rattle.std.proofs.lemmas.Simd.{bitmask_splat, first_set_mask_l}
use Rattle.std.proofs.lemmas.List.Sums.{fails_before_first, passes_at_first, position_or_len_is}
use Rattle.tinystr_words.specs.Text.{IsTextByte, IsPadded, IsPaddedText, IsText, pad, text_of}
use Rattle.tinystr_words.proofs.Padding.{IsPadded-first_lanes}
use Rattle.tinystr_words.proofs.Parts.Splits.{joined-more, length-joined_more, slice_split-found, slice_split-missed}
use Rattle.tinystr_words.proofs.Parts.Found.{position-none_after, position-front, position-None, position-None-fails, position-at}
use Rattle.tinystr_words.proofs.Texts.{text_of-pad, IsPaddedText-made, IsPaddedText-drop, IsPaddedText-take, get_or-text_of, length-pad, length-text_of-le, text_of-drop, text_of-made, text_of-take}

-- ---- a byte of a padded text

-- no byte of a text is NUL
pub position-nul : (t : List ℕ) → IsText t → position (λ b. eqb b 0) t ≡ None
position-nul t h = position-None (λ b. eqb b 0) t (λ k inside. let p = h k 0 inside in grind (arith, nat_tests))

-- what isn't in padded bytes isn't in their text
pub position-none_text : (p : ℕ → Bool) (l : List ℕ) → IsPadded l → position p l ≡ None → position p (text_of l) ≡ None
position-none_text p l q none =
    position-None p (text_of l) (λ k inside. rw (get_or-text_of l (length l) k q) at (position-None-fails p l none k (omega (arith, length-text_of-le l))))

-- another byte is in no padding
pub position-text_of : (l : List ℕ) (byte : ℕ) → IsPadded l → 0 < byte → position (λ b. eqb b byte) l ≡ position (λ b. eqb b byte) (text_of l)
position-text_of l byte q some =
    let p : ℕ → Bool = λ b. eqb b byte in
    let t = text_of l in
    let i = position_or_len p t in
    let le = length-text_of-le l in
    elim (cases_lt i (length t)) [
      | inl inside ↦
          position-at p l i (omega arith)
          (λ k below. rw (get_or-text_of l (length l) k q) (fails_before_first p t k 0 below))
          (rw (get_or-text_of l (length l) i q) (passes_at_first p t 0 inside)) ∙ grind (arith, nat_tests)
      | inr outside ↦
          position-None p l (λ k inside. rw (get_or-text_of l (length l) k q) (elim (cases_lt k (length t)) [
            | inl near ↦ fails_before_first p t k 0 (omega arith)
            | inr far ↦ grind (arith, nat_tests, places)
          ])) ∙ grind (arith, nat_tests)
    ]

-- ---- sixteen in one vector

-- the marks of the lanes that are the byte
abbrev pub marks : List ℕ → ℕ → ℕ
marks lanes byte = mask_l (map (top 7) (zip2 (λ a b. cond (eqb a b) 255 0) lanes (replicate 16 byte))) % 18446744073709551616

-- where a lane is marked, the first that passes is one of them
position_or_len-lt : (p : ℕ → Bool) (xs : List ℕ) → 0 < mask_l (map p xs) → position_or_len p xs < length xs
position_or_len-lt p [] some = absurd (omega arith)
position_or_len-lt p (x ∷ xs) some = mark (p x) (mask_l (map p xs)) (position_or_len p xs) (length xs) some (position_or_len-lt p xs) where
  mark : (b : Bool) (n m l : ℕ) → 0 < cond b 1 0 + 2 * n → (0 < n → m < l) → cond (not b) (1 + m) 0 < suc l
  mark true n m l some f = omega arith
  mark false n m l some f = omega (arith, f (omega arith))

-- the lowest mark is at the first place of the byte
pub position-marks : (lanes : List ℕ) (byte : ℕ) → length lanes ≡ 16
    → (marks lanes byte ≡ 0 → position (λ b. eqb b byte) lanes ≡ None) × (0 < marks lanes byte → position (λ b. eqb b byte) lanes ≡ Some (count_trailing_zeros 64 (marks lanes byte)))
position-marks lanes byte long =
    let p : ℕ → Bool = λ b. eqb b byte in
    let is : marks lanes byte ≡ mask_l (map p lanes) = bitmask_splat w8 eqb lanes 16 byte long (omega arith) in
    let first = first_set_mask_l p lanes 16 long (omega arith) in
    rw is ((λ none. grind (arith, nat_tests, first, none)), (λ some. let inside = position_or_len-lt p lanes some in grind (arith, nat_tests, first)))

-- ---- the first sixteen bytes

-- of sixteen or more
pub IsPadded-first_sixteen : (l r : List ℕ) → IsPadded l → 16 ≤ length l → r ≡ take 16 l → (length r ≡ 16) × (IsPadded r) × (text_of r ≡ take 16 (text_of l))
IsPadded-first_sixteen l r q many is = rw is (search (rules, places), IsPaddedText-take l (length l) 16 q, text_of-take l (length l) 16 q)

-- and of fewer, and then NULs
pub IsPadded-fewer : (l r : List ℕ) → IsPadded l → length l ≤ 16 → r ≡ pad (text_of l) 16 → (length r ≡ 16) × (IsPadded r) × (text_of r ≡ take 16 (text_of l))
IsPadded-fewer l r q few is =
    let fits : length (text_of l) ≤ 16 = omega (arith, length-text_of-le l) in
    let size : length r ≡ 16 = ap length is ∙ length-pad (text_of l) 16 fits in (
      size,
      rw size (IsPaddedText-made r (text_of l) 16 is (record { text = q.text; fits = fits })),
      text_of-made r (text_of l) 16 is q.text ∙ sym (take_all 16 (text_of l) fits),
    )

-- a byte that is found is inside
pub position-inside : (p : ℕ → Bool) (t : List ℕ) (i : ℕ) → Some i ≡ position p t → i < length t
position-inside p t i at = (position-Some p t i 0 (sym at)).0

-- ---- the text from a place on

-- where a byte is NUL the text has ended
pub length-text_of-nul : (l : List ℕ) (w n : ℕ) → IsPaddedText l w → get_or l n 0 ≡ 0 → length (text_of l) ≤ n
length-text_of-nul l w n q nul = elim (cases_lt n (length (text_of l))) [
  | inl inside ↦ (let some = q.text n 0 inside in absurd (omega (arith, get_or-text_of l w n q)))
  | inr outside ↦ outside
]

pub IsPadded-rest : (l : List ℕ) (k : ℕ) → IsPadded l → IsPadded (take (length l - k) (drop k l))
IsPadded-rest l k q = rw take_rest (IsPaddedText-drop l (length l) k q)

pub text_of-rest : (l : List ℕ) (k : ℕ) → IsPadded l → text_of (take (length l - k) (drop k l)) ≡ drop k (text_of l)
text_of-rest l k q = rw take_rest (text_of-drop l (length l) k q)

pub IsPadded-front : (l : List ℕ) (k : ℕ) → IsPadded l → IsPadded (take k l)
IsPadded-front l k q = IsPaddedText-take l (length l) k q

pub text_of-front : (l : List ℕ) (k : ℕ) → IsPadded l → text_of (take k l) ≡ take k (text_of l)
text_of-front l k q = text_of-take l (length l) k q

pub ruleset parts_of_padded = (length-drop, length-take, take_rest, IsPadded-front, text_of-front, IsPadded-rest, text_of-rest)

pub ruleset first_part = (length-take, length-text_of-le, position-front, position-inside, slice_split-found, slice_split-missed, take_all, take-take)

pub ruleset whole = (length-map, take_all)

pub ruleset found_past = position-none_after

-- ---- the first part

-- all of a text without one
pub slice_split-whole : (p : ℕ → Bool) (t part : List ℕ) → position p t ≡ None → part ≡ t → slice_split p t ≡ part ∷ []
slice_split-whole p t part none is = rw is (slice_split-missed p t none)

-- the text before the first such byte, and after it
pub split_once-found : (c : ℕ) (t before after : List ℕ) (i : ℕ) → position (λ b. eqb b c) t ≡ Some i → before ≡ take i t → after ≡ drop (i + 1) t
    → Contains t c × (◌≡◌ {A = List ℕ × List ℕ} (before, after) (before_first (λ b. eqb b c) t, after_first (λ b. eqb b c) t))
split_once-found c t before after i at front back =
    let is = position-Some (λ b. eqb b c) t i c at in
    let first : position_or_len (λ b. eqb b c) t ≡ i = position_or_len_is (λ b. eqb b c) t i c (omega (arith, is.0)) is.2 (λ _. is.1) in
    let here : get_or t i c ≡ c = grind (arith, nat_tests, is.1) in
    ((i, is.0, here), rw (front, back, first) refl)

-- where none is the byte, the text doesn't have it
pub split_once-missed : (c : ℕ) (t : List ℕ) → position (λ b. eqb b c) t ≡ None → ¬ Contains t c
split_once-missed c t none found =
    let other : eqb (get_or t found.0 0) c ≡ false = position-None-fails (λ b. eqb b c) t none found.0 found.1 in
    let here : get_or t found.0 0 ≡ c = get_or_default t found.0 0 c found.1 ∙ found.2 in
    absurd (grind (arith, nat_tests))

-- ---- texts in lanes

pub ruleset sixteen = (IsPadded-fewer, IsPadded-first_sixteen)

-- the first of sixteen lanes
pub first_lanes : (lanes made : List ℕ) (count n : ℕ) → made ≡ pad (take count lanes) 16 → length (text_of lanes) ≤ n → length lanes ≡ 16 → IsPadded lanes → count ≤ 16
    → (made ≡ pad (take count lanes) 16) × IsPadded made × (length (text_of made) ≤ n) × (text_of made ≡ take count (text_of lanes))
first_lanes lanes made count n is fits len h some =
    let front = IsPadded-first_lanes lanes made 16 count (rw len at h) some is in
    (is, front.0, rw front.1 (omega (arith, length-take count (text_of lanes))), front.1)

-- ---- joined texts

-- one byte is its own text
pub text_of_byte : (b : ℕ) → IsTextByte b → text_of (b ∷ []) ≡ b ∷ []
text_of_byte b h = text_of-pad (b ∷ []) 1 (All-cons IsTextByte b [] h (All-nil IsTextByte))

-- one more text
pub joined_longer : (c : ℕ) (t : List ℕ) (ts : List (List ℕ)) (i : ℕ) → i < length ts → length (join_with_byte c (t ∷ take i ts)) + 1 + length (get_or ts i []) ≤ length (join_with_byte c (t ∷ ts))
joined_longer c t ts i inside = length-joined_more c t ts i [] inside

pub ruleset joined_bytes = (length-append, append_assoc, text_of_byte, joined_longer, joined-more)
