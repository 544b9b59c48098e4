-- Parts of texts: cut at a place, split at a byte, and joined by one.
use Rattle.std.proofs.Common.{◌≡◌, ◌≢◌, ℕ, zero, suc, ◌+◌, ◌<◌, ◌≤◌, ◌==◌, Bool, true, false, cond, Some, None, inl, inr, List, [], ◌∷◌, ◌++◌, length, get_or, take, drop, map, refl, sym, ap, ◌∙◌, arith, add-one, append_assoc, rules, min}
use Rattle.std.specs.List.{All, before_first, after_first, join_with_byte, list_all, onto_first, position, position_or_len, slice_split, sum_by}
use Rattle.std.proofs.lemmas.Bool.{cases_lt}
use Rattle.std.proofs.lemmas.Bool.Decides.{nat_tests}
use Rattle.std.proofs.lemmas.List.{length-append, length-drop, length-take, map-append, places, same_lists, take-map, take-take}
use Rattle.std.proofs.lemmas.List.Folds.{list_all-append}
use Rattle.std.proofs.lemmas.List.Sums.{count_by-le-length, fails_before_first, sum_by-cons, sum_by_more_le}
use Rattle.std.proofs.lemmas.List.Elements.{All-append, All-cons, All-drop, All-head, All-nil, All-tail, All-take, All-weaker}
use Rattle.std.proofs.lemmas.List.Splits.{length-slice_split, slice_split_at, slice_split_first, slice_split_none}
use Rattle.tinystr_words.specs.Classes.{ask}
use Rattle.tinystr_words.specs.Text.{IsStrictText, IsText, IsTextByte, IsPaddedText, text_of}
use Rattle.tinystr_words.proofs.Reading.Records.{AllStrict}
use Rattle.tinystr_words.proofs.Pieces.Answers.{ask-same}
use Rattle.tinystr_words.proofs.Texts.{padded_front, text_of-take}
use Rattle.tinystr_words.specs.Case.{lower, raise, lowercase, titlecase, uppercase}

-- ---- cut at a place

-- the front of a strict text is one
pub IsStrictText-take : (m : ℕ) (t : List ℕ) (n : ℕ) → IsStrictText t n → IsStrictText (take m t) n
IsStrictText-take m t n h = record { text = All-take IsTextByte m t h.text; fits = omega (arith, length-take m t, h.fits) }

-- and so is its back
pub IsStrictText-drop : (m : ℕ) (t : List ℕ) (n : ℕ) → IsStrictText t n → IsStrictText (drop m t) n
IsStrictText-drop m t n h = record { text = All-drop IsTextByte m t h.text; fits = omega (arith, length-drop m t, h.fits) }

-- the part before the first byte of a kind, and the part after it
pub IsStrictText-before_first : (p : ℕ → Bool) (t : List ℕ) (n : ℕ) → IsStrictText t n → IsStrictText (before_first p t) n
IsStrictText-before_first p t n h = IsStrictText-take (position_or_len p t) t n h

pub IsStrictText-after_first : (p : ℕ → Bool) (t : List ℕ) (n : ℕ) → IsStrictText t n → IsStrictText (after_first p t) n
IsStrictText-after_first p t n h = IsStrictText-drop (position_or_len p t + 1) t n h

-- ---- split

AllStrict-weaker : (n m : ℕ) (ts : List (List ℕ)) → n ≤ m → AllStrict n ts → AllStrict m ts
AllStrict-weaker n m ts le h =
    All-weaker (λ t. IsStrictText t n) (λ t. IsStrictText t m) (λ t k. record { text = k.text; fits = omega (arith, k.fits) }) ts h

AllStrict-either : (n : ℕ) (yes : Bool) (ts ss : List (List ℕ)) → AllStrict n ts → AllStrict n ss → AllStrict n (cond yes ts ss)
AllStrict-either n true ts ss h k = h
AllStrict-either n false ts ss h k = k

-- one more byte before the first part
AllStrict-onto_first : (b n : ℕ) (parts : List (List ℕ)) → IsTextByte b → AllStrict n parts → AllStrict (suc n) (onto_first b parts)
AllStrict-onto_first b n [] here h =
    All-cons (λ t. IsStrictText t (suc n)) (b ∷ []) [] (record { text = All-cons IsTextByte b [] here (All-nil IsTextByte); fits = omega arith }) (All-nil (λ t. IsStrictText t (suc n)))
AllStrict-onto_first b n (part ∷ parts) here h =
    let first = All-head (λ t. IsStrictText t n) part parts h in
    All-cons (λ t. IsStrictText t (suc n)) (b ∷ part) parts
    (record { text = All-cons IsTextByte b part here first.text; fits = omega (arith, first.fits) })
    (AllStrict-weaker n (suc n) parts (omega arith) (All-tail (λ t. IsStrictText t n) part parts h))

-- no part is longer than the text
pub texts_of_parts : (p : ℕ → Bool) (t : List ℕ) → IsText t → AllStrict (length t) (slice_split p t)
texts_of_parts p [] h =
    All-cons (λ t. IsStrictText t 0) [] [] (record { text = h; fits = omega arith }) (All-nil (λ t. IsStrictText t 0))
texts_of_parts p (b ∷ t) h =
    let rest = texts_of_parts p t (All-tail IsTextByte b t h) in
    let n = length t in
    AllStrict-either (suc n) (p b) ([] ∷ slice_split p t) (onto_first b (slice_split p t))
    (All-cons (λ t. IsStrictText t (suc n)) [] (slice_split p t) (record { text = All-nil IsTextByte; fits = omega arith }) (AllStrict-weaker n (suc n) (slice_split p t) (omega arith) rest))
    (AllStrict-onto_first b n (slice_split p t) (All-head IsTextByte b t h) rest)

-- each part of a strict text is one
pub IsStrictText-slice_split : (p : ℕ → Bool) (t : List ℕ) (n : ℕ) → IsStrictText t n → All (λ part. IsStrictText part n) (slice_split p t)
IsStrictText-slice_split p t n h = AllStrict-weaker (length t) n (slice_split p t) h.fits (texts_of_parts p t h.text)

-- at the first byte of a kind a text is split into the part before it, and the parts of the rest after it
pub slice_split-found : (p : ℕ → Bool) (t : List ℕ) (i : ℕ) → position p t ≡ Some i → slice_split p t ≡ take i t ∷ slice_split p (drop (i + 1) t)
slice_split-found p t i at = elim (cases_lt (position_or_len p t) (length t)) [
  | inl inside ↦ (let first : position_or_len p t ≡ i = grind (arith, nat_tests) in rw first at (slice_split_first p t 0 inside))
  | inr outside ↦ absurd (grind (arith, nat_tests))
]

-- and a text with none is one part
pub slice_split-missed : (p : ℕ → Bool) (t : List ℕ) → position p t ≡ None → slice_split p t ≡ t ∷ []
slice_split-missed p t none = elim (cases_lt (position_or_len p t) (length t)) [
  | inl inside ↦ absurd (grind (arith, nat_tests))
  | inr outside ↦ slice_split_none p t (λ k d below. fails_before_first p t k d (omega arith))
]

-- there is at most one part more than bytes
pub length-slice_split-le : (p : ℕ → Bool) (t : List ℕ) → length (slice_split p t) ≤ length t + 1
length-slice_split-le p t = omega (arith, length-slice_split p t, count_by-le-length p t)

-- ---- joined

abbrev Lacks : ℕ → List ℕ → Type 0
Lacks c t = All (λ b. b ≢ c) t

fails-Lacks : (c : ℕ) (t : List ℕ) → Lacks c t → All (λ b. (b == c) ≡ false) t
fails-Lacks c t h = All-weaker (λ b. b ≢ c) (λ b. (b == c) ≡ false) (λ b k. grind (arith, nat_tests)) t h

-- texts without a byte, joined by it and split at it, are the same texts
pub slice_split-joined : (c : ℕ) (ts : List (List ℕ)) → 0 < length ts → All (λ t. All (λ b. b ≢ c) t) ts → slice_split (λ b. b == c) (join_with_byte c ts) ≡ ts
slice_split-joined c [] some h = absurd (omega arith)
slice_split-joined c (t ∷ []) some h = slice_split_none (λ b. b == c) t (fails-Lacks c t (All-head (Lacks c) t [] h))
slice_split-joined c (t ∷ s ∷ ts) some h =
    slice_split_at (λ b. b == c) t c (join_with_byte c (s ∷ ts)) (fails-Lacks c t (All-head (Lacks c) t (s ∷ ts) h)) (grind (arith, nat_tests))
    ∙ ap (λ (l : List (List ℕ)). t ∷ l) (slice_split-joined c (s ∷ ts) (omega arith) (All-tail (Lacks c) t (s ∷ ts) h))

-- a byte is before each text but the first
length-joined : (c : ℕ) (t : List ℕ) (ts : List (List ℕ)) → length (join_with_byte c (t ∷ ts)) ≡ length t + sum_by (λ s. 1 + length s) ts
length-joined c t [] = omega arith
length-joined c t (s ∷ ts) = omega (arith, length-append t (c ∷ join_with_byte c (s ∷ ts)), length-joined c s ts, sum_by-cons (λ (s : List ℕ). 1 + length s) s ts)

-- the first of them are no longer than all
pub length-joined_first : (c : ℕ) (t : List ℕ) (ts : List (List ℕ)) → length t ≤ length (join_with_byte c (t ∷ ts))
length-joined_first c t ts = omega (arith, length-joined c t ts)

pub length-joined_more : (c : ℕ) (t : List ℕ) (ts : List (List ℕ)) (i : ℕ) (d : List ℕ) → i < length ts
    → length (join_with_byte c (t ∷ take i ts)) + 1 + length (get_or ts i d) ≤ length (join_with_byte c (t ∷ ts))
length-joined_more c t ts i d inside =
    omega (arith, length-joined c t ts, length-joined c t (take i ts), sum_by_more_le (λ (s : List ℕ). 1 + length s) ts i d inside)

-- one more of them
joined-suc : (c : ℕ) (t : List ℕ) (ts : List (List ℕ)) (i : ℕ) (d : List ℕ) → i < length ts → join_with_byte c (t ∷ take (suc i) ts) ≡ join_with_byte c (t ∷ take i ts) ++ (c ∷ get_or ts i d)
joined-suc c t [] i d inside = absurd (omega arith)
joined-suc c t (s ∷ ts) zero d inside = refl
joined-suc c t (s ∷ ts) (suc i) d inside =
    ap (λ (l : List ℕ). t ++ (c ∷ l)) (joined-suc c s ts i d (omega arith)) ∙ sym (append_assoc t (c ∷ join_with_byte c (s ∷ take i ts)) (c ∷ get_or ts i d))

pub joined-more : (c : ℕ) (t : List ℕ) (ts : List (List ℕ)) (i : ℕ) (d : List ℕ) → i < length ts → join_with_byte c (t ∷ take (i + 1) ts) ≡ join_with_byte c (t ∷ take i ts) ++ (c ∷ get_or ts i d)
joined-more c t ts i d inside = rw add-one (joined-suc c t ts i d inside)

-- joined characters and texts are a text
pub IsText-joined : (c : ℕ) (ts : List (List ℕ)) → IsTextByte c → All IsText ts → IsText (join_with_byte c ts)
IsText-joined c [] h each = All-nil IsTextByte
IsText-joined c (t ∷ []) h each = All-head IsText t [] each
IsText-joined c (t ∷ s ∷ ts) h each =
    All-append IsTextByte t (c ∷ join_with_byte c (s ∷ ts)) (All-head IsText t (s ∷ ts) each)
    (All-cons IsTextByte c (join_with_byte c (s ∷ ts)) h (IsText-joined c (s ∷ ts) h (All-tail IsText t (s ∷ ts) each)))

-- they are of the class of all
list_all-joined : (p : ℕ → Bool) (c : ℕ) (ts : List (List ℕ)) → p c ≡ true → All (λ t. list_all p t ≡ true) ts → list_all p (join_with_byte c ts) ≡ true
list_all-joined p c [] h each = refl
list_all-joined p c (t ∷ []) h each = All-head (λ t. list_all p t ≡ true) t [] each
list_all-joined p c (t ∷ s ∷ ts) h each =
    rw (list_all-append p t (c ∷ join_with_byte c (s ∷ ts)), All-head (λ t. list_all p t ≡ true) t (s ∷ ts) each, h)
    (list_all-joined p c (s ∷ ts) h (All-tail (λ t. list_all p t ≡ true) t (s ∷ ts) each))

pub ask-joined_texts : (p : ℕ → Bool) (c : ℕ) (ts : List (List ℕ)) → p c ≡ true → All (λ t. ask p p t ≡ true) ts → ask p p (join_with_byte c ts) ≡ true
ask-joined_texts p c ts h each =
    ask-same p (join_with_byte c ts)
    ∙ list_all-joined p c ts h (All-weaker (λ t. ask p p t ≡ true) (λ t. list_all p t ≡ true) (λ t k. sym (ask-same p t) ∙ k) ts each)

-- and a change of each byte is one of the texts and of the bytes between them
pub map-joined : (f : ℕ → ℕ) (c : ℕ) (ts : List (List ℕ)) → map f (join_with_byte c ts) ≡ join_with_byte (f c) (map (λ t. map f t) ts)
map-joined f c [] = refl
map-joined f c (t ∷ []) = refl
map-joined f c (t ∷ s ∷ ts) =
    map-append f t (c ∷ join_with_byte c (s ∷ ts)) ∙ ap (λ (l : List ℕ). map f t ++ (f c ∷ l)) (map-joined f c (s ∷ ts))

-- each part of a text that is split
pub ruleset first_parts = (IsStrictText-take, IsStrictText-drop, length-slice_split-le)

-- one more text of those that are joined
pub ruleset joined_parts = (length-joined_first, length-joined_more, joined-more)

-- ---- the front of changed and of joined texts

-- the front of a text, put in lowercase, is the front of the text in lowercase
pub lowercase-take : (m : ℕ) (t : List ℕ) → lowercase (take m t) ≡ take m (lowercase t)
lowercase-take m t = sym (take-map lower m t)

-- it is the same for uppercase
pub uppercase-take : (m : ℕ) (t : List ℕ) → uppercase (take m t) ≡ take m (uppercase t)
uppercase-take m t = sym (take-map raise m t)

-- and for titlecase
pub titlecase-take : (m : ℕ) (t : List ℕ) → titlecase (take m t) ≡ take m (titlecase t)
titlecase-take zero [] = refl
titlecase-take zero (b ∷ t) = refl
titlecase-take (suc m) [] = refl
titlecase-take (suc m) (b ∷ t) = ap (λ (l : List ℕ). raise b ∷ l) (lowercase-take m t)

-- the front of three lists joined, with the first two or the last two joined and cut before
pub take_join_cut : (a b c : List ℕ) (p q r : ℕ) → q ≤ p → q ≤ r → take q (take p (a ++ b) ++ c) ≡ take q (a ++ take r (b ++ c))
take_join_cut a b c p q r first second = same_lists _ _ (search (rules, places)) (λ k d h. grind (arith, places))

-- the fronts of two texts, joined, begin as both texts joined
pub prefixes_joined : (l r : List ℕ) (n m q : ℕ) → IsPaddedText l n → IsPaddedText r m
    → take q (text_of (take (min n q) l) ++ text_of (take (min m q) r)) ≡ take q (text_of l ++ text_of r)
prefixes_joined l r n m q p o =
    let first = p.fits in
    let second = o.fits in
    rw (text_of-take l n (min n q) p, text_of-take r m (min m q) o) (same_lists _ _ (search (rules, places)) (λ k d h. grind (arith, places)))

-- a beginning of the first eight bytes
pub prefix_of_eight : (a b : List ℕ) (q : ℕ) → q ≤ 8 → take q (take 8 (a ++ b)) ≡ take q (a ++ b)
prefix_of_eight a b q le = take-take q 8 (a ++ b) le

pub ruleset prefixes = (prefixes_joined, padded_front)
