-- Texts in padded arrays.
use Rattle.std.proofs.Common.{◌≡◌, ◌≢◌, ◌==◌, ℕ, ◌+◌, ◌-◌, ◌<◌, ◌≤◌, Bool, List, ◌∷◌, ◌++◌, All, length, get_or, take, drop, replicate, sym, ap, ◌∙◌, refl, arith, eqb, not, rules, subst}
use Rattle.std.proofs.lemmas.Bool.Decides.{nat_tests}
use Rattle.std.proofs.lemmas.List.{get_or_append_left, get_or_past, get_or-map, get_or-take, length-append, length-drop, length-map, length-replicate, length-take, take_at, take_all, append-nil, places, same_lists}
use Rattle.std.proofs.lemmas.Grind.{same_number_lists}
use Rattle.std.proofs.lemmas.List.Sums.{position_or_len_is, prefix_len_is, prefix_len-le-length}
use Rattle.std.proofs.lemmas.List.Folds.{length-prefix_len}
use Rattle.std.proofs.lemmas.List.Elements.{All-weaker, All-take, All-drop}
use Rattle.std.proofs.lemmas.Str.{IsUtf8-from_ascii}
use Rattle.std.proofs.lemmas.Str.Ascii.{IsAscii-from_all}
use Rattle.std.specs.List.{after_first, before_first, position_or_len, prefix_len}
use Rattle.std.specs.Str.{IsAscii, IsUtf8}
use Rattle.tinystr_words.specs.Case.{lower, lowercase, raise, uppercase}
use Rattle.tinystr_words.specs.Text.{IsTextByte, IsText, IsStrictText, pad, text_of, IsPaddedText, IsPadded}

-- the test that `text_of` makes of each byte
abbrev pub differs_from_nul : ℕ → Bool
differs_from_nul b = not (eqb b 0)

abbrev pub NULS : ℕ → List ℕ
NULS k = replicate k 0

-- at each position of a list of NULs is a NUL
pub get_or-nuls : (m k : ℕ) → get_or (NULS m) k 0 ≡ 0
get_or-nuls m k = grind (arith, places)

-- past its end a list is padded already
pub get_or-pad : (t : List ℕ) (n k : ℕ) → get_or (pad t n) k 0 ≡ get_or t k 0
get_or-pad t n k = grind (arith, places, get_or-nuls)

-- ---- a text and its padding

-- a text padded to n bytes has n bytes
pub length-pad : (t : List ℕ) (n : ℕ) → length t ≤ n → length (pad t n) ≡ n
length-pad t n h = omega (arith, length-append t (NULS (n - length t)), length-replicate {A = ℕ} (n - length t) 0)

-- the number of bytes before the first NUL of a padded text is that of the text
prefix_len-pad : (t : List ℕ) (n : ℕ) → IsText t → prefix_len differs_from_nul (pad t n) ≡ length t
prefix_len-pad t n h =
    prefix_len_is differs_from_nul (pad t n) (length t) 0
    (omega (arith, length-append t (NULS (n - length t))))
    (λ k below. rw get_or-pad (let p = h k 0 below in grind (arith, nat_tests)))
    (λ inside. rw (get_or-pad t n (length t), get_or_past t (length t) 0 (omega arith)) refl)

-- the text of a padded form is the text that was padded
pub text_of-pad : (t : List ℕ) (n : ℕ) → IsText t → text_of (pad t n) ≡ t
text_of-pad t n h = take_at t (NULS (n - length t)) (prefix_len differs_from_nul (pad t n)) (sym (prefix_len-pad t n h))

-- a text that fits is a padded text once it is padded
pub IsPaddedText-pad : (t : List ℕ) (n : ℕ) → IsStrictText t n → IsPaddedText (pad t n) n
IsPaddedText-pad t n h =
    let e = text_of-pad t n h.text in
    record { text = rw e h.text; fits = rw e h.fits; padded = ap (λ (s : List ℕ). pad s n) (sym e) }

-- what every function that makes a value shows of the array it made
pub IsPaddedText-made : (bytes t : List ℕ) (n : ℕ) → bytes ≡ pad t n → IsStrictText t n → IsPaddedText bytes n
IsPaddedText-made bytes t n made h = rw made (IsPaddedText-pad t n h)

-- a text that fills its array
pub IsPaddedText-whole : (t : List ℕ) → IsText t → IsPadded t
IsPaddedText-whole t h =
    let none : length t - length t ≡ 0 = omega arith in
    IsPaddedText-made t t (length t) (rw none (sym (append-nil t))) (record { text = h; fits = omega arith })

-- an array that was made by padding a text holds that text
pub text_of-made : (bytes t : List ℕ) (n : ℕ) → bytes ≡ pad t n → IsText t → text_of bytes ≡ t
text_of-made bytes t n made h = ap (λ (b : List ℕ). text_of b) made ∙ text_of-pad t n h

-- two texts with one padded form are one text
pub pad_once : (t s : List ℕ) (n : ℕ) → IsText t → IsText s → pad t n ≡ pad s n → t ≡ s
pad_once t s n h k e = sym (text_of-pad t n h) ∙ text_of-made (pad t n) s n e k

-- the length of the text is the number of bytes before the first NUL
pub length-text_of : (bytes : List ℕ) → length (text_of bytes) ≡ prefix_len differs_from_nul bytes
length-text_of bytes = length-prefix_len differs_from_nul bytes

-- the text's bytes are the first of the array
pub take-text_of : (bytes : List ℕ) → take (length (text_of bytes)) bytes ≡ text_of bytes
take-text_of bytes = rw (length-text_of bytes) refl

-- the text is no longer than its array
pub length-text_of-le : (bytes : List ℕ) → length (text_of bytes) ≤ length bytes
length-text_of-le bytes = omega (arith, length-text_of bytes, prefix_len-le-length differs_from_nul bytes)

-- the length, as a loop finds it
pub length-text_of-at : (bytes : List ℕ) (n : ℕ) → n ≤ length bytes → ((k : ℕ) → k < n → get_or bytes k 0 ≢ 0) → (n < length bytes → get_or bytes n 0 ≡ 0) → length (text_of bytes) ≡ n
length-text_of-at bytes n fits before here =
    length-text_of bytes ∙ prefix_len_is differs_from_nul bytes n 0 fits
    (λ k h. let p = before k h in grind (arith, nat_tests))
    (λ h. let p = here h in grind (arith, nat_tests))

pub ruleset padded_texts = (length-text_of-at, take-text_of, length-text_of-le)

-- the bytes of a padded text, by their places
pub get_or-text_of : (bytes : List ℕ) (n k : ℕ) → IsPaddedText bytes n → get_or bytes k 0 ≡ get_or (text_of bytes) k 0
get_or-text_of bytes n k p = ap (λ (l : List ℕ). get_or l k 0) p.padded ∙ get_or-pad (text_of bytes) n k

-- a text is ASCII
pub IsAscii-text : (t : List ℕ) → IsText t → IsAscii t
IsAscii-text t h = IsAscii-from_all t (All-weaker IsTextByte (λ b. b < 128) (λ b c. c.1) t h)

-- padded bytes are ASCII
pub IsAscii-padded : (bytes : List ℕ) (n : ℕ) → IsPaddedText bytes n → IsAscii bytes
IsAscii-padded bytes n p = λ i. rw (get_or-text_of bytes n i p) (IsAscii-text (text_of bytes) p.text i)

-- a text is UTF-8
pub IsUtf8-text : (t : List ℕ) → IsText t → IsUtf8 t
IsUtf8-text t h = IsUtf8-from_ascii t (IsAscii-text t h)

-- what a string made of a text's bytes requires
pub ruleset utf8_texts = (IsUtf8-text)

-- ---- the parts of lists that are joined, and of padded texts

-- the front of two lists joined
pub take-joined : (s o : List ℕ) (q : ℕ) → take q (s ++ o) ≡ take q s ++ take (q - length s) o
take-joined s o q = same_lists _ _ (search (rules, places)) (λ k d h. grind (arith, places))

-- fewer NULs
pub take-pad : (t : List ℕ) (n w : ℕ) → length t ≤ n → n ≤ w → take n (pad t w) ≡ pad t n
take-pad t n w fits le = same_lists _ _ (search (rules, places)) (λ k d h. grind (arith, places))

-- n bytes that are those of a text, place by place, and NULs past its end
pub IsPaddedText-places : (bytes t : List ℕ) (n : ℕ) → length bytes ≡ n → IsText t → ((k : ℕ) → k < n → get_or bytes k 0 ≡ get_or t k 0) → IsPaddedText bytes n × (text_of bytes ≡ take n t)
IsPaddedText-places bytes t n long h same =
    let text = All-take IsTextByte n t h in
    let fits : length (take n t) ≤ n = omega (arith, length-take n t) in
    let made : bytes ≡ pad (take n t) n = same_number_lists _ _ (long ∙ sym (length-pad (take n t) n fits))
    (λ k below. same k (omega arith) ∙ sym (get_or-pad (take n t) n k ∙ get_or-take n t k 0 (omega arith))) in
    (IsPaddedText-made bytes (take n t) n made (record { text = text; fits = fits }), text_of-made bytes (take n t) n made text)

-- a front of a padded text is padded, and its text is a front of the text
padded-take : (l : List ℕ) (n q : ℕ) → IsPaddedText l n → IsPadded (take q l) × (text_of (take q l) ≡ take q (text_of l))
padded-take l n q p =
    let made = IsPaddedText-places (take q l) (text_of l) (length (take q l)) refl p.text (λ k below. get_or-take q l k 0 (omega (arith, length-take q l)) ∙ get_or-text_of l n k p) in
    (made.0, made.1 ∙ rw length-take (same_lists _ _ (search (rules, places)) (λ k d h. grind (arith, places, length-text_of-le l))))

-- a back of a padded text is padded, and its text is a back of the text
padded-drop : (l : List ℕ) (n q : ℕ) → IsPaddedText l n → IsPadded (drop q l) × (text_of (drop q l) ≡ drop q (text_of l))
padded-drop l n q p =
    let made = IsPaddedText-places (drop q l) (drop q (text_of l)) (length (drop q l)) refl (All-drop IsTextByte q (text_of l) p.text) (λ k below. grind (arith, places, get_or-text_of l n (q + k) p)) in
    (made.0, made.1 ∙ take_all (length (drop q l)) (drop q (text_of l)) (omega (arith, length-drop q l, length-drop q (text_of l), length-text_of-le l)))

-- a front of a padded text is padded
pub IsPaddedText-take : (l : List ℕ) (n q : ℕ) → IsPaddedText l n → IsPadded (take q l)
IsPaddedText-take l n q p = (padded-take l n q p).0

-- the text of a front is a front of the text
pub text_of-take : (l : List ℕ) (n q : ℕ) → IsPaddedText l n → text_of (take q l) ≡ take q (text_of l)
text_of-take l n q p = (padded-take l n q p).1

-- a back of a padded text is padded
pub IsPaddedText-drop : (l : List ℕ) (n q : ℕ) → IsPaddedText l n → IsPadded (drop q l)
IsPaddedText-drop l n q p = (padded-drop l n q p).0

-- the text of a back is a back of the text
pub text_of-drop : (l : List ℕ) (n q : ℕ) → IsPaddedText l n → text_of (drop q l) ≡ drop q (text_of l)
text_of-drop l n q p = (padded-drop l n q p).1

-- the front and the back of padded bytes; the first part says nothing, and shows `grind` the list to match
pub padded_front : (l : List ℕ) (q : ℕ) → IsPadded l → (take q l ≡ take q l) × ((length (take q l) ≤ q) × IsPadded (take q l))
padded_front l q p = (refl, (omega (arith, length-take q l), IsPaddedText-take l (length l) q p))

pub padded_back : (l : List ℕ) (q : ℕ) → IsPadded l → (drop q l ≡ drop q l) × IsPadded (drop q l)
padded_back l q p = (refl, IsPaddedText-drop l (length l) q p)

pub ruleset padded_parts = (padded_front, padded_back)

-- ---- texts in another case, and two texts around a byte

-- what fits in lowercase or in uppercase is a text that fits
pub IsStrictText-lowercase : (t : List ℕ) (n : ℕ) → IsStrictText (lowercase t) n → IsStrictText t n
IsStrictText-lowercase t n h = record {
  text = λ k d inside. let low : IsTextByte (lower (get_or t k d)) = subst (λ b. IsTextByte b) (get_or-map lower t k d (lower d) inside) (h.text k (lower d) (omega (arith, length-map t lower))) in grind (arith, nat_tests);
  fits = omega (arith, length-map t lower, h.fits);
}

pub IsStrictText-uppercase : (t : List ℕ) (n : ℕ) → IsStrictText (uppercase t) n → IsStrictText t n
IsStrictText-uppercase t n h = record {
  text = λ k d inside. let up : IsTextByte (raise (get_or t k d)) = subst (λ b. IsTextByte b) (get_or-map raise t k d (raise d) inside) (h.text k (raise d) (omega (arith, length-map t raise))) in grind (arith, nat_tests);
  fits = omega (arith, length-map t raise, h.fits);
}

-- the first byte of a kind is after a text that has none
position-joined : (c : ℕ) (t s : List ℕ) → All (λ b. b ≢ c) t → position_or_len (λ b. b == c) (t ++ c ∷ s) ≡ length t
position-joined c t s h =
    position_or_len_is (λ b. b == c) (t ++ c ∷ s) (length t) 0
    (omega (arith, length-append t (c ∷ s)))
    (λ k below. rw (get_or_append_left t (c ∷ s) 0 k below) (let p = h k 0 below in grind (arith, nat_tests)))
    (λ inside. grind (arith, nat_tests, places))

-- so these are the texts before and after it
pub before_first-joined : (c : ℕ) (t s : List ℕ) → All (λ b. b ≢ c) t → before_first (λ b. b == c) (t ++ c ∷ s) ≡ t
before_first-joined c t s h = rw (position-joined c t s h) (take_at t (c ∷ s) (length t) refl)

pub after_first-joined : (c : ℕ) (t s : List ℕ) → All (λ b. b ≢ c) t → after_first (λ b. b == c) (t ++ c ∷ s) ≡ s
after_first-joined c t s h = rw (position-joined c t s h) (same_lists _ _ (search (rules, places)) (λ k d h. grind (arith, places)))
