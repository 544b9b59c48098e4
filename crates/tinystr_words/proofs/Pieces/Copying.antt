-- Bytes copied in pieces onto others, and a padded text put after another.
use Rattle.std.proofs.Common.{List, [], ap, arith, drop, length, map, min, refl, rules, sym, take, ℕ, ◌++◌, ◌+◌, ◌-◌, ◌<◌, ◌∙◌, ◌≡◌, ◌≤◌, ◌⊎◌, inl, inr}
use Rattle.std.proofs.lemmas.List.{drop-drop, drop-map, drop-take, length-append, length-drop, length-map, length-take, places, same_lists, take-map, take-take, take_all}
use Rattle.std.proofs.lemmas.List.Elements.{All-append, All-nil}
use Rattle.std.proofs.Math.Seq.{take-nil}
use borrow.Rule.Slice.PartMut.{put_mid, same_len_mid}
use Rattle.tinystr_words.specs.Text.{IsPadded, IsPaddedText, IsText, IsTextByte, pad, text_of}
use Rattle.tinystr_words.proofs.Texts.{IsPaddedText-places, NULS, get_or-pad, get_or-text_of, get_or-nuls, length-text_of-le}

-- what is long enough isn't padded
pub pad-full : (t : List ℕ) (n : ℕ) → n ≤ length t → pad t n ≡ t
pad-full t n long = same_lists _ _ (search (rules, places)) (λ k d h. grind (arith, places))

-- one more piece
pub copied_more : (old src bytes piece : List ℕ) (at k next : ℕ) → bytes ≡ take at src ++ drop at old → next ≡ at + k → next ≤ length src → next ≤ length old
    → piece ≡ take k (drop at src) → put_mid at k bytes piece ≡ take next src ++ drop next old
copied_more old src bytes piece at k next e step inside fits is =
    rw (e, is) (same_lists _ _ (search (rules, places)) (λ i d h. grind (arith, places)))

-- the last piece, up to the end of the shorter list
pub copied_rest : (old src bytes piece : List ℕ) (at k : ℕ) → bytes ≡ take at src ++ drop at old → at + k ≡ min (length old) (length src) → piece ≡ take k (drop at src)
    → put_mid at k bytes piece ≡ take (length old) src ++ drop (length src) old
copied_rest old src bytes piece at k e all is =
    copied_more old src bytes piece at k (at + k) e refl (omega arith) (omega arith) is ∙ same_lists _ _ (search (rules, places)) (λ k d h. grind (arith, places))

-- one list and then another
pub copied_both : (old f b bytes y : List ℕ) (i : ℕ) → bytes ≡ take (length old) f ++ drop (length f) old → i ≡ min (length f) (length bytes)
    → (let p = take (length bytes - i) (drop i bytes) in y ≡ take (length p) b ++ drop (length b) p)
    → put_mid i (length bytes - i) bytes y ≡ take (length old) (f ++ b) ++ drop (length (f ++ b)) old
copied_both old f b bytes y i e end is =
    rw is (same_lists _ _ (search (rules, places)) (λ k d h. grind (arith, places)))

-- bytes copied onto NULs
pub pad-copied : (bytes src : List ℕ) (n : ℕ) → bytes ≡ take (length (NULS n)) src ++ drop (length src) (NULS n) → bytes ≡ pad (take n src) n
pad-copied bytes src n e = rw e (same_lists _ _ (search (rules, places)) (λ k d h. grind (arith, places)))

-- a padded text copied onto NULs
pub IsPaddedText-copied : (bytes padded : List ℕ) (n : ℕ) → IsPadded padded → bytes ≡ take (length (NULS n)) padded ++ drop (length padded) (NULS n)
    → IsPaddedText bytes n × (text_of bytes ≡ take n (text_of padded))
IsPaddedText-copied bytes padded n p e =
    IsPaddedText-places bytes (text_of padded) n (rw e (search (rules, places))) p.text
    (λ k below. grind (arith, places, get_or-nuls, get_or-text_of padded (length padded) k p))

-- padded bytes joined are padded, if the second have no text where the first have NULs
pub IsPadded-append : (x y : List ℕ) → IsPadded x → IsPadded y → (length (text_of x) < length x → text_of y ≡ []) → IsPadded (x ++ y) × (text_of (x ++ y) ≡ text_of x ++ text_of y)
IsPadded-append x y p q after =
    let made = IsPaddedText-places (x ++ y) (text_of x ++ text_of y) (length (x ++ y)) refl (All-append IsTextByte (text_of x) (text_of y) p.text q.text)
    (λ k below. grind (arith, places, get_or-text_of x (length x) k p, get_or-text_of y (length y) (k - length x) q, after)) in
    (made.0, made.1 ∙ take_all (length (x ++ y)) (text_of x ++ text_of y) (omega (arith, length-append x y, length-append (text_of x) (text_of y), length-text_of-le x, length-text_of-le y)))

-- a text that fills its bytes and then another, copied onto NULs
pub IsPaddedText-both_copied : (bytes a b : List ℕ) (n : ℕ) → IsPadded a → length a ≡ length (text_of a) → IsPadded b
    → bytes ≡ take (length (NULS n)) (a ++ b) ++ drop (length (a ++ b)) (NULS n) → IsPaddedText bytes n × (text_of bytes ≡ take n (text_of a ++ text_of b))
IsPaddedText-both_copied bytes a b n p full q e =
    let joined = IsPadded-append a b p q (λ short. absurd (omega arith)) in
    rw joined.1 at (IsPaddedText-copied bytes (a ++ b) n joined.0 e)

-- an array that holds a padded text, and the text of the value that is made of it
pub IsPaddedText-pad_take : (bytes t : List ℕ) (n : ℕ) → bytes ≡ pad (take n t) n → IsText t → IsPaddedText bytes n × (text_of bytes ≡ take n t)
IsPaddedText-pad_take bytes t n made h =
    IsPaddedText-places bytes t n (rw made (search (rules, places))) h (λ k below. rw (made, get_or-pad) (grind (arith, places)))

-- k bytes of x, which are all of it or fill r, appended to the text of r
pub IsPadded-appended : (r x y : List ℕ) (at k : ℕ) → IsPadded r → at ≡ length (text_of r) → IsPadded x
    → y ≡ take k x → k ≤ length x → at + k ≤ length r → (k ≡ length x) ⊎ (k ≡ length r - at)
    → IsPadded (put_mid at k r y) × (text_of (put_mid at k r y) ≡ take (length r) (text_of r ++ text_of x))
IsPadded-appended r x y at k p here q y_is some fits all =
    let long : length (put_mid at k r y) ≡ length r = rw y_is (search (rules, places)) in
    let made = IsPaddedText-places (put_mid at k r y) (text_of r ++ text_of x) (length (put_mid at k r y)) refl (All-append IsTextByte (text_of r) (text_of x) p.text q.text)
    (λ i below. rw y_is (grind (arith, places, get_or-text_of r (length r) i p, get_or-text_of x (length x) (i - at) q, all))) in
    (made.0, rw long at made.1)

-- all of x
pub appended_whole : (r x : List ℕ) (at k : ℕ) → IsPadded r → at ≡ length (text_of r) → IsPadded x → k ≡ length x → at + k ≤ length r → let made = put_mid at k r x in
    (made ≡ made) × ((text_of made ≡ take (length r) (text_of r ++ text_of x)) × ((length made ≡ length r) × IsPadded made))
appended_whole r x at k p here q all fits =
    let made = IsPadded-appended r x x at k p here q (rw all (sym (take_all (length x) x (omega arith)))) (omega arith) fits (inl all) in
    (refl, (made.1, (same_len_mid at k r x (omega (arith, length-take k (drop at r), length-drop at r)), made.0)))

-- as much of it as fits
pub appended_front : (r x : List ℕ) (at k : ℕ) → IsPadded r → at ≡ length (text_of r) → IsPadded x → k ≤ length x → k ≡ length r - at → at ≤ length r → let made = put_mid at k r (take k x) in
    (made ≡ made) × ((text_of made ≡ take (length r) (text_of r ++ text_of x)) × ((length made ≡ length r) × IsPadded made))
appended_front r x at k p here q some all fits =
    let made = IsPadded-appended r x (take k x) at k p here q refl some (omega arith) (inr all) in
    (refl, (made.1, (same_len_mid at k r (take k x) (omega (arith, length-take k x, length-take k (drop at r), length-drop at r)), made.0)))

-- no text in NULs
pub IsPadded-nuls : (n : ℕ) → IsPadded (NULS n) × (text_of (NULS n) ≡ [])
IsPadded-nuls n =
    let made = IsPaddedText-places (NULS n) [] (length (NULS n)) refl (All-nil IsTextByte) (λ k below. get_or-nuls n k) in
    (made.0, made.1 ∙ take-nil (length (NULS n)))

-- k of the eight from a place on
pub piece-of_eight : {X : Type 0} (f : X → ℕ) (xs : List X) (eight piece : List ℕ) (at all skip k from count : ℕ) → all ≡ 8 → eight ≡ map f (take all (drop at xs))
    → piece ≡ take k (drop skip eight) → skip + k ≤ 8 → at + skip ≡ from → k ≡ count → piece ≡ take count (drop from (map f xs))
piece-of_eight f xs eight piece at all skip k from count is_all made is fits there same =
    let src = map f xs in
    let whole : eight ≡ take 8 (drop at src) = rw is_all at made ∙ sym (take-map f 8 (drop at xs)) ∙ ap (take 8) (sym (drop-map f at xs)) in
    let after : drop skip (take 8 (drop at src)) ≡ take (8 - skip) (drop skip (drop at src)) =
    (rw (let all : skip + (8 - skip) ≡ 8 = omega arith in all) at (drop-take skip (8 - skip) (drop at src))) in
    is ∙ ap (λ l. take k (drop skip l)) whole ∙ ap (take k) after ∙ take-take k (8 - skip) (drop skip (drop at src)) (omega arith)
    ∙ ap (take k) (drop-drop skip at src) ∙ rw (there, same) refl

-- all of a list copied onto one as long
pub copied_whole : (old src bytes : List ℕ) (n : ℕ) → n ≡ length src → length old ≡ n → bytes ≡ take n src ++ drop n old → bytes ≡ src
copied_whole old src bytes n all long e = rw e (same_lists _ _ (search (rules, places)) (λ k d h. grind (arith, places)))

-- one more piece of a map, of which eight were made
pub mapped_more : {X : Type 0} (f : X → ℕ) (units : List X) (old bytes eight piece : List ℕ) (at all k next : ℕ) → bytes ≡ take at (map f units) ++ drop at old → eight ≡ map f (take all (drop at units))
    → piece ≡ take k eight → all ≡ 8 → k ≤ 8 → next ≡ at + k → next ≤ length units → length old ≡ length units → put_mid at k bytes piece ≡ take next (map f units) ++ drop next old
mapped_more f units old bytes eight piece at all k next e made is is_all few step inside same =
    copied_more old (map f units) bytes piece at k next e step (omega (arith, length-map units f)) (omega arith)
    (piece-of_eight f units eight piece at all 0 k at k is_all made is (omega arith) (omega arith) refl)
