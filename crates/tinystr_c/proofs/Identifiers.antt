-- The longest identifier that an input begins with, and the subtags of a canonical text.
use Rattle.std.proofs.Common.{◌≡◌, ◌≢◌, ◌+◌, ◌-◌, ◌∙◌, ℕ, nat_le, cond, ◌&&◌, true, false, List, ◌∷◌, length, take, map, ap, refl, arith, Option, None, Some}
use Rattle.std.proofs.lemmas.Bool.{false_from_ne_true}
use Rattle.std.proofs.lemmas.Bool.Decides.{nat_tests}
use Rattle.std.proofs.lemmas.List.{take_all, length-drop}
use Rattle.subtags.specs.Grammar.{is_lang_id, subtags_of, fold_text, is_language, is_tail, IsLangId, IsCanonical, canonical_subtag, canonical_text}
use Rattle.subtags.specs.Answers.{IsIdPrefix, IsLongestId}
use Rattle.subtags.specs.Subtags.{first, script_of, region_of}
use Rattle.subtags.specs.Private.{first_subtag}
use Rattle.subtags.proofs.CanonLemmas.{IsCanonical-canonical_text, is_tail-canonical, no_script-from_region, plain_subtags, subtags_of-join, subtags_after, subtags_at_first_separator}
use Rattle.subtags.proofs.IdentifierLemmas.{prefix_language}
use Rattle.tinystr_c.specs.Codes.{OK, INVALID_LANGUAGE, INVALID_SUBTAG, NO_ROOM, success, failure, no_parts}
use Rattle.tinystr_c.specs.Langid.{AnswersParts}
use Rattle.tinystr_c.specs.declared.answer.TinystrParts.{TinystrParts}
use Rattle.tinystr_c.specs.declared.answer.TinystrResult.{TinystrResult}

-- an identifier begins with itself
whole_prefix : (u : List ℕ) → IsLangId u → IsIdPrefix u (length u)
whole_prefix u is = record { inside = omega arith; whole = grind (arith, nat_tests); accepted = rw (take_all (length u) u (omega arith)) is }

-- if nothing follows the longest identifier that it begins with, it is one
pub whole_longest : (u t r : List ℕ) → length r ≡ 0 → (h : IsLongestId u t r) → IsLangId u × (t ≡ canonical_text u)
whole_longest u t r none h =
    let all : take h.end u ≡ u = take_all h.end u (omega (arith, length-drop h.end u, ap (λ (l : List ℕ). length l) h.rest, none)) in
    (rw all at h.prefix.accepted, h.text ∙ ap canonical_text all)

-- if something does, it is none
pub longer_input : (u t r : List ℕ) → length r ≢ 0 → IsLongestId u t r → ¬ IsLangId u
longer_input u t r some h is = some (omega (arith, h.longest (length u) (whole_prefix u is), length-drop h.end u, ap (λ (l : List ℕ). length l) h.rest))

parts-no_subtag : (u t r : List ℕ) (len : ℕ) → length r ≢ 0 → (h : IsLongestId u t r) → AnswersParts (no_parts (failure INVALID_SUBTAG (length u - length r + 1)) (length (subtags_of t))) u len
parts-no_subtag u t r len some h =
    let place : length u - length r ≡ h.end = omega (arith, h.prefix.inside, length-drop h.end u, ap (λ (l : List ℕ). length l) h.rest) in
    record {
      accepted = λ is. absurd (longer_input u t r some h is);
      no_language = λ _ why. (let language = prefix_language u h.end h.prefix in let bad = rw language at why in absurd (cc));
      no_subtag = λ _ _. (t, r, h, rw place refl);
    }

pub parts-no_language : (u : List ℕ) (len : ℕ) → is_language (first (subtags_of (fold_text u))) ≡ false → ((n : ℕ) → ¬ IsIdPrefix u n) → AnswersParts (no_parts (failure INVALID_LANGUAGE 0) 0) u len
parts-no_language u len other none = record {
  accepted = λ is. absurd (none (length u) (whole_prefix u is));
  no_language = λ _ _. refl;
  no_subtag = λ _ why. (let bad = rw other at why in absurd (cc));
}

parts-no_room : (u t r : List ℕ) (len : ℕ) (w : TinystrResult) → length r ≡ 0 → IsLongestId u t r → w ≡ cond (nat_le (length t) len) (success (length t)) (failure NO_ROOM (length t)) → w.code ≢ OK → AnswersParts (no_parts w 0) u len
parts-no_room u t r len w none h written failed =
    let whole = whole_longest u t r none h in
    let less : nat_le (length t) len ≡ false = false_from_ne_true (nat_le (length t) len) λ fits. failed (ap (λ (w : TinystrResult). w.code) (rw fits at written)) in
    let told : w ≡ failure NO_ROOM (length t) = rw less at written in
    record {
      accepted = λ _. rw (← whole.1, less, told) refl;
      no_language = λ no _. absurd (no whole.0);
      no_subtag = λ no _. absurd (no whole.0);
    }

-- the longest identifier is a canonical text
pub canonical_longest : (u t r : List ℕ) → IsLongestId u t r → IsCanonical t
canonical_longest u t r h = rw h.text (IsCanonical-canonical_text (take h.end u) h.prefix.accepted)

-- how many subtags there are
abbrev pub one_if : Option (List ℕ) → ℕ
one_if None = 0
one_if (Some p) = 1

-- the subtags of a canonical text
pub count_of_subtags : (t : List ℕ) → IsCanonical t → length (subtags_of t) ≡ 1 + one_if (script_of t) + one_if (region_of t)
count_of_subtags t h =
    let l = fold_text (first_subtag t) in
    let ps = map canonical_subtag (subtags_after t) in
    let split = subtags_at_first_separator t in
    let all : (is_language l && is_tail (subtags_after t)) ≡ true = rw split at h.accepted in
    let is : is_language l ≡ true = grind arith in
    let tail = is_tail-canonical (subtags_after t) (grind arith) in
    let of : subtags_of (canonical_text t) ≡ l ∷ ps = rw split (subtags_of-join l ps (plain_subtags l ps is tail)) in
    rw (rw h.canonical at of) (grind (arith, no_script-from_region))

-- what the code makes of these
pub made_no_subtag : (u t r : List ℕ) (len : ℕ) (made : TinystrParts) → made ≡ no_parts (failure INVALID_SUBTAG (length u - length r + 1)) (length (subtags_of t)) → length r ≢ 0 → IsLongestId u t r
    → (made ≡ no_parts (failure INVALID_SUBTAG (length u - length r + 1)) (length (subtags_of t))) × AnswersParts made u len
made_no_subtag u t r len made is some h = (is, rw is (parts-no_subtag u t r len some h))

pub made_no_room : (u t r : List ℕ) (len : ℕ) (w : TinystrResult) (made : TinystrParts) → made ≡ no_parts w 0 → w ≡ cond (nat_le (length t) len) (success (length t)) (failure NO_ROOM (length t)) → w.code ≢ OK → length r ≡ 0 → IsLongestId u t r
    → (made ≡ no_parts w 0) × AnswersParts made u len
made_no_room u t r len w made is written failed none h = (is, rw is (parts-no_room u t r len w none h written failed))

pub no_longer : (u t r : List ℕ) → length r ≢ 0 → IsLongestId u t r → is_lang_id (subtags_of (fold_text u)) ≡ false
no_longer u t r some h = false_from_ne_true (is_lang_id (subtags_of (fold_text u))) (longer_input u t r some h)

pub ruleset longest_parts = (nat_tests, canonical_longest, no_longer, made_no_subtag, made_no_room)
