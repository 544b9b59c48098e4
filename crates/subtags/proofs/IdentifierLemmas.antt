-- An identifier is read from its first 17 bytes.
use Rattle.std.proofs.Common.{not, zero, min, inl, inr, suc, ◌≡◌, ◌+◌, ◌-◌, ◌<◌, ◌≤◌, ◌&&◌, ℕ, Bool, true, false, List, [], ◌∷◌, length, map, take, get_or, None, refl, sym, ap, ◌∙◌, cond, arith}
use Rattle.std.proofs.Math.Bool.{and-false}
use Rattle.std.proofs.Math.Numerals.{one-add}
use Rattle.std.specs.List.{All, list_all, join_with_byte, position_or_len}
use Rattle.std.proofs.lemmas.Bool.{cases_lt, false_from_ne_true, false≢true}
use Rattle.std.proofs.lemmas.Bool.Decides.{nat_tests}
use Rattle.std.specs.Str.{IsCharBoundary}
use Rattle.std.proofs.lemmas.Str.{IsCharBoundary-before_ascii}
use Rattle.std.proofs.lemmas.List.{take_all, length-take, length-take-le, length-drop}
use Rattle.std.proofs.lemmas.List.Elements.{All-append, All-cons}
use Rattle.tinystr.specs.Classes.{is_alphabetic, is_alphanumeric}
use Rattle.subtags.specs.Grammar.{dash, is_separator, is_language, is_language_length, is_tail, fold_text, subtags_of, is_lang_id, IsLangId, canonical_subtag, canonical_text, canonical_of}
use Rattle.subtags.specs.declared.error.LangIdError.TheVariants.{InvalidLanguage, InvalidSubtag}
use Rattle.subtags.specs.Answers.{refusal_of, is_subtag_end, IsIdPrefix, IsLongestId}
use Rattle.subtags.specs.Private.{first_subtag}
use Rattle.subtags.proofs.CanonLemmas.{IsCanonical-canonical_text, fold_text-canonical_text, is_tail-canonical, plain_subtags, subtags_after, subtags_at_first_separator, subtags_of-alphanumeric}
use Rattle.subtags.proofs.FoldLemmas.{All-from_list_all, is_language-fold_text, alphanumeric-fold_text, alphanumeric-from_letters}
use Rattle.subtags.proofs.HeadLemmas.{letters_few, refusal_by_language, length-first_subtag, end-le}
use Rattle.subtags.proofs.TailLemmas.{few_id, short_id}
use Rattle.std.proofs.lemmas.List.Sums.{prefix_len_passes, prefix_len_stops}
use Rattle.subtags.specs.Subtags.{first}

-- the first subtag of the first n bytes is cut there
pub first_subtag-take : (n : ℕ) (u : List ℕ) → first_subtag (take n u) ≡ take n (first_subtag u)
first_subtag-take zero u = refl
first_subtag-take (suc n) [] = refl
first_subtag-take (suc n) (b ∷ u) = step (not (is_separator b)) _ _ (first_subtag-take n u) where
  step : (go : Bool) (k m : ℕ) → take k (take n u) ≡ take n (take m u) → take (cond go (1 + k) 0) (b ∷ take n u) ≡ take (suc n) (take (cond go (1 + m) 0) (b ∷ u))
  step true k m rest = rw (one-add k, one-add m) (ap (λ (l : List ℕ). b ∷ l) rest)
  step false k m rest = refl

long_is_no_language : (n : ℕ) → 8 < n → is_language_length n ≡ false
long_is_no_language n long = grind (arith, nat_tests)

-- it is a language in the first 17 bytes exactly if it is one
pub language-take : (u : List ℕ) → is_language (first_subtag (take 17 u)) ≡ is_language (first_subtag u)
language-take u = rw (first_subtag-take 17 u) (elim (cases_lt 8 (length (first_subtag u))) [
  | inl long ↦ rw (long_is_no_language (length (take 17 (first_subtag u))) (omega (arith, length-take 17 (first_subtag u))), long_is_no_language (length (first_subtag u)) long) (simp and-false)
  | inr few ↦ rw (take_all 17 (first_subtag u) (omega arith)) refl
])

-- what is so of letters, digits and dashes is so of all bytes of a canonical text
All-join : (P : ℕ → Type 0) → ((b : ℕ) → is_alphanumeric b ≡ true → P b) → P dash → (p : List ℕ) (ps : List (List ℕ)) → list_all (list_all is_alphanumeric) (p ∷ ps) ≡ true → All P (join_with_byte dash (p ∷ ps))
All-join P each one p [] plain = All-from_list_all is_alphanumeric P each p (grind arith)
All-join P each one p (q ∷ ps) plain =
    All-append P p (dash ∷ join_with_byte dash (q ∷ ps)) (All-from_list_all is_alphanumeric P each p (grind arith))
    (All-cons P dash (join_with_byte dash (q ∷ ps)) one (All-join P each one q ps (grind arith)))

pub All-canonical_text : (P : ℕ → Type 0) → ((b : ℕ) → is_alphanumeric b ≡ true → P b) → P dash → (u : List ℕ) → IsLangId u → All P (canonical_text u)
All-canonical_text P each one u h =
    let l = fold_text (first_subtag u) in
    let ps = subtags_after u in
    let split = subtags_at_first_separator u in
    let all : (is_language l && is_tail ps) ≡ true = rw split at h in
    rw split (All-join P each one l (map canonical_subtag ps) (plain_subtags l (map canonical_subtag ps) (grind arith) (is_tail-canonical ps (grind arith))))

-- ---- letters alone

letters_alone : (u : List ℕ) → list_all is_alphabetic u ≡ true → subtags_of (fold_text u) ≡ fold_text u ∷ []
letters_alone u letters = subtags_of-alphanumeric (fold_text u) (alphanumeric-fold_text u ∙ alphanumeric-from_letters u letters)

pub letters_id : (u : List ℕ) → list_all is_alphabetic u ≡ true → is_lang_id (subtags_of (fold_text u)) ≡ is_language_length (length u)
letters_id u letters = rw (letters_alone u letters, is_language-fold_text u, letters) (grind arith)

pub letters_text : (u : List ℕ) → list_all is_alphabetic u ≡ true → fold_text u ≡ canonical_text u
letters_text u letters = rw (letters_alone u letters) refl

pub letters_refusal : (u : List ℕ) → list_all is_alphabetic u ≡ true → is_language_length (length u) ≡ false → refusal_of u ≡ InvalidLanguage
letters_refusal u letters wrong = rw (letters_alone u letters, is_language-fold_text u, letters, wrong) refl

pub no_id : (u : List ℕ) → ¬ IsLangId u → None ≡ canonical_of u
no_id u fails = let is = false_from_ne_true (is_lang_id (subtags_of (fold_text u))) fails in rw is refl

-- ---- more bytes than an identifier has

pub more_refused : (u : List ℕ) → 17 < length u → canonical_of u ≡ None
more_refused u more =
    sym (no_id u (λ h. absurd (omega (arith, more, few_id u h, short_id u h))))

pub ruleset reading = (letters_id, letters_text, letters_refusal, letters_few, fold_text-canonical_text, IsCanonical-canonical_text, take_all)

pub ruleset refused_more = (language-take, refusal_by_language, more_refused)

-- ---- identifiers that an input begins with

pub prefix_fits : (u : List ℕ) (n : ℕ) → IsIdPrefix u n → n ≤ 17
prefix_fits u n p = omega (arith, few_id (take n u) p.accepted, short_id (take n u) p.accepted, length-take-le n u p.inside)

-- none is empty
pub prefix_some : (u : List ℕ) (n : ℕ) → IsIdPrefix u n → 0 < n
prefix_some u zero p = absurd (false≢true p.accepted)
prefix_some u (suc n) p = omega arith

-- no subtag ends before the first
first_end : (u : List ℕ) (n : ℕ) → n ≤ length u → is_subtag_end u n ≡ true → position_or_len is_separator u ≤ n
first_end u n inside whole = elim (cases_lt n (position_or_len is_separator u)) [
  | inl before ↦ (let plain = prefix_len_passes (λ b. not (is_separator b)) u n 0 before in let last = end-le u in absurd (grind (arith, nat_tests)))
  | inr after ↦ after
]

-- whole subtags begin with the first one of the input
first_of_whole : (u : List ℕ) (n : ℕ) → n ≤ length u → is_subtag_end u n ≡ true → is_language (first (subtags_of (fold_text (take n u)))) ≡ is_language (first (subtags_of (fold_text u)))
first_of_whole u n inside whole =
    let few : length (first_subtag u) ≤ n = omega (arith, length-first_subtag u, first_end u n inside whole) in
    let same : first_subtag (take n u) ≡ first_subtag u = first_subtag-take n u ∙ take_all n (first_subtag u) few in
    rw (subtags_at_first_separator u, subtags_at_first_separator (take n u), same) refl

-- the first subtag of an input that begins with an identifier is a language
pub prefix_language : (u : List ℕ) (n : ℕ) → IsIdPrefix u n → is_language (first (subtags_of (fold_text u))) ≡ true
prefix_language u n p =
    let split = subtags_at_first_separator (take n u) in
    let all : (is_language (fold_text (first_subtag (take n u))) && is_tail (subtags_after (take n u))) ≡ true = rw split at p.accepted in
    let same = first_of_whole u n p.inside p.whole in
    sym same ∙ rw split (grind arith)

-- if whole subtags are rejected for their first one, that of the input is no language
pub language_rejected : (u : List ℕ) (n : ℕ) → n ≤ length u → is_subtag_end u n ≡ true → refusal_of (take n u) ≡ InvalidLanguage → is_language (first (subtags_of (fold_text u))) ≡ false
language_rejected u n inside whole why = let same = first_of_whole u n inside whole in sym same ∙ no_language (is_language (first (subtags_of (fold_text (take n u))))) why where
  no_language : (b : Bool) → cond b InvalidSubtag InvalidLanguage ≡ InvalidLanguage → b ≡ false
  no_language true h = cc
  no_language false h = refl

-- a language that an input begins with is such a prefix
pub language_prefix : (u : List ℕ) → is_language (first (subtags_of (fold_text u))) ≡ true → IsIdPrefix u (position_or_len is_separator u)
language_prefix u h =
    let e = position_or_len is_separator u in
    let inside = end-le u in
    let size = length-take-le e u inside in
    let same : first_subtag (take e u) ≡ take e u = first_subtag-take e u ∙ take_all e (take e u) (omega arith) in
    let alone : position_or_len is_separator (take e u) ≡ length (take e u) = sym (length-first_subtag (take e u)) ∙ ap (λ (l : List ℕ). length l) same in
    let language : is_language (first_subtag u) ≡ true = sym (is_language-fold_text (first_subtag u)) ∙ rw (subtags_at_first_separator u) at h in
    record {
      inside = inside;
      whole = elim (cases_lt e (length u)) [
        | inl before ↦ (let stop = prefix_len_stops (λ b. not (is_separator b)) u 0 before in grind (arith, nat_tests))
        | inr after ↦ (let last : e ≡ length u = omega arith in grind (arith, nat_tests))
      ];
      accepted = rw (subtags_at_first_separator (take e u), same, is_language-fold_text (take e u), alone) (grind (arith, nat_tests));
    }

pub ruleset prefixes = (prefix_fits, prefix_language)

separator_below : (b : ℕ) → is_separator b ≡ true → b < 128
separator_below b is = grind (arith, nat_tests)

at_separator : (u : List ℕ) (n : ℕ) → n < length u → is_subtag_end u n ≡ true → is_separator (get_or u n 0) ≡ true
at_separator u n inside end = grind (arith, nat_tests)

-- the rest begins at a separator, or is empty, so it is the end of a text
pub rest_after_whole : (u t r : List ℕ) → IsLongestId u t r → IsCharBoundary u (length u - length r)
rest_after_whole u t r p =
    let n = p.end in
    let inside = p.prefix.inside in
    let place : length u - length r ≡ n = rw p.rest (omega (arith, length-drop n u, inside)) in
    rw place (elim (cases_lt n (length u)) [
      | inl before ↦ IsCharBoundary-before_ascii u n before (separator_below (get_or u n 0) (at_separator u n before p.prefix.whole))
      | inr after ↦ (inside, λ before. absurd (omega (arith, before, after)))
    ])

pub ruleset rest_is_text = (rest_after_whole)
