-- The first subtag of an input.
use Rattle.std.proofs.Common.{cond, ◌≡◌, ◌≢◌, ◌≤◌, ℕ, Bool, not, ◌==◌, true, false, ◌&&◌, List, length, take, refl, sym, ap, ◌∙◌, arith}
use Rattle.std.specs.List.{list_all, prefix_len, position_or_len}
use Rattle.std.proofs.lemmas.Bool.{false≢true, false_from_ne_true}
use Rattle.std.proofs.lemmas.Bool.Decides.{nat_tests}
use Rattle.std.proofs.lemmas.List.{take_all}
use Rattle.std.proofs.lemmas.List.Folds.{length-prefix_len}
use Rattle.std.proofs.lemmas.List.Sums.{prefix_len_is, prefix_len_passes, prefix_len-le-length, AllPass-from_list_all, list_all-from_AllPass}
use Rattle.tinystr.specs.Classes.{is_alphabetic}
use Rattle.subtags.proofs.FoldLemmas.{is_language-fold_text, IsCanonicalSubtag-lowercase}
use Rattle.subtags.proofs.CanonLemmas.{subtags_at_first_separator}
use Rattle.subtags.specs.Grammar.{is_separator, is_language, is_language_length}
use Rattle.subtags.specs.Answers.{refusal_of}
use Rattle.subtags.specs.declared.error.LangIdError.TheVariants.{InvalidLanguage, InvalidSubtag}
use Rattle.subtags.specs.Private.{first_subtag}

pub length-first_subtag : (u : List ℕ) → length (first_subtag u) ≡ position_or_len is_separator u
length-first_subtag u = length-prefix_len (λ b. not (is_separator b)) u

-- it is a language where it is letters, in a number that a language may have
pub is_language-first_subtag : (u : List ℕ) (n : ℕ) → n ≡ position_or_len is_separator u → is_language (first_subtag u) ≡ (list_all is_alphabetic (take n u) && is_language_length n)
is_language-first_subtag u n is = rw (length-first_subtag u, ← is) refl

pub end-le : (u : List ℕ) → position_or_len is_separator u ≤ length u
end-le u = prefix_len-le-length (λ b. not (is_separator b)) u

pub letters_few : (n : ℕ) → is_language_length n ≡ true → n ≤ 8
letters_few n size = grind (arith, nat_tests)

pub refusal_by_language : (u : List ℕ) → refusal_of u ≡ cond (is_language (first_subtag u)) InvalidSubtag InvalidLanguage
refusal_by_language u = rw (subtags_at_first_separator u, is_language-fold_text (first_subtag u)) refl

pub ruleset first_subtag_bits = (refusal_by_language, is_language-first_subtag, end-le)

-- ---- a language alone, read by its first letters

-- all bytes of a language are letters
pub no_language : (u : List ℕ) (n : ℕ) → n ≡ prefix_len is_alphabetic (take 8 u) → (n ≡ length u → is_language_length n ≡ false) → is_language u ≡ false
no_language u n is wrong = false_from_ne_true (is_language u) λ h.
    let right : is_language_length (length u) ≡ true = grind arith in
    let few = letters_few (length u) right in
    let letters = AllPass-from_list_all is_alphabetic u (grind arith) in
    let all : n ≡ length u = is ∙ rw (take_all 8 u few) (prefix_len_is is_alphabetic u (length u) 0 (omega arith) (λ k below. letters k 0 below) (λ more. absurd (omega arith))) in
    false≢true (sym (wrong all) ∙ ap is_language_length all ∙ right)

pub whole_language : (u : List ℕ) (n : ℕ) → n ≡ prefix_len is_alphabetic (take 8 u) → is_language_length n ≡ true → n ≡ length u → is_language u ≡ true
whole_language u n is right len =
    let few : length u ≤ 8 = grind (arith, nat_tests) in
    let whole : prefix_len is_alphabetic u ≡ length u = ap (prefix_len is_alphabetic) (sym (take_all 8 u few)) ∙ sym is ∙ len in
    rw (list_all-from_AllPass is_alphabetic u (λ k d below. prefix_len_passes is_alphabetic u k d (omega (arith, whole, below))), ← len, right) refl

pub ruleset language_read = (no_language, whole_language, take_all, IsCanonicalSubtag-lowercase, nat_tests)
