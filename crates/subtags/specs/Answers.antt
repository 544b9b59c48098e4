-- What the readers return, the identifiers that an input begins with, and the texts of the error.
use Rattle.std.specs.Prelude.{◌≡◌, ℕ, List, codes, Result, IsOk, IfOk, IfErr, ◌↔◌, if◌then◌else◌, ◌≤◌, ◌==◌, ◌||◌, Bool, IsTrue, length, get_or, take, drop}
use Rattle.std.specs.Result.{result_ok}
use Rattle.subtags.specs.declared.error.LangIdError.{LangIdError}
use Rattle.subtags.specs.declared.error.LangIdError.TheVariants.{InvalidLanguage, InvalidSubtag}
use Rattle.subtags.specs.Grammar.{fold_text, subtags_of, is_language, IsLangId, canonical_text, canonical_of, is_separator}
use Rattle.subtags.specs.Subtags.{first}

-- why an input is rejected: for its first subtag, or for what follows it
-- e.g. InvalidLanguage of "x", InvalidSubtag of "de-x"
abbrev pub refusal_of : List ℕ → LangIdError
refusal_of u = if is_language (first (subtags_of (fold_text u))) then InvalidSubtag else InvalidLanguage

-- the canonical text exactly of the language identifiers, and else the reason
-- e.g. of "DE" it is Ok "de"
pub record IsLangIdRead (u : List ℕ) (r : Result (List ℕ) LangIdError) : Type 0 where
  pub accepted : IsOk r ↔ IsLangId u
  pub text : IfOk r (λ t. t ≡ canonical_text u)
  pub refusal : IfErr r (λ e. e ≡ refusal_of u)
  pub value : result_ok r ≡ canonical_of u

-- the text of an error
abbrev pub message_of : LangIdError → List ℕ
message_of InvalidLanguage = codes "invalid language"
message_of InvalidSubtag = codes "invalid subtag"

-- a subtag of u ends at n: u ends there, or a separator is there
-- e.g. at 2, at 5 and at 10 of "de-AT-1996"
abbrev pub is_subtag_end : List ℕ → ℕ → Bool
is_subtag_end u n = n == length u || is_separator (get_or u n 0)

-- the first n bytes of u are a language identifier, and whole subtags
-- e.g. 2 and 5 of "de-AT-1996"
pub record IsIdPrefix (u : List ℕ) (n : ℕ) : Type 0 where
  pub inside : n ≤ length u
  pub whole : IsTrue (is_subtag_end u n)
  pub accepted : IsLangId (take n u)

-- t is the canonical text of the longest such prefix of u, and r is what follows it
-- e.g. "de-AT" and "-1996" of "DE_at-1996"
pub record IsLongestId (u t r : List ℕ) : Type 0 where
  pub end : ℕ
  pub prefix : IsIdPrefix u end
  pub longest : (n : ℕ) → IsIdPrefix u n → n ≤ end
  pub text : t ≡ canonical_text (take end u)
  pub rest : r ≡ drop end u
