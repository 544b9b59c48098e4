-- What the exports answer of language identifiers, and what they write.
use Rattle.std.specs.Prelude.{◌≡◌, ℕ, ◌+◌, nat_le, Bool, if◌then◌else◌, List, length, Option, Some, None}
use Rattle.subtags.specs.Answers.{refusal_of, IsLongestId}
use Rattle.subtags.specs.Grammar.{is_lang_id, fold_text, subtags_of, canonical_text, IsLangId}
use Rattle.subtags.specs.Subtags.{language_of, script_of, region_of, after_dash}
use Rattle.subtags.specs.declared.error.LangIdError.{LangIdError}
use Rattle.subtags.specs.declared.error.LangIdError.TheVariants.{InvalidLanguage, InvalidSubtag}
use Rattle.tinystr_words.specs.Text.{pad}
use Rattle.tinystr_c.specs.Codes.{OK, INVALID_LANGUAGE, INVALID_SUBTAG, NO_ROOM, success, failure, no_parts}
use Rattle.tinystr_c.specs.declared.answer.TinystrParts.{TinystrParts}
use Rattle.tinystr_c.specs.declared.answer.TinystrResult.{TinystrResult}

abbrev pub is_langid : List ℕ → Bool
is_langid u = is_lang_id (subtags_of (fold_text u))

-- why it is none
-- e.g. of InvalidSubtag it is failure INVALID_SUBTAG 0
abbrev pub langid_fault : LangIdError → TinystrResult
langid_fault InvalidLanguage = failure INVALID_LANGUAGE 0
langid_fault InvalidSubtag = failure INVALID_SUBTAG 0

-- the length of the canonical text, where it is a language identifier, and whether it is at most `len`; else why it is none,
-- whatever `len` is
-- e.g. of "de_at" and 6 it is success 5
abbrev pub langid_answer : List ℕ → ℕ → TinystrResult
langid_answer u len =
    if is_langid u
    then (if nat_le (length (canonical_text u)) len then success (length (canonical_text u)) else failure NO_ROOM (length (canonical_text u)))
    else langid_fault (refusal_of u)

-- what `out` has then: the canonical text and NULs, or what it had
-- e.g. of "de_at", 6 bytes are "de-AT" and a NUL
abbrev pub langid_bytes : List ℕ → List ℕ → List ℕ
langid_bytes u old =
    if is_langid u
    then (if nat_le (length (canonical_text u)) (length old) then pad (canonical_text u) (length old) else old)
    else old

-- ---- the places of the subtags

-- the length of a subtag, and where it begins after some bytes and a dash; 0 if there is none
abbrev pub subtag_len : Option (List ℕ) → ℕ
subtag_len None = 0
subtag_len (Some p) = length p

abbrev pub subtag_start : ℕ → Option (List ℕ) → ℕ
subtag_start before None = 0
subtag_start before (Some p) = before + 1

-- the places in a canonical text, which is its language, its script and its region, joined by dashes
-- e.g. of "zh-TW" the language has 2 bytes, and the region 2 from byte 3 on
abbrev pub parts_of : List ℕ → TinystrParts
parts_of t = record {
  value = length t;
  code = OK;
  detail = 0;
  subtag = 0;
  language_len = length (language_of t);
  script_start = subtag_start (length (language_of t)) (script_of t);
  script_len = subtag_len (script_of t);
  region_start = subtag_start (length (language_of t) + length (after_dash (script_of t))) (region_of t);
  region_len = subtag_len (region_of t);
}

-- the places in the canonical text, if it has at most `len` bytes; or that the first subtag is no language; or the first subtag
-- that can't follow those before it: these are the longest identifier that the input begins with, and a separator is between
-- e.g. of "en-us-posix" it is subtag 2, from byte 6 on
pub record AnswersParts (r : TinystrParts) (u : List ℕ) (len : ℕ) : Type 0 where
  pub accepted : IsLangId u → r ≡ (if nat_le (length (canonical_text u)) len then parts_of (canonical_text u) else no_parts (failure NO_ROOM (length (canonical_text u))) 0)
  pub no_language : ¬ IsLangId u → refusal_of u ≡ InvalidLanguage → r ≡ no_parts (failure INVALID_LANGUAGE 0) 0
  pub no_subtag : ¬ IsLangId u → refusal_of u ≡ InvalidSubtag
      → (id : List ℕ) × (rest : List ℕ) × (longest : IsLongestId u id rest) × (r ≡ no_parts (failure INVALID_SUBTAG (longest.end + 1)) (length (subtags_of id)))
