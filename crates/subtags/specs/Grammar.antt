-- Language identifiers, the fold that distinguishes them, and their canonical texts.
use Rattle.std.specs.Prelude.{◌≡◌, ℕ, ◌==◌, Bool, true, false, ◌&&◌, ◌||◌, if◌then◌else◌, IsTrue, List, [], ◌∷◌, length, map, Option, Some, None}
use Rattle.std.specs.Int.{is_in_range}
use Rattle.std.specs.List.{list_all, slice_split, join_with_byte}
use Rattle.tinystr.specs.Classes.{is_alphabetic, is_digit}
use Rattle.tinystr.specs.Case.{lower, titlecase, uppercase}

-- '-'
abbrev pub dash : ℕ
dash = 0x2D

-- '_'
abbrev pub underscore : ℕ
underscore = 0x5F

-- a dash or an underscore
abbrev pub is_separator : ℕ → Bool
is_separator b = b == dash || b == underscore

-- '-' for '_', and a letter in lowercase
abbrev pub fold_byte : ℕ → ℕ
fold_byte b = if b == underscore then dash else lower b

-- a text folded
-- e.g. of "De_AT" it is "de-at"
abbrev pub fold_text : List ℕ → List ℕ
fold_text u = map fold_byte u

-- the parts before, between and after the dashes
-- e.g. of "de-at" they are "de" and "at"
abbrev pub subtags_of : List ℕ → List (List ℕ)
subtags_of u = slice_split (λ b. b == dash) u

-- 2, 3 or 5 to 8
abbrev pub is_language_length : ℕ → Bool
is_language_length n = n == 2 || n == 3 || is_in_range 5 8 n

-- that many letters
-- e.g. "de"
abbrev pub is_language : List ℕ → Bool
is_language p = list_all is_alphabetic p && is_language_length (length p)

-- 4 letters
-- e.g. "latn"
abbrev pub is_script : List ℕ → Bool
is_script p = list_all is_alphabetic p && length p == 4

-- 2 letters or 3 digits
-- e.g. "at" and "419"
abbrev pub is_region : List ℕ → Bool
is_region p = (list_all is_alphabetic p && length p == 2) || (list_all is_digit p && length p == 3)

-- nothing, a script, a region, or a script and a region
abbrev pub is_tail : List (List ℕ) → Bool
is_tail [] = true
is_tail (p ∷ []) = is_script p || is_region p
is_tail (s ∷ r ∷ []) = is_script s && is_region r
is_tail (s ∷ r ∷ p ∷ ps) = false

-- a language and such a tail
abbrev pub is_lang_id : List (List ℕ) → Bool
is_lang_id [] = false
is_lang_id (l ∷ ps) = is_language l && is_tail ps

-- a language identifier, in any case and with either separator
-- e.g. "zh_hANT_tw", but not "zh-tw-hant"
abbrev pub IsLangId : List ℕ → Type 0
IsLangId u = IsTrue (is_lang_id (subtags_of (fold_text u)))

-- a script in titlecase, a region in uppercase
abbrev pub canonical_subtag : List ℕ → List ℕ
canonical_subtag p = if is_script p then titlecase p else uppercase p

-- the language stays as it was folded
abbrev pub canonical_subtags : List (List ℕ) → List (List ℕ)
canonical_subtags [] = []
canonical_subtags (l ∷ ps) = l ∷ map canonical_subtag ps

-- the canonical subtags, joined by dashes
-- e.g. of "zh_hANT_tw" it is "zh-Hant-TW"
abbrev pub canonical_text : List ℕ → List ℕ
canonical_text u = join_with_byte dash (canonical_subtags (subtags_of (fold_text u)))

-- the canonical text, where the input is a language identifier
-- e.g. of "x" it is None
abbrev pub canonical_of : List ℕ → Option (List ℕ)
canonical_of u = if is_lang_id (subtags_of (fold_text u)) then Some (canonical_text u) else None

-- a text that is accepted, and is its own canonical text: what a LangId holds
-- e.g. "zh-Hant-TW", but not "zh-hant-tw"
pub record IsCanonical (t : List ℕ) : Type 0 where
  pub accepted : IsLangId t
  pub canonical : canonical_text t ≡ t
