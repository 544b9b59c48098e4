-- The subtags of a canonical text.
use Rattle.std.specs.Prelude.{◌≡◌, ℕ, Bool, IsTrue, List, [], ◌∷◌, ◌++◌, drop, Option, None, Some}
use Rattle.std.specs.List.{find}
use Rattle.subtags.specs.Grammar.{dash, subtags_of, is_script, is_region}

-- the text of a language, a script or a region: well-formed, and as the case change leaves it
-- e.g. "Hant" as a script, in titlecase
pub record IsCanonicalSubtag (is_well_formed : List ℕ → Bool) (in_case : List ℕ → List ℕ) (t : List ℕ) : Type 0 where
  pub well_formed : IsTrue (is_well_formed t)
  pub canonical : in_case t ≡ t

-- the first part, or the empty text if there is none
abbrev pub first : List (List ℕ) → List ℕ
first [] = []
first (p ∷ ps) = p

-- the first subtag
-- e.g. of "zh-TW" it is "zh"
abbrev pub language_of : List ℕ → List ℕ
language_of t = first (subtags_of t)

-- the later subtag that is a script
-- e.g. of "zh-TW" it is None
abbrev pub script_of : List ℕ → Option (List ℕ)
script_of t = find is_script (drop 1 (subtags_of t))

-- the later subtag that is a region
-- e.g. of "zh-TW" it is Some "TW"
abbrev pub region_of : List ℕ → Option (List ℕ)
region_of t = find is_region (drop 1 (subtags_of t))

-- a dash and the subtag, or nothing
abbrev pub after_dash : Option (List ℕ) → List ℕ
after_dash None = []
after_dash (Some p) = dash ∷ p

-- the subtags, joined by dashes
-- e.g. of "zh", None and Some "TW" it is "zh-TW"
abbrev pub join_subtags : List ℕ → Option (List ℕ) → Option (List ℕ) → List ℕ
join_subtags language script region = language ++ (after_dash script ++ after_dash region)

-- the subtags without the last one, joined by dashes, or None if that is the language
abbrev pub join_but_last : List ℕ → Option (List ℕ) → Option (List ℕ) → Option (List ℕ)
join_but_last language None None = None
join_but_last language (Some script) None = Some language
join_but_last language script (Some region) = Some (join_subtags language script None)

-- the same of the subtags of a canonical text
-- e.g. of "zh-Hant-TW" it is Some "zh-Hant", and of "zh" None
abbrev pub parent_of : List ℕ → Option (List ℕ)
parent_of t = join_but_last (language_of t) (script_of t) (region_of t)
