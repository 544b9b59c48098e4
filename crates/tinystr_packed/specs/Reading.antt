-- What a table, a sorted table, a map and a map of texts are of bytes, computed.
use Rattle.std.specs.Prelude.{ℕ, ◌*◌, ◌==◌, ◌&&◌, Bool, List, length, map, zip, Option, Some, None, option_and_then, if◌then◌else◌}
use Rattle.tinystr_words.specs.Packed.{is_packed, records_of}
use Rattle.tinystr_words.specs.Text.{text_of}
use Rattle.tinystr_packed.specs.Rising.{is_rising}

-- the texts of the records of bytes, each of n bytes
abbrev pub texts_of : ℕ → List ℕ → List (List ℕ)
texts_of n bytes = map text_of (records_of n bytes)

-- these texts, where the bytes are packed
-- e.g. of 61 00 62 63 at 2 it is Some of "a" "bc"
abbrev pub table_of : ℕ → List ℕ → Option (List (List ℕ))
table_of n bytes = if is_packed bytes n then Some (texts_of n bytes) else None

-- texts, where they are strictly ascending
-- e.g. of "b" "a" it is None
abbrev pub sorted_of : List (List ℕ) → Option (List (List ℕ))
sorted_of texts = if is_rising texts then Some texts else None

-- the texts of bytes, where these are packed and the texts are strictly ascending
-- e.g. of 62 61 at 1 it is None
abbrev pub sorted_table_of : ℕ → List ℕ → Option (List (List ℕ))
sorted_table_of n bytes = option_and_then sorted_of (table_of n bytes)

-- whether the keys are packed and strictly ascending, and the values have m bytes for each
-- e.g. true of 61 00 and 07 at 2 and 1, and false at 2 and 2
abbrev pub are_packed : ℕ → ℕ → List ℕ → List ℕ → Bool
are_packed n m keys values =
    is_packed keys n && is_rising (texts_of n keys) && length values == length (texts_of n keys) * m

-- each key with its value, where they are
-- e.g. of 61 00 and 07 at 2 and 1 it is Some of "a" with 07
abbrev pub map_of : ℕ → ℕ → List ℕ → List ℕ → Option (List (List ℕ × List ℕ))
map_of n m keys values =
    if are_packed n m keys values then Some (zip (texts_of n keys) (records_of m values)) else None

-- each key with its text, where there is one text for each key
-- e.g. of "a" "b" and "c" it is None
abbrev pub entries_of : List (List ℕ) → List (List ℕ) → Option (List (List ℕ × List ℕ))
entries_of keys values = if length values == length keys then Some (zip keys values) else None

-- the same of bytes, where those of the keys are packed and strictly ascending, and those of the texts are packed
-- e.g. of 61 00 and 62 at 2 and 1 it is Some of "a" with "b"
abbrev pub text_map_of : ℕ → ℕ → List ℕ → List ℕ → Option (List (List ℕ × List ℕ))
text_map_of n m keys values =
    option_and_then (λ ks. option_and_then (entries_of ks) (table_of m values)) (sorted_table_of n keys)
