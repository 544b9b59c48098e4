-- The words of private functions and of hidden modules. No public contract has one of them.
pub mod RecordLists
use Rattle.std.specs.Prelude.{◌≡◌, ◌<◌, ◌≤◌, ℕ, suc, ◌+◌, List, length, get_or, take, drop, ◌-◌, Bool, not, map, slice_index, MatchBool}
use Rattle.std.specs.Int.{is_in_range}
use Rattle.tinystr_words.specs.Text.{IsPadded, pad, text_of, IsText, IsTextByte}
use Rattle.tinystr_words.specs.declared.padded.Width.{Width}
use Rattle.tinystr_words.specs.declared.padded.Width.TheVariants.{Four, Eight, Sixteen, Many}
use Rattle.tinystr_words.specs.declared.kernel.Range.{Range}
use Rattle.tinystr_words.specs.Reading.{lossy_byte}

-- the narrowest word that holds n bytes, or none
abbrev pub IsWidthOf : Width → ℕ → Type 0
IsWidthOf Four n = n ≤ 4
IsWidthOf Eight n = (4 < n) × (n ≤ 8)
IsWidthOf Sixteen n = (8 < n) × (n ≤ 16)
IsWidthOf Many n = 16 < n

-- the text of the first sixteen bytes, and the bytes after them
pub record IsFirstWord (bytes word others : List ℕ) : Type 0 where
  pub word_text : word ≡ take 16 (text_of bytes)
  pub others_text : text_of others ≡ drop 16 (text_of bytes)
  pub padded : IsPadded others
  pub len : length others + 16 ≡ length bytes

-- sixteen bytes of a list, from `at` on, with NULs where it ends
abbrev pub sixteen_from : List ℕ → ℕ → List ℕ
sixteen_from bytes at = pad (take 16 (drop at bytes)) 16

-- `count` bytes from `start` on are below 128, and another NUL follows each NUL among them
abbrev pub ArePaddedFrom : List ℕ → ℕ → ℕ → Type 0
ArePaddedFrom bytes start count = (k : ℕ) → start ≤ k → k < start + count →
    (get_or bytes k 0 < 128) × (get_or bytes k 0 ≡ 0 → get_or bytes (suc k) 0 ≡ 0)

-- whether a byte is in a range, which is given by what sets its high bit: from the first byte on, and past the last
abbrev pub is_in : Range → ℕ → Bool
is_in r b = is_in_range (0x80 - r.low) (0x7f - r.high) b

abbrev pub is_not_in : Range → ℕ → Bool
is_not_in r b = not (is_in r b)

-- the byte at k is the code unit there; past their ends both are 0
abbrev pub IsSame : List ℕ → List ℕ → ℕ → Type 0
IsSame bytes units k = slice_index bytes k ≡ slice_index units k

-- Places i to j - 1 now hold the code units, with r for each non-character; the places that held theirs before still
-- do. If `are_characters` is true, the code units from i to j - 1 are characters. If it is false, some code unit isn't one.
pub record IsReadPiece (are_characters : Bool) (old bytes units : List ℕ) (r i j : ℕ) : Type 0 where
  pub tested : MatchBool are_characters ((k : ℕ) → i ≤ k → k < j → IsTextByte (slice_index units k)) (¬ IsText units)
  pub read : (k : ℕ) → i ≤ k → k < j → IsSame bytes (map (lossy_byte r) units) k
  pub kept : (k : ℕ) → IsSame old (map (lossy_byte r) units) k → IsSame bytes (map (lossy_byte r) units) k
