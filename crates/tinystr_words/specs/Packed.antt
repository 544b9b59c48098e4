-- Packed records: padded texts, one after another.
use Rattle.std.specs.Prelude.{◌≡◌, ℕ, ◌*◌, ◌/◌, ◌%◌, ◌<◌, ◌==◌, ◌&&◌, Bool, List, length, take, drop, All}
use Rattle.std.specs.List.{flat_map, list_all}
use Rattle.std.specs.Simd.{first_chunks}
use Rattle.tinystr_words.specs.Text.{IsStrictText, IsPaddedText, pad, is_padded_text}

-- the bytes are the padded forms of some texts of at most n bytes
-- e.g. 61 00 62 63 at 2, of "a" and "bc"
pub record IsPacked (bytes : List ℕ) (n : ℕ) : Type 0 where
  pub texts : List (List ℕ)
  pub each : All (λ t. IsStrictText t n) texts
  pub joined : bytes ≡ flat_map (λ t. pad t n) texts

-- the n bytes of record i, counted from 0
-- e.g. of these at 2, record 1 is 62 63
abbrev pub record_at : ℕ → List ℕ → ℕ → List ℕ
record_at n bytes i = take n (drop (i * n) bytes)

-- the records of bytes, in order, each of n bytes
-- e.g. of these at 2, 61 00 and 62 63
abbrev pub records_of : ℕ → List ℕ → List (List ℕ)
records_of n bytes = first_chunks n (length bytes / n) bytes

-- that the bytes are packed, as a test that computes
-- e.g. true of these at 2, and false at 3
abbrev pub is_packed : List ℕ → ℕ → Bool
is_packed bytes n = length bytes % n == 0 && list_all (λ raw. is_padded_text raw n) (records_of n bytes)

-- record i is the first that isn't a padded text
-- e.g. 1 in 61 00 00 62 at 2
pub record IsFirstBad (bytes : List ℕ) (n i : ℕ) : Type 0 where
  pub inside : i * n < length bytes
  pub bad : ¬ IsPaddedText (record_at n bytes i) n
  pub before : (k : ℕ) → k < i → IsPaddedText (record_at n bytes k) n
