-- How bytes hold a hashed table: a header of sixteen bytes, the pilots, the moves, and the records.
use Rattle.std.specs.Prelude.{◌≡◌, ◌≢◌, ℕ, zero, suc, ◌+◌, ◌*◌, ◌<◌, ◌≤◌, ◌==◌, ◌&&◌, nat_le, Bool, true, List, length, map, take, drop, All, Option, Some, None, if◌then◌else◌}
use Rattle.std.specs.List.{flat_map}
use Rattle.std.specs.Simd.{first_chunks}
use Rattle.tinystr.specs.Records.{RefusesRecords}
use Rattle.tinystr_words.specs.Packed.{IsPacked, is_packed}
use Rattle.tinystr_words.specs.Text.{IsStrictText, pad}
use Rattle.tinystr_words.specs.Words.{word}
use Rattle.tinystr_packed.specs.Reading.{texts_of}
use Rattle.tinystr_packed.specs.Rising.{text_at, is_rising}
use Rattle.tinystr_hashed.specs.Hashing.{start_of, place_in, AreOrdered, IsFirstOutOfOrder}
use Rattle.tinystr_hashed.specs.declared.table.HashedError.{HashedError}
use Rattle.tinystr_hashed.specs.declared.table.HashedError.TheVariants.{Header, Version, Index, Records, Place}

-- little-endian numbers of the header, of four bytes each: the version, the number of pilots, the number of moves, and the
-- seed
abbrev pub version_of : List ℕ → ℕ
version_of bytes = word (take 4 bytes)

abbrev pub pilot_count : List ℕ → ℕ
pilot_count bytes = word (take 4 (drop 4 bytes))

abbrev pub move_count : List ℕ → ℕ
move_count bytes = word (take 4 (drop 8 bytes))

abbrev pub seed_of : List ℕ → ℕ
seed_of bytes = word (take 4 (drop 12 bytes))

-- how many bytes the pilots and the moves have
abbrev pub index_size : List ℕ → ℕ
index_size bytes = pilot_count bytes + 4 * move_count bytes

-- the pilots are bytes
abbrev pub pilots_of : List ℕ → List ℕ
pilots_of bytes = take (pilot_count bytes) (drop 16 bytes)

-- the moves are little-endian numbers of four bytes each
abbrev pub moves_of : List ℕ → List ℕ
moves_of bytes = map word (first_chunks 4 (move_count bytes) (drop (16 + pilot_count bytes) bytes))

-- the records are the rest
abbrev pub records_in : List ℕ → List ℕ
records_in bytes = drop (16 + index_size bytes) bytes

-- the place of a text of at most n bytes among `count` texts
abbrev pub place_by : List ℕ → ℕ → ℕ → List ℕ → ℕ
place_by bytes n count t = place_in (start_of (seed_of bytes)) (pilots_of bytes) (moves_of bytes) n count t

-- the bytes have a header of version 1, all pilots and all moves
pub record IsWhole (bytes : List ℕ) : Type 0 where
  pub header : 16 ≤ length bytes
  pub version : version_of bytes ≡ 1
  pub index : 16 + index_size bytes ≤ length bytes

-- the bytes are a hashed table of these texts, of at most n bytes each: each text is at its place or, where there are no
-- pilots, above the one before it
pub record IsHashed (texts : List (List ℕ)) (bytes : List ℕ) (n : ℕ) : Type 0 where
  pub whole : IsWhole bytes
  pub strict : All (λ t. IsStrictText t n) texts
  pub joined : records_in bytes ≡ flat_map (λ t. pad t n) texts
  pub ordered : AreOrdered (pilots_of bytes) (place_by bytes n (length texts)) texts

-- what is checked, in this order: that there is a header, its version, that the pilots and the moves are there, the records,
-- and their order
abbrev pub RefusesHashed : HashedError → List ℕ → ℕ → Type 0
RefusesHashed (Header len) bytes n = (len ≡ length bytes) × (len < 16)
RefusesHashed (Version version) bytes n = (16 ≤ length bytes) × (version ≡ version_of bytes) × (version ≢ 1)
RefusesHashed (Index size len) bytes n =
    (version_of bytes ≡ 1) × (size ≡ index_size bytes) × (16 + len ≡ length bytes) × (len < size)
RefusesHashed (Records fault) bytes n = IsWhole bytes × RefusesRecords fault (records_in bytes) n
RefusesHashed (Place index) bytes n = IsWhole bytes × (packed : IsPacked (records_in bytes) n)
    × IsFirstOutOfOrder (pilots_of bytes) (place_by bytes n (length packed.texts)) packed.texts index

-- ---- the same, computed

-- that each of the first k texts is at its place
abbrev pub are_placed : (List ℕ → ℕ) → List (List ℕ) → ℕ → Bool
are_placed place texts zero = true
are_placed place texts (suc k) = place (text_at texts k) == k && are_placed place texts k

-- that texts are in the order of a table
abbrev pub are_ordered : List ℕ → (List ℕ → ℕ) → List (List ℕ) → Bool
are_ordered pilots place texts =
    if length pilots == 0 then is_rising texts else are_placed place texts (length texts)

-- the texts of bytes that may be a hashed table
abbrev pub hashed_texts : ℕ → List ℕ → List (List ℕ)
hashed_texts n bytes = texts_of n (records_in bytes)

-- that they are one
abbrev pub is_hashed : ℕ → List ℕ → Bool
is_hashed n bytes = nat_le 16 (length bytes) && version_of bytes == 1 && nat_le (16 + index_size bytes) (length bytes)
    && is_packed (records_in bytes) n
    && are_ordered (pilots_of bytes) (place_by bytes n (length (hashed_texts n bytes))) (hashed_texts n bytes)

-- the texts of a hashed table
abbrev pub hashed_table_of : ℕ → List ℕ → Option (List (List ℕ))
hashed_table_of n bytes = if is_hashed n bytes then Some (hashed_texts n bytes) else None
