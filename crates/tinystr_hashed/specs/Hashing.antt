-- The place of a record in a hashed table.
use Rattle.std.specs.Prelude.{◌≡◌, ◌≢◌, ◌<◌, ℕ, ◌+◌, ◌-◌, ◌*◌, ◌/◌, ◌%◌, ◌^◌, List, length, take, drop, slice_index_or, nat_lt, bit_xor, fold, AllPairs, if◌then◌else◌}
use Rattle.std.specs.Simd.{first_chunks}
use Rattle.tinystr_words.specs.Text.{pad}
use Rattle.tinystr_words.specs.Words.{word}
use Rattle.tinystr_packed.specs.Rising.{text_at, IsRising, IsFirstFall}

-- the two halves of a product of 128 bits, as one number of 64 bits
abbrev pub folded : ℕ → ℕ → ℕ
folded a b = bit_xor (a * b % 2 ^ 64) (a * b / 2 ^ 64)

-- a hash, and at most sixteen bytes more: the first eight and the rest are little-endian numbers
unfoldable pub hash_on : ℕ → List ℕ → ℕ
hash_on hash piece = folded (bit_xor hash (word (take 8 piece))) (bit_xor hash (bit_xor 0x9e37_79b9_7f4a_7c15 (word (drop 8 piece))))

-- the number that hashes begin with, by the seed
abbrev pub start_of : ℕ → ℕ
start_of seed = seed * 0x2545_f491_4f6c_dd1d % 2 ^ 64

-- the hash of a record: that of its bytes, sixteen at a time, after the start
abbrev pub hash_of : ℕ → List ℕ → ℕ
hash_of start raw = fold hash_on start (first_chunks 16 ((length raw + 15) / 16) raw)

-- a hash scaled to a number of pilots or of slots
abbrev pub scaled : ℕ → ℕ → ℕ
scaled hash count = hash * count / 2 ^ 64

-- the pilot of a hash, 0 where there are none
abbrev pub pilot_of : List ℕ → ℕ → ℕ
pilot_of pilots hash = slice_index_or pilots (scaled hash (length pilots)) 0

-- the slot of a hash among `slots` slots, by its pilot
unfoldable pub slot_of : ℕ → ℕ → ℕ → ℕ
slot_of hash pilot slots = scaled (hash * 0xe703_7ed1_a0b4_28db * pilot % 2 ^ 64) slots

-- the place of a slot among `count` records: that of a slot past them is a move
abbrev pub place_of_slot : List ℕ → ℕ → ℕ → ℕ
place_of_slot moves count slot =
    if nat_lt slot count then slot else slice_index_or moves (slot - count) count

-- the place of a hash among `count` records
unfoldable pub place_of_hash : List ℕ → List ℕ → ℕ → ℕ → ℕ
place_of_hash pilots moves count hash =
    place_of_slot moves count (slot_of hash (pilot_of pilots hash) (count + length moves))

-- the place of a record among `count` records
abbrev pub place_of : ℕ → List ℕ → List ℕ → ℕ → List ℕ → ℕ
place_of start pilots moves count raw = place_of_hash pilots moves count (hash_of start raw)

-- the place of a text, as a record of n bytes
abbrev pub place_in : ℕ → List ℕ → List ℕ → ℕ → ℕ → List ℕ → ℕ
place_in start pilots moves n count t = place_of start pilots moves count (pad t n)

-- each of these is at its place
abbrev pub ArePlaced : (List ℕ → ℕ) → List (List ℕ) → Type 0
ArePlaced place texts = (i : ℕ) → i < length texts → place (text_at texts i) ≡ i

-- the one at i is the first that isn't
pub record IsFirstMisplaced (place : List ℕ → ℕ) (texts : List (List ℕ)) (i : ℕ) : Type 0 where
  pub inside : i < length texts
  pub misplaced : place (text_at texts i) ≢ i
  pub before : (k : ℕ) → k < i → place (text_at texts k) ≡ k

-- in the order of a table: each is at its place or, where there are no pilots, is above the one before it
pub record AreOrdered (pilots : List ℕ) (place : List ℕ → ℕ) (texts : List (List ℕ)) : Type 0 where
  pub placed : 0 < length pilots → ArePlaced place texts
  pub rising : length pilots ≡ 0 → IsRising texts

-- the one at i is the first that isn't at its place or, where there are no pilots, isn't above the one before it
pub record IsFirstOutOfOrder (pilots : List ℕ) (place : List ℕ → ℕ) (texts : List (List ℕ)) (i : ℕ) : Type 0 where
  pub misplaced : 0 < length pilots → IsFirstMisplaced place texts i
  pub falls : length pilots ≡ 0 → IsFirstFall texts i

-- no two texts are equal
abbrev pub AreDistinct : List (List ℕ) → Type 0
AreDistinct texts = AllPairs (λ t s. t ≢ s) texts
