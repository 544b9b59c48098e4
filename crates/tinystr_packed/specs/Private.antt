-- The words of private functions. Of what is public, only the invariant of `BinarySearchEach` has some of them: `AreReady`
-- and `IsLast`.
use Rattle.std.specs.Prelude.{◌≡◌, ◌≢◌, ℕ, ◌+◌, ◌-◌, ◌*◌, ◌^◌, ◌<◌, ◌≤◌, List, length, take, drop, min, slice_index_or, map, slice_index, All, IfOk, IfErr}
use Rattle.std.specs.Int.{from_be_bytes, w64}
use Rattle.std.specs.declared.cmp.Ordering.TheVariants.{Less}
use Rattle.std.specs.declared.result.Result.{Result}
use Rattle.std.specs.declared.result.Result.TheVariants.{Ok}
use Rattle.tinystr_words.specs.Text.{pad, IsPaddedText, text_of}
use Rattle.tinystr_packed.specs.Rising.{order, text_at, IsRising, search_result}

-- a record of n bytes
pub record IsRecord (n : ℕ) (raw : List ℕ) : Type 0 where
  pub long : length raw ≡ n
  pub bytes : (i : ℕ) → slice_index_or raw i 0 < 256

-- records of n bytes, each above the one before it
pub record AreRisingRecords (n : ℕ) (records : List (List ℕ)) : Type 0 where
  pub each : (k : ℕ) → k < length records → IsRecord n (text_at records k)
  pub rising : IsRising records

-- the number that eight bytes of a record spell from i on, the first the most significant, with NULs past its end
unfoldable pub number_at : ℕ → List ℕ → ℕ
number_at i raw = from_be_bytes w64 (pad (take 8 (drop i raw)) 8)

-- the number of eight bytes and that of the next eight, or of the record's last eight, as one
unfoldable pub pair_at : ℕ → List ℕ → ℕ
pair_at i raw = number_at i raw * 2 ^ 64 + number_at (min (i + 8) (length raw - 8)) raw

-- a record of a lesser number than the key's is below the key, and one of a greater number isn't
pub record AreOrderedBy (number : List ℕ → ℕ) (key : List ℕ) (records : List (List ℕ)) : Type 0 where
  pub below : (k : ℕ) → k < length records → number (text_at records k) < number key → order (text_at records k) key ≡ Less
  pub above : (k : ℕ) → k < length records → number key < number (text_at records k) → order (text_at records k) key ≢ Less

-- strictly ascending records, which are compared with the key by a number; where they have at most sixteen bytes, it decides
-- alone: a record of the key's number isn't below the key
pub record AreDistinguished (n : ℕ) (number : List ℕ → ℕ) (key : List ℕ) (records : List (List ℕ)) : Type 0 where
  pub rising : IsRising records
  pub ordered : AreOrderedBy number key records
  pub whole : n ≤ 16 → (k : ℕ) → k < length records → number (text_at records k) ≡ number key → order (text_at records k) key ≢ Less

-- each record begins with the first bytes of the key
pub record BeginAlike (n : ℕ) (key : List ℕ) (records : List (List ℕ)) : Type 0 where
  pub each : (k : ℕ) → k < length records → take n (text_at records k) ≡ take n key

-- the number of a pair
abbrev pub paired : ℕ → ℕ → ℕ
paired first next = first * 2 ^ 64 + next

-- a pair as a text of n bytes has it: neither number has its highest bit and, of at most eight bytes, both are the same
pub record IsPairOfText (n first next : ℕ) : Type 0 where
  pub first_fits : first < 2 ^ 63
  pub next_fits : next < 2 ^ 63
  pub short : n ≤ 8 → first ≡ next

-- eight pairs
pub record ArePairsOfTexts (n : ℕ) (first next : List ℕ) : Type 0 where
  pub each : (i : ℕ) → i < 8 → IsPairOfText n (slice_index first i) (slice_index next i)

-- the number of one of eight pairs
abbrev pub wanted : List ℕ → List ℕ → ℕ → ℕ
wanted first next i = paired (slice_index first i) (slice_index next i)

-- the numbers of records are ascending, and may repeat
pub record AreAscendingBy (number : List ℕ → ℕ) (records : List (List ℕ)) : Type 0 where
  pub each : (i j : ℕ) → i ≤ j → j < length records → number (text_at records i) ≤ number (text_at records j)

-- eight numbers are ascending, and may repeat
pub record AreAscending (w : ℕ → ℕ) : Type 0 where
  pub each : (i : ℕ) → i < 7 → w i ≤ w (i + 1)

-- the records are padded texts of n bytes, and their numbers from start on are ascending, and may repeat
pub record AreNumbered (n start : ℕ) (records : List (List ℕ)) : Type 0 where
  pub padded : All (λ raw. IsPaddedText raw n) records
  pub rising : AreAscendingBy (pair_at start) records

-- i to j - 1 is a range of records and, if these are numbered, the numbers of those before i are below w, and none from j on is
pub record IsPlaceWithin (n start : ℕ) (records : List (List ℕ)) (w i j : ℕ) : Type 0 where
  pub ordered : i ≤ j
  pub inside : j ≤ length records
  pub below : AreNumbered n start records → (k : ℕ) → k < i → pair_at start (text_at records k) < w
  pub not_below : AreNumbered n start records → (k : ℕ) → j ≤ k → k < length records → w ≤ pair_at start (text_at records k)

-- the same range for eight numbers
pub record AreWithin (n start : ℕ) (records : List (List ℕ)) (w : ℕ → ℕ) (i j : ℕ) : Type 0 where
  pub each : (lane : ℕ) → lane < 8 → IsPlaceWithin n start records (w lane) i j

-- a range of its own for each of eight numbers, all of one length
pub record ArePlacesWithin (n start : ℕ) (records : List (List ℕ)) (w : ℕ → ℕ) (places : List ℕ) (size : ℕ) : Type 0 where
  pub each : (i : ℕ) → i < 8 → IsPlaceWithin n start records (w i) (slice_index places i) (slice_index places i + size)

-- an answer inside the records and, if these are padded, strictly ascending texts of n bytes, that for a key
pub record IsAnswer (n : ℕ) (key : List ℕ) (records : List (List ℕ)) (r : Result ℕ ℕ) : Type 0 where
  pub inside : IfOk r (λ index. index < length records)
  pub bound : IfErr r (λ place. place ≤ length records)
  pub answer : All (λ raw. IsPaddedText raw n) records → IsRising (map text_of records) → r ≡ search_result (map text_of records) key

-- the first m of eight answers are those for the first keys
abbrev pub AreAnswers : ℕ → List (List ℕ) → List (List ℕ) → List (Result ℕ ℕ) → ℕ → Type 0
AreAnswers n records keys answers m = (i : ℕ) → i < m → IsAnswer n (text_at keys i) records (slice_index_or answers i (Ok 0))

-- an answer is that for the key before m, if there is one
abbrev pub IsLast : List (List ℕ) → List (List ℕ) → Result ℕ ℕ → ℕ → Type 0
IsLast texts keys answer m = 0 < m → answer ≡ search_result texts (text_at keys (m - 1))

-- the last n of eight answers are those for the keys from m on
abbrev pub AreReady : List (List ℕ) → List (List ℕ) → List (Result ℕ ℕ) → ℕ → ℕ → Type 0
AreReady texts keys answers m n = (i : ℕ) → i < n → slice_index_or answers (8 - n + i) (Ok 0) ≡ search_result texts (text_at keys (m + i))
