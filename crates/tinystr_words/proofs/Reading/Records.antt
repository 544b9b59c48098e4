-- Packed records, one by one.
use Rattle.std.proofs.Common.{◌≡◌, ℕ, suc, zero, ◌<◌, ◌≤◌, ◌+◌, ◌*◌, ◌/◌, ◌%◌, ap, List, [], ◌∷◌, ◌++◌, length, take, drop, get_or, refl, ap₂, sym, ◌∙◌, arith, add-zero}
use Rattle.std.specs.List.{All, flat_map}
use Rattle.std.specs.Simd.{first_chunks}
use Rattle.std.proofs.Math.Nat.{div-add-mod, mul-mod_left, suc-mul, zero-mul}
use Rattle.std.proofs.Math.Seq.{drop-append-add, take-add}
use Rattle.std.proofs.lemmas.List.{length-append, length-drop, length-take, drop-drop, get_or-drop, get_or-take, get_or_default, take_all, take_at, take-append-drop}
use Rattle.std.proofs.lemmas.List.Elements.{All-append, All-more, All-nil, All-cons, All-get_or, All-head, All-tail}
use Rattle.tinystr_words.specs.Text.{IsStrictText, IsPaddedText, text_of, pad}
use Rattle.tinystr_words.specs.Reading.{fault_in}
use Rattle.tinystr_words.specs.Packed.{IsPacked, record_at, IsFirstBad}
use Rattle.tinystr_words.specs.Private.RecordLists.{IsFirstUnpadded}
use Rattle.tinystr_words.proofs.Texts.{IsPaddedText-pad, length-pad, text_of-pad}

abbrev padded : ℕ → List ℕ → List ℕ
padded n t = pad t n

abbrev AllPadded : ℕ → List (List ℕ) → Type 0
AllPadded n records = All (λ raw. IsPaddedText raw n) records

abbrev pub AllStrict : ℕ → List (List ℕ) → Type 0
AllStrict n ts = All (λ t. IsStrictText t n) ts

-- texts that are padded to n bytes and joined have n bytes for each; callers cite texts_packed_len
pub length-joined : (n : ℕ) (ts : List (List ℕ)) → AllStrict n ts → length (flat_map (padded n) ts) ≡ length ts * n
length-joined n [] h = sym (zero-mul n)
length-joined n (t ∷ ts) h =
    let strict = All-head (λ t. IsStrictText t n) t ts h in
    omega (arith, length-append (pad t n) (flat_map (padded n) ts), length-pad t n strict.fits, length-joined n ts (All-tail (λ t. IsStrictText t n) t ts h), suc-mul (length ts) n)

-- each record of padded texts joined is the padded form of its text
record_at-joined : (n : ℕ) (ts : List (List ℕ)) (i : ℕ) → AllStrict n ts → i < length ts → record_at n (flat_map (padded n) ts) i ≡ pad (get_or ts i []) n
record_at-joined n [] i h below = absurd (omega arith)
record_at-joined n (t ∷ ts) zero h below =
    let strict = All-head (λ t. IsStrictText t n) t ts h in
    rw (zero-mul n) (take_at (pad t n) (flat_map (padded n) ts) n (length-pad t n strict.fits))
record_at-joined n (t ∷ ts) (suc i) h below =
    let strict = All-head (λ t. IsStrictText t n) t ts h in
    let past : suc i * n ≡ length (pad t n) + i * n = omega (arith, suc-mul i n, length-pad t n strict.fits) in
    rw (past, drop-append-add (pad t n) (flat_map (padded n) ts) (i * n)) (record_at-joined n ts i (All-tail (λ t. IsStrictText t n) t ts h) (omega arith))

-- and so holds it
pub text_of-record : (n : ℕ) (ts : List (List ℕ)) (i : ℕ) → AllStrict n ts → i < length ts → text_of (record_at n (flat_map (padded n) ts) i) ≡ get_or ts i []
text_of-record n ts i h below =
    rw (record_at-joined n ts i h below) (text_of-pad (get_or ts i []) n (All-get_or (λ t. IsStrictText t n) ts i [] below h).text)

-- padded texts joined are packed
pub IsPacked-joined : (n : ℕ) (ts : List (List ℕ)) → AllStrict n ts → IsPacked (flat_map (padded n) ts) n
IsPacked-joined n ts h = record { texts = ts; each = h; joined = refl }

-- a packed list is records, each a padded text
pub IsPacked-length : (bytes : List ℕ) (n : ℕ) → IsPacked bytes n → length bytes % n ≡ 0
IsPacked-length bytes n h = rw (h.joined, length-joined n h.texts h.each) (mul-mod_left (length h.texts) n)

-- each record of a packed list is a padded text
pub IsPacked-record : (bytes : List ℕ) (n i : ℕ) → IsPacked bytes n → i * n < length bytes → IsPaddedText (record_at n bytes i) n
IsPacked-record bytes n i h inside =
    let long : length bytes ≡ length h.texts * n = rw h.joined (length-joined n h.texts h.each) in
    let below : i < length h.texts = grind arith in
    rw (h.joined, record_at-joined n h.texts i h.each below) (IsPaddedText-pad (get_or h.texts i []) n (All-get_or (λ t. IsStrictText t n) h.texts i [] below h.each))

-- and the other way round
pub IsPacked-from_records : (bytes : List ℕ) (n k : ℕ) → length bytes ≡ k * n → ((i : ℕ) → i < k → IsPaddedText (record_at n bytes i) n) → IsPacked bytes n
IsPacked-from_records [] n zero long good = record { texts = []; each = All-nil (λ t. IsStrictText t n); joined = refl }
IsPacked-from_records (b ∷ bytes) n zero long good = absurd (omega (arith, zero-mul n))
IsPacked-from_records bytes n (suc k) long good =
    let first : IsPaddedText (take n bytes) n = rw zero-mul at (good 0 (omega arith)) in
    let rest = IsPacked-from_records (drop n bytes) n k (omega (arith, length-drop n bytes, suc-mul k n)) (λ i below.
    let more : suc i * n ≡ n + i * n = omega (arith, suc-mul i n) in
    rw (drop-drop (i * n) n bytes, ← more) (good (suc i) (omega arith))) in
    record {
      texts = text_of (take n bytes) ∷ rest.texts;
      each = All-cons (λ t. IsStrictText t n) (text_of (take n bytes)) rest.texts (record { text = first.text; fits = first.fits }) rest.each;
      joined = sym (take-append-drop n bytes) ∙ ap₂ (λ (a b : List ℕ). a ++ b) first.padded rest.joined;
    }

-- ---- one pass over a list of records, several at a time

-- in a list of records the first i are padded texts, and `rest` are those after them
pub record IsChecked (records : List (List ℕ)) (n i : ℕ) (rest : List (List ℕ)) : Type 0 where
  pub left : rest ≡ drop i records
  pub seen : i + length rest ≡ length records
  pub good : AllPadded n (take i records)

-- at the beginning, all records are left
pub IsChecked-none : (records : List (List ℕ)) (n : ℕ) → IsChecked records n 0 records
IsChecked-none records n = record { left = refl; seen = omega arith; good = λ k d h. absurd (omega arith) }

-- or the first i are known
pub IsChecked-some : (records rest : List (List ℕ)) (n i : ℕ) → i ≤ length records → rest ≡ drop i records → AllPadded n (take i records) → IsChecked records n i rest
IsChecked-some records rest n i inside after padded = record { left = after; seen = rw after (omega (arith, length-drop i records)); good = padded }

-- the next records are padded texts
pub IsChecked-block : (records rest block more : List (List ℕ)) (n i m : ℕ) → IsChecked records n i rest → block ≡ take m rest → more ≡ drop m rest → length block ≡ m
    → AllPadded n block → IsChecked records n (i + length block) more
IsChecked-block records rest block more n i m h first after count padded =
    let long : length block ≤ length rest = omega (arith, ap (λ (l : List (List ℕ)). length l) first, length-take m rest) in
    record {
      left = rw (count, after, h.left) (drop-drop m i records);
      seen = rw after (omega (arith, h.seen, length-drop m rest));
      good = rw (count, take-add i m records, ← h.left, ← first) (All-append (λ (raw : List ℕ). IsPaddedText raw n) (take i records) block h.good padded);
    }

-- the next record
get_or-IsChecked : (records rest : List (List ℕ)) (raw d : List ℕ) (n i j : ℕ) → IsChecked records n i (drop j rest) → j < length rest → raw ≡ get_or rest j raw → raw ≡ get_or records i d
get_or-IsChecked records rest raw d n i j h inside is =
    let first : get_or rest j d ≡ get_or records i d = rw (get_or-drop, get_or-drop, add-zero, add-zero) at (ap (λ (l : List (List ℕ)). get_or l 0 d) h.left) in
    is ∙ get_or_default rest j raw d inside ∙ first

-- it is a padded text
pub IsChecked-more : (records rest : List (List ℕ)) (raw : List ℕ) (n i j : ℕ) → IsChecked records n i (drop j rest) → j < length rest → raw ≡ get_or rest j raw
    → IsPaddedText raw n → IsChecked records n (i + 1) (drop (j + 1) rest)
IsChecked-more records rest raw n i j h inside is padded = record {
  left = rw (← drop-drop 1 j rest, h.left) (drop-drop 1 i records);
  seen = omega (arith, h.seen, length-drop j rest, length-drop (j + 1) rest);
  good = All-more (λ (r : List ℕ). IsPaddedText r n) records i raw (omega (arith, h.seen, length-drop j rest)) h.good (rw (← get_or-IsChecked records rest raw raw n i j h inside is) padded);
}

-- it is bad
pub IsFirstUnpadded-next : (records rest : List (List ℕ)) (raw : List ℕ) (n i j : ℕ) → IsChecked records n i (drop j rest) → j < length rest → raw ≡ get_or rest j raw
    → ¬ IsPaddedText raw n → IsFirstUnpadded records n i
IsFirstUnpadded-next records rest raw n i j h inside is unpadded = record {
  inside = omega (arith, h.seen, length-drop j rest);
  bad = λ padded. unpadded (rw (← get_or-IsChecked records rest raw [] n i j h inside is) at padded);
  before = h.good;
}

-- and has its own fault
pub fault_in-next : (records rest : List (List ℕ)) (raw : List ℕ) (n i j : ℕ) → IsChecked records n i (drop j rest) → j < length rest → raw ≡ get_or rest j raw
    → fault_in n raw ≡ fault_in n (get_or records i [])
fault_in-next records rest raw n i j h inside is = ap (λ (b : List ℕ). fault_in n b) (get_or-IsChecked records rest raw [] n i j h inside is)

-- no record is left
pub AllPadded-checked : (records rest : List (List ℕ)) (n i : ℕ) → IsChecked records n i rest → length rest ≡ 0 → AllPadded n records
AllPadded-checked records rest n i h none = rw (take_all i records (omega (arith, h.seen))) at h.good

-- records with a bad one aren't all padded
pub IsFirstUnpadded-some : (records : List (List ℕ)) (n i : ℕ) → IsFirstUnpadded records n i → ¬ AllPadded n records
IsFirstUnpadded-some records n i h padded = h.bad (padded i [] h.inside)

-- ---- the records of bytes, as a list

-- the number of chunks
pub length-first_chunks : (m k : ℕ) (xs : List ℕ) → length (first_chunks m k xs) ≡ k
length-first_chunks m zero xs = refl
length-first_chunks m (suc k) xs = ap suc (length-first_chunks m k (drop m xs))

-- each of the first chunks is a record
get_or-first_chunks : (n k : ℕ) (bytes : List ℕ) (i : ℕ) (d : List ℕ) → i < k → get_or (first_chunks n k bytes) i d ≡ record_at n bytes i
get_or-first_chunks n zero bytes i d h = absurd (omega arith)
get_or-first_chunks n (suc k) bytes zero d h = rw zero-mul refl
get_or-first_chunks n (suc k) bytes (suc i) d h =
    let more : suc i * n ≡ n + i * n = omega (arith, suc-mul i n) in
    rw (more, ← drop-drop (i * n) n bytes) (get_or-first_chunks n k (drop n bytes) i d (omega arith))

-- `records` are all the records of the bytes
pub record AreRecords (records : List (List ℕ)) (bytes : List ℕ) (n : ℕ) : Type 0 where
  pub are : records ≡ first_chunks n (length bytes / n) bytes
  pub count : length records ≡ length bytes / n
  pub whole : length bytes % n ≡ 0

-- each is a record of theirs
pub get_or-AreRecords : (records : List (List ℕ)) (bytes : List ℕ) (n i : ℕ) (d : List ℕ) → AreRecords records bytes n → i < length records → get_or records i d ≡ record_at n bytes i
get_or-AreRecords records bytes n i d h inside = rw h.are (get_or-first_chunks n (length bytes / n) bytes i d (omega (arith, h.count)))

-- they are packed where each is a padded text
pub IsPacked-records : (records : List (List ℕ)) (bytes : List ℕ) (n : ℕ) → AreRecords records bytes n → AllPadded n records → IsPacked bytes n
IsPacked-records records bytes n h padded =
    IsPacked-from_records bytes n (length records) (rw h.count (omega (arith, h.whole, div-add-mod (length bytes) n))) (λ i below. rw (← get_or-AreRecords records bytes n i [] h below) (padded i [] below))

-- the first bad one of the list is the first bad one of the bytes
pub IsFirstBad-records : (records : List (List ℕ)) (bytes : List ℕ) (n i : ℕ) → AreRecords records bytes n → 0 < n → IsFirstUnpadded records n i → IsFirstBad bytes n i
IsFirstBad-records records bytes n i h some first = record {
  inside = grind (arith, h.count, first.inside, div-add-mod (length bytes) n);
  bad = λ padded. first.bad (rw (get_or-AreRecords records bytes n i [] h first.inside) padded);
  before = λ k below.
      let inside : k < length records = omega (arith, first.inside) in
      rw (← get_or-AreRecords records bytes n k [] h inside, ← get_or-take i records k [] below) (first.before k [] (omega (arith, length-take i records, first.inside)));
}

-- and the other way round, packed bytes have padded texts alone
pub AllPadded-packed : (records : List (List ℕ)) (bytes : List ℕ) (n : ℕ) → AreRecords records bytes n → 0 < n → IsPacked bytes n → AllPadded n records
AllPadded-packed records bytes n h some packed i d below =
    rw (get_or-AreRecords records bytes n i d h below) (IsPacked-record bytes n i packed (grind (arith, h.count, div-add-mod (length bytes) n)))
