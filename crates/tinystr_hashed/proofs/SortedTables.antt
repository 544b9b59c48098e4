-- A table without pilots: a constant header, and the packed texts in order.
use Rattle.std.proofs.Common.{◌≡◌, ℕ, ◌≤◌, List, [], ◌∷◌, ◌++◌, arith, length, refl}
use Rattle.std.specs.List.{Contains, IsDistinct}
use Rattle.std.specs.Str.{bytes_eq}
use Rattle.std.proofs.lemmas.Cmp.{nat_list_eq_equiv}
use Rattle.std.proofs.lemmas.Map.Made.{IsDistinct-from_AllPairs, is_member-Decides, length-le_from_is_member}
use Rattle.std.proofs.lemmas.Slice.Eq.{bytes_eq-Decides}
use Rattle.tinystr_words.proofs.Reading.Records.{AllStrict}
use Rattle.tinystr_packed.specs.Rising.{IsRising}
use Rattle.tinystr_packed.specs.Sorting.{ArePackedInOrder}
use Rattle.tinystr_packed.proofs.PackedTexts.{packed}
use Rattle.tinystr_hashed.specs.Packing.{ArePackedHashed}
use Rattle.tinystr_hashed.specs.Reading.{IsHashed, pilots_of, place_by}
use Rattle.tinystr_hashed.proofs.Lookups.{AreDistinct-rising}
use Rattle.tinystr_hashed.proofs.Placed.{AreOrdered-rising}
use Rattle.tinystr_packed.proofs.SortedRecords.{AreSorted-records}

-- the header
abbrev pub sorted_header : List ℕ
sorted_header = 1 ∷ 0 ∷ 0 ∷ 0 ∷ 0 ∷ 0 ∷ 0 ∷ 0 ∷ 0 ∷ 0 ∷ 0 ∷ 0 ∷ 0 ∷ 0 ∷ 0 ∷ 0 ∷ []

IsHashed-sorted : (ts : List (List ℕ)) (records : List ℕ) (n : ℕ) → IsRising ts → AllStrict n ts → records ≡ packed n ts → IsHashed ts (sorted_header ++ records) n
IsHashed-sorted ts records n up strict joined = record {
  whole = record { header = omega arith; version = refl; index = omega arith };
  strict = strict;
  joined = joined;
  ordered = AreOrdered-rising (pilots_of (sorted_header ++ records)) (place_by (sorted_header ++ records) n (length ts)) ts refl up;
}

-- two lists of the same texts, no two of which are equal, have the same number
no_fewer : (ts ss : List (List ℕ)) → IsDistinct bytes_eq ts → ((t : List ℕ) → Contains ts t → Contains ss t) → length ts ≤ length ss
no_fewer ts ss distinct within =
    length-le_from_is_member nat_list_eq_equiv ts ss distinct
    (λ q here. (is_member-Decides (λ a b. bytes_eq-Decides a b) ss q).1 (within q ((is_member-Decides (λ a b. bytes_eq-Decides a b) ts q).0 here)))

pub ArePackedHashed-sorted : (texts : List (List ℕ)) (bytes records : List ℕ) (n : ℕ) → ArePackedInOrder texts records n → IsDistinct bytes_eq texts → bytes ≡ sorted_header ++ records → ArePackedHashed texts bytes n
ArePackedHashed-sorted texts bytes records n h distinct is =
    let apart : IsDistinct bytes_eq h.sorted = IsDistinct-from_AllPairs (λ a b. bytes_eq-Decides a b) h.sorted (AreDistinct-rising h.sorted h.rising) in
    let fewer = no_fewer h.sorted texts apart (λ t. (h.same t).0) in
    let more = no_fewer texts h.sorted distinct (λ t. (h.same t).1) in
    record {
      made = h.sorted;
      hashed = rw is (IsHashed-sorted h.sorted records n h.rising h.strict h.joined);
      count = omega (arith, fewer, more);
      same = h.same;
      distinct = distinct;
    }

pub ruleset sorted_records = (AreSorted-records)

pub ruleset sorted_packs = (ArePackedHashed-sorted, sorted_header)
