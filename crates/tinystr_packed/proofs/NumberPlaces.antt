-- Places by numbers are places of records.
use Rattle.std.proofs.Common.{◌≡◌, ◌≢◌, ℕ, ◌+◌, ◌-◌, ◌*◌, min, ◌<◌, ◌≤◌, List, length, take, refl, sym, ap, ◌∙◌, arith, inl, inr, All}
use Rattle.std.specs.declared.cmp.Ordering.TheVariants.{Less}
use Rattle.std.proofs.lemmas.Bool.{cases_lt, lt-ltb}
use Rattle.std.proofs.lemmas.Cmp.{nat_list_cmp_total, tied_itself}
use Rattle.std.proofs.lemmas.List.{take-take}
use Rattle.tinystr_words.specs.Text.{IsPaddedText}
use Rattle.tinystr_packed.specs.Private.{number_at, pair_at, IsRecord, AreRisingRecords, BeginAlike, AreNumbered, AreAscendingBy, IsPlaceWithin}
use Rattle.tinystr_packed.specs.Rising.{order, text_at, IsFirstNotBelow}
use Rattle.tinystr_packed.proofs.RecordOrder.{Less-pair, turned, same-pair, is_lt-short, not_below-short, pair_at-parts}
use Rattle.tinystr_packed.proofs.RisingTexts.{Less-from_is_lt, below_from_rising}

-- of at most eight bytes both halves are all
pair_at-short : (raw : List ℕ) (n : ℕ) → n ≤ 8 → IsRecord n raw → pair_at 0 raw ≡ number_at 0 raw * 18446744073709551616 + number_at 0 raw
pair_at-short raw n short h =
    let none : min (0 + 8) (n - 8) ≡ 0 = omega arith in
    rw none at (pair_at-parts raw n 0 h)

-- the lesser number is that of the lesser record
Less-by_number : (xs ys : List ℕ) (n s : ℕ) → s ≤ n - 8 → IsRecord n xs → IsRecord n ys → take s xs ≡ take s ys → pair_at s xs < pair_at s ys → order xs ys ≡ Less
Less-by_number xs ys n s fits x y same less = elim (cases_lt 8 n) [
  | inl long ↦ Less-pair xs ys n s (omega arith) x y same less
  | inr short ↦ (let start : s ≡ 0 = omega arith in
      let left = pair_at-short xs n short x in
      let right = pair_at-short ys n short y in
      let whole : pair_at 0 xs < pair_at 0 ys = rw start at less in
      let fewer : number_at 0 xs < number_at 0 ys = omega (arith, left, right, whole) in
      Less-from_is_lt (order xs ys) (sym (is_lt-short xs ys n short x y) ∙ lt-ltb (number_at 0 xs) (number_at 0 ys) fewer))
]

-- and one that isn't less, that of a record that isn't below, where the number is all of it
not_below-by_number : (xs ys : List ℕ) (n : ℕ) → n ≤ 16 → IsRecord n xs → IsRecord n ys → pair_at 0 ys ≤ pair_at 0 xs → order xs ys ≢ Less
not_below-by_number xs ys n fits x y le = elim (cases_lt 8 n) [
  | inl long ↦ elim (cases_lt (pair_at 0 ys) (pair_at 0 xs)) [
    | inl more ↦ turned xs ys (Less-pair ys xs n 0 (omega arith) y x refl more)
    | inr rest ↦ (let same = same-pair xs ys n long fits x y (omega arith) in
        let tied = tied_itself nat_list_cmp_total ys in
        λ less. cc)
  ]
  | inr short ↦ (let left = pair_at-short xs n short x in
      let right = pair_at-short ys n short y in
      not_below-short xs ys n short x y (omega (arith, left, right, le)))
]

-- the numbers of strictly ascending records are ascending, and may repeat
AreAscendingBy-rising : (records : List (List ℕ)) (key : List ℕ) (n s : ℕ) → s ≤ n - 8 → AreRisingRecords n records → BeginAlike s key records → AreAscendingBy (pair_at s) records
AreAscendingBy-rising records key n s fits h alike = record {
  each = λ i j le inside. elim (cases_lt (pair_at s (text_at records j)) (pair_at s (text_at records i))) [
    | inl lesser ↦ (let less = Less-by_number (text_at records j) (text_at records i) n s fits (h.each j inside) (h.each i (omega arith)) (alike.each j inside ∙ sym (alike.each i (omega arith))) lesser in
        let below = below_from_rising records (text_at records i) i j h.rising le inside less in
        let tied = tied_itself nat_list_cmp_total (text_at records i) in
        absurd cc)
    | inr rest ↦ rest
  ];
}

-- so padded, strictly ascending records are numbered
pub AreNumbered-rising : (records : List (List ℕ)) (key : List ℕ) (n s : ℕ) → s ≤ n - 8 → All (λ raw. IsPaddedText raw n) records → AreRisingRecords n records → BeginAlike s key records → AreNumbered n s records
AreNumbered-rising records key n s fits padded h alike = record { padded = padded; rising = AreAscendingBy-rising records key n s fits h alike }

-- where a number is all of a record, its place is that of the record
pub IsFirstNotBelow-number : (records : List (List ℕ)) (key : List ℕ) (n i : ℕ) → n ≤ 16 → AreRisingRecords n records → IsRecord n key → AreNumbered n 0 records → IsPlaceWithin n 0 records (pair_at 0 key) i i → IsFirstNotBelow key records i
IsFirstNotBelow-number records key n i fits h is_record numbered place = record {
  inside = place.inside;
  below = λ k before. Less-by_number (text_at records k) key n 0 (omega arith) (h.each k (omega (arith, place.inside))) is_record refl (place.below numbered k before);
  not_below = λ k from inside. not_below-by_number (text_at records k) key n fits (h.each k inside) is_record (place.not_below numbered k from inside);
}

-- of other records it is that if no record there has the key's number and is below the key
pub IsFirstNotBelow-tested : (records : List (List ℕ)) (key : List ℕ) (n s i : ℕ) → s ≤ n - 8 → AreRisingRecords n records → IsRecord n key → BeginAlike s key records → AreNumbered n s records → IsPlaceWithin n s records (pair_at s key) i i
    → (i < length records → pair_at s (text_at records i) ≡ pair_at s key → order (text_at records i) key ≢ Less) → IsFirstNotBelow key records i
IsFirstNotBelow-tested records key n s i fits h is_record alike numbered place other = record {
  inside = place.inside;
  below = λ k before.
      let inside : k < length records = omega (arith, place.inside) in
      Less-by_number (text_at records k) key n s fits (h.each k inside) is_record (alike.each k inside) (place.below numbered k before);
  not_below = λ k from inside less.
      let here : i < length records = omega arith in
      let below = below_from_rising records key i k h.rising from inside less in
      elim (cases_lt (pair_at s key) (pair_at s (text_at records i))) [
        | inl more ↦ turned (text_at records i) key (Less-by_number key (text_at records i) n s fits is_record (h.each i here) (sym (alike.each i here)) more) below
        | inr rest ↦ other here (omega (arith, place.not_below numbered i (omega arith) here)) below
      ];
}

-- records that begin alike do so in fewer bytes
pub BeginAlike-fewer : (records : List (List ℕ)) (key : List ℕ) (m n : ℕ) → m ≤ n → BeginAlike n key records → BeginAlike m key records
BeginAlike-fewer records key m n le h = record {
  each = λ k inside. sym (take-take m n (text_at records k) le) ∙ ap (λ (l : List ℕ). take m l) (h.each k inside) ∙ take-take m n key le;
}
