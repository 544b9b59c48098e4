-- Records are in the order of the numbers that they spell.
use Rattle.std.proofs.Common.{◌≡◌, ◌≢◌, ℕ, zero, suc, ◌+◌, ◌-◌, ◌*◌, min, ◌<◌, ◌≤◌, List, [], ◌∷◌, length, take, drop, refl, sym, ap, ◌∙◌, arith, nat_lt, true, inl, inr}
use Rattle.std.specs.Cmp.Lexicographic.{slice_cmp}
use Rattle.std.specs.Int.{from_be_bytes, to_be_bytes, w64}
use Rattle.std.specs.Ordering.{nat_cmp, is_eq, is_lt, ordering_then}
use Rattle.std.specs.declared.cmp.Ordering.{Ordering}
use Rattle.std.specs.declared.cmp.Ordering.TheVariants.{Less, Equal, Greater}
use Rattle.std.proofs.lemmas.Bool.{cases_lt, lt-ltb, ltb-true}
use Rattle.std.proofs.lemmas.List.{take_all, take-take, length-take, length-drop, places}
use Rattle.std.proofs.lemmas.Cmp.{nat_cmp_total, nat_list_cmp_total, tied_itself}
use Rattle.std.specs.Cmp.{nat_cmp_is}
use Rattle.std.proofs.lemmas.Nat.{be_bytes_8}
use Rattle.std.proofs.Math.Seq.{take-add}
use Rattle.tinystr_words.specs.Text.{pad}
use Rattle.tinystr_packed.specs.Private.{number_at, pair_at, IsRecord, AreRisingRecords, AreDistinguished, BeginAlike, AreOrderedBy}
use Rattle.tinystr_packed.specs.Rising.{order, text_at}
use Rattle.tinystr_packed.proofs.Numbers.{number_at-short, number_at-long}
use Rattle.tinystr_packed.proofs.RisingTexts.{Less-from_is_lt, IsFirstNotBelowWithin-all}
use Rattle.tinystr_words.proofs.Order.OfLists.{cmp_is_same}
use Rattle.tinystr_words.proofs.Order.ByNumbers.{AllFit, AreBytes, AreBytes-drop, AreBytes-from_type, is_lt-nat_cmp, slice_cmp-first_eight, slice_cmp-numbers}
use Rattle.tinystr_words.proofs.Pieces.Copying.{pad-full}

-- at most eight bytes are below others where their number is
pub nat_lt-slice_cmp : (xs ys : List ℕ) (x y : ℕ) → length xs ≡ length ys → length xs ≤ 8 → AllFit xs → AllFit ys
    → x ≡ from_be_bytes w64 (pad xs 8) → y ≡ from_be_bytes w64 (pad ys 8) → nat_lt x y ≡ is_lt (slice_cmp nat_cmp xs ys)
nat_lt-slice_cmp xs ys x y same fits a b ex ey = rw (← slice_cmp-numbers xs ys x y same fits (AreBytes-from_type xs a) (AreBytes-from_type ys b) ex ey) (sym (is_lt-nat_cmp x y))

-- ---- records of at most eight bytes

pub is_lt-short : (xs ys : List ℕ) (n : ℕ) → n ≤ 8 → IsRecord n xs → IsRecord n ys → nat_lt (number_at 0 xs) (number_at 0 ys) ≡ is_lt (slice_cmp nat_cmp xs ys)
is_lt-short xs ys n short x y =
    rw (← slice_cmp-numbers xs ys (number_at 0 xs) (number_at 0 ys) (x.long ∙ sym y.long) (omega (arith, x.long)) x.bytes y.bytes (number_at-short xs (omega (arith, x.long))) (number_at-short ys (omega (arith, y.long)))) (sym (is_lt-nat_cmp (number_at 0 xs) (number_at 0 ys)))

pub not_below-short : (xs ys : List ℕ) (n : ℕ) → n ≤ 8 → IsRecord n xs → IsRecord n ys → number_at 0 ys ≤ number_at 0 xs → order xs ys ≢ Less
not_below-short xs ys n short x y le less =
    let test = is_lt-short xs ys n short x y in
    let fewer = ltb-true (number_at 0 xs) (number_at 0 ys) (test ∙ rw less refl) in
    absurd (omega (arith, fewer, le))

Equal-from_others : (o : Ordering) → o ≢ Less → o ≢ Greater → o ≡ Equal
Equal-from_others Less a b = absurd (a refl)
Equal-from_others Equal a b = refl
Equal-from_others Greater a b = absurd (b refl)

-- those of one number are the same
pub same-short : (xs ys : List ℕ) (n : ℕ) → n ≤ 8 → IsRecord n xs → IsRecord n ys → number_at 0 xs ≡ number_at 0 ys → xs ≡ ys
same-short xs ys n short x y is =
    let not_below = not_below-short xs ys n short x y (omega (arith, is)) in
    let not_above = λ (above : order xs ys ≡ Greater). not_below-short ys xs n short y x (omega (arith, is)) (nat_list_cmp_total.antisymm ys xs ∙ rw above refl) in
    (cmp_is_same xs ys).0 (Equal-from_others (order xs ys) not_below not_above)

Equal-from_is_eq : (o : Ordering) → is_eq o ≡ true → o ≡ Equal
Equal-from_is_eq Less h = cc
Equal-from_is_eq Equal h = refl
Equal-from_is_eq Greater h = cc

-- bytes of one order are the same
pub is_eq-Decides : (xs ys : List ℕ) → (is_eq (order xs ys) ≡ true → xs ≡ ys) × (xs ≡ ys → is_eq (order xs ys) ≡ true)
is_eq-Decides xs ys = (λ yes. (cmp_is_same xs ys).0 (Equal-from_is_eq (order xs ys) yes), λ same. rw (same, tied_itself nat_list_cmp_total ys) refl)

-- records of at most eight bytes are compared with a key by one number
pub AreOrderedBy-short : (records : List (List ℕ)) (key : List ℕ) (n : ℕ) → n ≤ 8 → AreRisingRecords n records → IsRecord n key → AreOrderedBy (number_at 0) key records
AreOrderedBy-short records key n short h is_record = record {
  below = λ k inside less.
      let test = is_lt-short (text_at records k) key n short (h.each k inside) is_record in
      Less-from_is_lt (order (text_at records k) key) (sym test ∙ lt-ltb (number_at 0 (text_at records k)) (number_at 0 key) less);
  above = λ k inside more. not_below-short (text_at records k) key n short (h.each k inside) is_record (omega (arith, more));
}

-- and are all of them
pub not_below_same-short : (records : List (List ℕ)) (key : List ℕ) (n : ℕ) → n ≤ 8 → AreRisingRecords n records → IsRecord n key → (k : ℕ) → k < length records → number_at 0 (text_at records k) ≡ number_at 0 key → order (text_at records k) key ≢ Less
not_below_same-short records key n short h is_record k inside same = not_below-short (text_at records k) key n short (h.each k inside) is_record (omega (arith, same))

-- ---- records compared by eight bytes

-- what both begin with doesn't matter
slice_cmp-same_start : (s : ℕ) (xs ys : List ℕ) → take s xs ≡ take s ys → slice_cmp nat_cmp xs ys ≡ slice_cmp nat_cmp (drop s xs) (drop s ys)
slice_cmp-same_start zero xs ys e = refl
slice_cmp-same_start (suc s) [] [] e = refl
slice_cmp-same_start (suc s) [] (y ∷ ys) e = absurd cc
slice_cmp-same_start (suc s) (x ∷ xs) [] e = absurd cc
slice_cmp-same_start (suc s) (x ∷ xs) (y ∷ ys) e =
    let first : x ≡ y = cc in
    let rest : take s xs ≡ take s ys = cc in
    rw (first, tied_itself nat_cmp_total y) (slice_cmp-same_start s xs ys rest)

-- eight bytes spell a number as they are
number_at-eight : (raw : List ℕ) (s : ℕ) → s + 8 ≤ length raw → number_at s raw ≡ from_be_bytes w64 (take 8 (drop s raw))
number_at-eight raw s inside =
    let long : length (take 8 (drop s raw)) ≡ 8 = omega (arith, length-take 8 (drop s raw), length-drop s raw) in
    sym (number_at-long raw s 8 (from_be_bytes w64 (take 8 (drop s raw))) refl (ap (λ (l : List ℕ). from_be_bytes w64 l) (sym (pad-full (take 8 (drop s raw)) 8 (omega arith)))))

-- the lesser number is that of the lesser record
Less-long : (xs ys : List ℕ) (n s : ℕ) → s + 8 ≤ n → IsRecord n xs → IsRecord n ys → take s xs ≡ take s ys → number_at s xs < number_at s ys → order xs ys ≡ Less
Less-long xs ys n s fits x y same less =
    let lx = length-drop s xs in
    let ly = length-drop s ys in
    let cut = slice_cmp-first_eight (drop s xs) (drop s ys) (take 8 (drop s xs)) (take 8 (drop s ys)) (drop 8 (drop s xs)) (drop 8 (drop s ys)) (number_at s xs) (number_at s ys) (nat_cmp (number_at s xs) (number_at s ys))
    (omega (arith, x.long)) (omega (arith, x.long, y.long)) (AreBytes-drop s xs x.bytes) (AreBytes-drop s ys y.bytes)
    (refl, refl, omega (arith, length-drop 8 (drop s xs), x.long)) (refl, refl, omega (arith, length-drop 8 (drop s ys), y.long))
    (number_at-eight xs s (omega (arith, x.long))) (number_at-eight ys s (omega (arith, y.long))) refl in
    slice_cmp-same_start s xs ys same ∙ cut ∙ ap (λ (o : Ordering). ordering_then o (slice_cmp nat_cmp (drop 8 (drop s xs)) (drop 8 (drop s ys)))) (sym (nat_cmp_is (number_at s xs) (number_at s ys) Less less))

-- what is above isn't below
pub turned : (xs ys : List ℕ) → order ys xs ≡ Less → order xs ys ≢ Less
turned xs ys above less =
    let other = nat_list_cmp_total.antisymm xs ys in
    cc

-- records that begin alike are compared with a key by the number of the next eight bytes
pub AreOrderedBy-long : (records : List (List ℕ)) (key : List ℕ) (n s : ℕ) → s + 8 ≤ n → AreRisingRecords n records → IsRecord n key → BeginAlike s key records → AreOrderedBy (number_at s) key records
AreOrderedBy-long records key n s fits h is_record alike = record {
  below = λ k inside less. Less-long (text_at records k) key n s fits (h.each k inside) is_record (alike.each k inside) less;
  above = λ k inside more. turned (text_at records k) key (Less-long key (text_at records k) n s fits is_record (h.each k inside) (sym (alike.each k inside)) more);
}

-- a number is one of 64 bits
from_be_bytes-bound : (bs : List ℕ) → length bs ≡ 8 → AreBytes bs → from_be_bytes w64 bs < 18446744073709551616
from_be_bytes-bound bs long bytes = omega (arith, bytes 0, bytes 1, bytes 2, bytes 3, bytes 4, bytes 5, bytes 6, bytes 7)

AreBytes-eight : (raw : List ℕ) (s : ℕ) → AreBytes raw → AreBytes (take 8 (drop s raw))
AreBytes-eight raw s h i = let within = AreBytes-drop s raw h i in grind (arith, places, within)

pub number-bound : (raw : List ℕ) (n s : ℕ) → s + 8 ≤ n → IsRecord n raw → number_at s raw < 18446744073709551616
number-bound raw n s fits h =
    let eight = take 8 (drop s raw) in
    rw (number_at-eight raw s (omega (arith, h.long))) (from_be_bytes-bound eight (omega (arith, length-take 8 (drop s raw), length-drop s raw, h.long)) (AreBytes-eight raw s h.bytes))

-- records of one number have the same eight bytes
pub alike-long : (xs ys : List ℕ) (n s : ℕ) → s + 8 ≤ n → IsRecord n xs → IsRecord n ys → take s xs ≡ take s ys → number_at s xs ≡ number_at s ys → take (s + 8) xs ≡ take (s + 8) ys
alike-long xs ys n s fits x y same number =
    let left = take 8 (drop s xs) in
    let right = take 8 (drop s ys) in
    let a = be_bytes_8 left (number_at s xs) (omega (arith, length-take 8 (drop s xs), length-drop s xs, x.long)) (AreBytes-eight xs s x.bytes) (number_at-eight xs s (omega (arith, x.long))) in
    let b = be_bytes_8 right (number_at s ys) (omega (arith, length-take 8 (drop s ys), length-drop s ys, y.long)) (AreBytes-eight ys s y.bytes) (number_at-eight ys s (omega (arith, y.long))) in
    let eight : left ≡ right = sym a ∙ ap (λ (m : ℕ). to_be_bytes w64 m) number ∙ b in
    rw (take-add s 8 xs, take-add s 8 ys, same, eight) refl

-- so they begin alike up to any place among these
begin_alike-next : (xs ys : List ℕ) (n s next : ℕ) → s + 8 ≤ n → next ≤ s + 8 → IsRecord n xs → IsRecord n ys → take s xs ≡ take s ys → number_at s xs ≡ number_at s ys → take next xs ≡ take next ys
begin_alike-next xs ys n s next fits le x y same number =
    let more = alike-long xs ys n s fits x y same number in
    rw (← take-take next (s + 8) xs le, ← take-take next (s + 8) ys le, more) refl

-- ---- records compared by sixteen bytes

pub pair_at-parts : (raw : List ℕ) (n s : ℕ) → IsRecord n raw → pair_at s raw ≡ number_at s raw * 18446744073709551616 + number_at (min (s + 8) (n - 8)) raw
unfolding pair_at
pair_at-parts raw n s h = rw h.long refl

pub Less-pair : (xs ys : List ℕ) (n s : ℕ) → s + 8 ≤ n → IsRecord n xs → IsRecord n ys → take s xs ≡ take s ys → pair_at s xs < pair_at s ys → order xs ys ≡ Less
Less-pair xs ys n s fits x y same less =
    let next = min (s + 8) (n - 8) in
    let inside : next + 8 ≤ n = omega arith in
    let left = pair_at-parts xs n s x in
    let right = pair_at-parts ys n s y in
    let low = number-bound xs n next inside x in
    let high = number-bound ys n next inside y in
    elim (cases_lt (number_at s xs) (number_at s ys)) [
      | inl first ↦ Less-long xs ys n s fits x y same first
      | inr other ↦ (let tied : number_at s xs ≡ number_at s ys = omega (arith, less, left, right, low, high) in
          Less-long xs ys n next inside x y (begin_alike-next xs ys n s next fits (omega arith) x y same tied) (omega (arith, less, left, right, tied)))
    ]

pub AreOrderedBy-pair : (records : List (List ℕ)) (key : List ℕ) (n s : ℕ) → s + 8 ≤ n → AreRisingRecords n records → IsRecord n key → BeginAlike s key records → AreOrderedBy (pair_at s) key records
AreOrderedBy-pair records key n s fits h is_record alike = record {
  below = λ k inside less. Less-pair (text_at records k) key n s fits (h.each k inside) is_record (alike.each k inside) less;
  above = λ k inside more. turned (text_at records k) key (Less-pair key (text_at records k) n s fits is_record (h.each k inside) (sym (alike.each k inside)) more);
}

-- which are all of a record of nine to sixteen
pub same-pair : (xs ys : List ℕ) (n : ℕ) → 8 < n → n ≤ 16 → IsRecord n xs → IsRecord n ys → pair_at 0 xs ≡ pair_at 0 ys → xs ≡ ys
same-pair xs ys n long short x y is =
    let next = min (0 + 8) (n - 8) in
    let inside : next + 8 ≡ n = omega arith in
    let left = pair_at-parts xs n 0 x in
    let right = pair_at-parts ys n 0 y in
    let low = number-bound xs n next (omega (arith, inside)) x in
    let high = number-bound ys n next (omega (arith, inside)) y in
    let first : number_at 0 xs ≡ number_at 0 ys = omega (arith, is, left, right, low, high) in
    let last : number_at next xs ≡ number_at next ys = omega (arith, is, left, right, low, high) in
    let all = alike-long xs ys n next (omega (arith, inside)) x y (begin_alike-next xs ys n 0 next (omega arith) (omega arith) x y refl first) last in
    sym (take_all (next + 8) xs (omega (arith, x.long, inside))) ∙ all ∙ take_all (next + 8) ys (omega (arith, y.long, inside))

pub not_below_same-pair : (records : List (List ℕ)) (key : List ℕ) (n : ℕ) → 8 < n → n ≤ 16 → AreRisingRecords n records → IsRecord n key → (k : ℕ) → k < length records → pair_at 0 (text_at records k) ≡ pair_at 0 key → order (text_at records k) key ≢ Less
not_below_same-pair records key n long short h is_record k inside is less =
    let same = same-pair (text_at records k) key n long short (h.each k inside) is_record is in
    let tied = tied_itself nat_list_cmp_total key in
    cc

-- ---- the numbers by which records are compared with a key

-- one number of records of at most eight bytes
pub AreDistinguished-short : (records : List (List ℕ)) (key : List ℕ) (n : ℕ) → n ≤ 8 → AreRisingRecords n records → IsRecord n key → AreDistinguished n (number_at 0) key records
AreDistinguished-short records key n short up k = record {
  rising = up.rising;
  ordered = AreOrderedBy-short records key n short up k;
  whole = λ _. not_below_same-short records key n short up k;
}

-- two numbers of records of at most sixteen bytes
pub AreDistinguished-pair : (records : List (List ℕ)) (key : List ℕ) (n : ℕ) → 8 < n → n ≤ 16 → AreRisingRecords n records → IsRecord n key → AreDistinguished n (pair_at 0) key records
AreDistinguished-pair records key n long short up k =
    let alike : BeginAlike 0 key records = record { each = λ i inside. refl } in
    record {
      rising = up.rising;
      ordered = AreOrderedBy-pair records key n 0 (omega arith) up k alike;
      whole = λ _. not_below_same-pair records key n long short up k;
    }

-- of longer records, the number of the eight bytes after those that they share
pub AreDistinguished-long : (records : List (List ℕ)) (key : List ℕ) (n i : ℕ) → 16 < n → i ≤ n - 8 → AreRisingRecords n records → IsRecord n key → BeginAlike i key records → AreDistinguished n (number_at i) key records
AreDistinguished-long records key n i long fits up k alike = record {
  rising = up.rising;
  ordered = AreOrderedBy-long records key n i (omega arith) up k alike;
  whole = λ short. absurd (omega arith);
}

-- and that of sixteen bytes
pub AreDistinguished-long_pair : (records : List (List ℕ)) (key : List ℕ) (n i : ℕ) → 16 < n → i ≤ n - 8 → AreRisingRecords n records → IsRecord n key → BeginAlike i key records → AreDistinguished n (pair_at i) key records
AreDistinguished-long_pair records key n i long fits up k alike = record {
  rising = up.rising;
  ordered = AreOrderedBy-pair records key n i (omega arith) up k alike;
  whole = λ short. absurd (omega arith);
}

pub ruleset orders = (nat_lt-slice_cmp)

pub ruleset long_records = (AreDistinguished-long, AreDistinguished-long_pair, IsFirstNotBelowWithin-all)
