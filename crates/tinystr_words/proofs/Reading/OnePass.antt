-- One pass over a list of code units: what is known after the first i of them, and the fault that the pass finds.
use Rattle.std.proofs.Common.{◌≡◌, ℕ, ◌+◌, ◌<◌, ◌≤◌, ◌==◌, Bool, true, false, ◌||◌, List, length, get_or, take, Some, None, if◌then◌else◌, nat_lt, sym, ◌∙◌, refl, arith, below_more, inl, inr, zero-add}
use Rattle.std.proofs.lemmas.Bool.{cases_lt}
use Rattle.std.proofs.lemmas.Bool.Decides.{nat_tests}
use Rattle.std.proofs.lemmas.List.{get_or-take, get_or_past, length-take-le, take-take}
use Rattle.std.proofs.lemmas.List.Elements.{All-from_get_or, All-take, All-weaker}
use Rattle.std.proofs.lemmas.List.Folds.{find_at, list_any_more, list_any_at, list_any_none}
use Rattle.std.proofs.lemmas.List.Sums.{fails_before_first, passes_at_first, position_or_len_is, prefix_len_passes, prefix_len_stops}
use Rattle.std.proofs.lemmas.List.FromFn.{get_or-range_with_len, length-range_with_len}
use Rattle.std.proofs.lemmas.Option.{slice_get-get_or, slice_get_past}
use Rattle.std.specs.List.{find, position_or_len, prefix_len, range_with_len}
use Rattle.std.specs.Option.{MatchOption, option_map, unwrap_or}
use Rattle.tinystr_words.proofs.Texts.{IsPaddedText-places, get_or-text_of, length-text_of, length-text_of-le, differs_from_nul, take-text_of}
use Rattle.tinystr_words.specs.Text.{IsTextByte, IsPaddedText, text_of}
use Rattle.tinystr_words.specs.Reading.{is_after_nul, is_faulty, first_faulty, first_fault, fault_in}
use Rattle.tinystr_words.specs.Reading.Fault.{too_long, contains_null, non_ascii}

-- no position before i is faulty, and `seen` is whether a NUL is among them
pub record IsScanned (units : List ℕ) (i : ℕ) (seen : Bool) : Type 0 where
  pub clean : (k : ℕ) → k < i → is_faulty units k ≡ false
  pub nul : seen ≡ is_after_nul units i

-- at the beginning, no position is faulty and no NUL was seen
pub IsScanned-none : (units : List ℕ) → IsScanned units 0 false
IsScanned-none units = record { clean = λ k h. absurd (omega arith); nul = refl }

-- a NUL is before the next position exactly if one is before this one or at it
is_after_nul-more : (units : List ℕ) (i : ℕ) → i < length units → is_after_nul units (i + 1) ≡ (is_after_nul units i || (get_or units i 0 == 0))
is_after_nul-more units i inside = list_any_more (λ u. u == 0) units i 0 inside

-- the next code unit is a NUL
pub IsScanned-nul : (units : List ℕ) (i : ℕ) (seen : Bool) → IsScanned units i seen → i < length units → get_or units i 0 ≡ 0 → IsScanned units (i + 1) true
IsScanned-nul units i seen h inside is_nul = record {
  clean = below_more _ _ h.clean (grind (arith, nat_tests));
  nul = sym (is_after_nul-more units i inside ∙ grind (arith, nat_tests));
}

-- the next code unit is a character, and no NUL was seen
pub IsScanned-char : (units : List ℕ) (i : ℕ) → IsScanned units i false → i < length units → 0 < get_or units i 0 → get_or units i 0 < 128 → IsScanned units (i + 1) false
IsScanned-char units i h inside some low =
    let unseen = h.nul in record {
      clean = below_more _ _ h.clean (grind (arith, nat_tests));
      nul = sym (is_after_nul-more units i inside ∙ grind (arith, nat_tests));
    }

-- ---- the least position that passes a test

-- the first of the positions below n that passes, or n where none does
position_or_len-range : (p : ℕ → Bool) (n i : ℕ) → i ≤ n → ((k : ℕ) → k < i → p k ≡ false) → (i < n → p i ≡ true) → position_or_len p (range_with_len 0 n) ≡ i
position_or_len-range p n i fits none passes =
    position_or_len_is p (range_with_len 0 n) i 0 (rw length-range_with_len fits)
    (λ k below. rw (get_or-range_with_len 0 n k 0 (omega arith), zero-add) (none k below))
    (λ more. let inside : i < n = rw length-range_with_len at more in rw (get_or-range_with_len 0 n i 0 inside, zero-add) (passes inside))

-- where no position passes, none is found
pub find-none : (p : ℕ → Bool) (n : ℕ) → ((k : ℕ) → k < n → p k ≡ false) → find p (range_with_len 0 n) ≡ None
find-none p n none =
    find_at p (range_with_len 0 n) ∙ rw (position_or_len-range p n n (omega arith) none (λ no. absurd (omega arith))) (slice_get_past (range_with_len 0 n) n (omega (arith, length-range_with_len 0 n)))

-- the first position that passes is found
pub find-first : (p : ℕ → Bool) (n i : ℕ) → i < n → p i ≡ true → ((k : ℕ) → k < i → p k ≡ false) → find p (range_with_len 0 n) ≡ Some i
find-first p n i inside passes none =
    find_at p (range_with_len 0 n) ∙ rw (position_or_len-range p n i (omega arith) none (λ more. passes))
    (slice_get-get_or (range_with_len 0 n) i 0 (rw length-range_with_len inside) ∙ rw (get_or-range_with_len 0 n i 0 inside, zero-add) refl)

-- what is found passes, and where none is found, no position does
pub find-is : (p : ℕ → Bool) (n : ℕ) → MatchOption (find p (range_with_len 0 n)) ((k : ℕ) → k < n → p k ≡ false) (λ i. p i ≡ true)
find-is p n =
    let xs = range_with_len 0 n in
    elim (cases_lt (position_or_len p xs) (length xs)) [
      | inl found ↦ rw (find_at p xs, slice_get-get_or xs (position_or_len p xs) 0 found) (passes_at_first p xs 0 found)
      | inr past ↦ rw (find_at p xs, slice_get_past xs (position_or_len p xs) past)
          (λ k inside. rw (get_or-range_with_len 0 n k 0 inside, zero-add) at (fails_before_first p xs k 0 (omega (arith, length-range_with_len 0 n))))
    ]

-- ---- the fault that the pass finds

-- the next code unit is above 127, and that is the first fault
pub first_fault-high : (units : List ℕ) (i : ℕ) (seen : Bool) → IsScanned units i seen → i < length units → 127 < get_or units i 0 → first_fault units ≡ Some non_ascii
unfolding first_fault first_faulty
first_fault-high units i seen h inside high =
    let above : nat_lt 127 (get_or units i 0) ≡ true = grind (arith, nat_tests) in
    rw (find-first (is_faulty units) (length units) i inside (rw above refl) h.clean, above) refl

-- the next code unit is a character after a NUL, and that is the first fault
pub first_fault-late : (units : List ℕ) (i : ℕ) → IsScanned units i true → i < length units → 0 < get_or units i 0 → get_or units i 0 < 128 → first_fault units ≡ Some contains_null
unfolding first_fault first_faulty
first_fault-late units i h inside some low =
    let within : nat_lt 127 (get_or units i 0) ≡ false = grind (arith, nat_tests) in
    let character : nat_lt 0 (get_or units i 0) ≡ true = grind (arith, nat_tests) in
    rw (find-first (is_faulty units) (length units) i inside (rw (within, character, ← h.nul) refl) h.clean, within) refl

-- where no position is faulty, there isn't a fault
pub first_fault-clean : (units : List ℕ) → ((k : ℕ) → k < length units → is_faulty units k ≡ false) → first_fault units ≡ None
unfolding first_fault first_faulty
first_fault-clean units clean = rw (find-none (is_faulty units) (length units) clean) refl

-- a pass that comes to the end finds no fault
pub first_fault-none : (units : List ℕ) (seen : Bool) → IsScanned units (length units) seen → first_fault units ≡ None
first_fault-none units seen h = first_fault-clean units h.clean

-- where there isn't a fault, no position is faulty
pub is_faulty-none : (units : List ℕ) → first_fault units ≡ None → (k : ℕ) → k < length units → is_faulty units k ≡ false
unfolding first_fault first_faulty
is_faulty-none units none k inside =
    elim (find (is_faulty units) (range_with_len 0 (length units))) as (λ o. MatchOption o ((k : ℕ) → k < length units → is_faulty units k ≡ false) (λ i. is_faulty units i ≡ true) → option_map (λ i. if nat_lt 127 (get_or units i 0) then non_ascii else contains_null) o ≡ None → is_faulty units k ≡ false) [
      | None ↦ λ clean e. clean k inside
      | Some i ↦ λ faulty e. cc
    ] (find-is (is_faulty units) (length units)) none

-- the fault of a list that is too long, and of one that is not
pub fault_in-long : (n : ℕ) (units : List ℕ) → n < length units → fault_in n units ≡ too_long n (length units)
unfolding fault_in
fault_in-long n units long = let longer : nat_lt n (length units) ≡ true = grind (arith, nat_tests) in rw longer refl

-- the fault of a list that fits is its first, or NULs at the end where it has none
pub fault_in-fits : (n : ℕ) (units : List ℕ) → length units ≤ n → fault_in n units ≡ unwrap_or (first_fault units) contains_null
unfolding fault_in
fault_in-fits n units fits = let within : nat_lt n (length units) ≡ false = grind (arith, nat_tests) in rw within refl

-- ---- a padded text has no faulty position, and bytes with none are a padded text

-- a code unit that isn't faulty is below 128
is_faulty-low : (units : List ℕ) (i : ℕ) → is_faulty units i ≡ false → get_or units i 0 < 128
is_faulty-low units i clean = grind (arith, nat_tests)

-- a code unit that isn't faulty and is after a NUL is a NUL
is_faulty-after_nul : (units : List ℕ) (i j : ℕ) → is_faulty units i ≡ false → j < i → i < length units → get_or units j 0 ≡ 0 → get_or units i 0 ≡ 0
is_faulty-after_nul units i j clean before inside nul =
    let long = length-take-le i units (omega arith) in
    let there : (get_or (take i units) j 0 == 0) ≡ true = rw (get_or-take i units j 0 before, nul) refl in
    let after : is_after_nul units i ≡ true = list_any_at (λ u. u == 0) (take i units) j 0 (omega arith) there in
    grind (arith, nat_tests)

-- a padded text has no fault
pub first_fault-padded : (bytes : List ℕ) (n : ℕ) → IsPaddedText bytes n → first_fault bytes ≡ None
first_fault-padded bytes n p = first_fault-clean bytes (λ k inside.
    let t = text_of bytes in
    let same = get_or-text_of bytes n k p in
    elim (cases_lt k (length t)) [
      | inl within ↦ (let char = p.text k 0 within in
          let front : take k t ≡ take k bytes = rw (← take-text_of bytes) (take-take k (length t) bytes (omega arith)) in
          let none : is_after_nul bytes k ≡ false = rw front at (list_any_none (λ u. u == 0) (take k t) (All-take (λ u. (u == 0) ≡ false) k t (All-weaker IsTextByte (λ u. (u == 0) ≡ false) (λ u c. grind (arith, nat_tests)) t p.text))) in
          grind (arith, nat_tests))
      | inr past ↦ (let nul = get_or_past t k 0 past in grind (arith, nat_tests))
    ])

-- bytes without a fault are a padded text
pub IsPaddedText-clean : (bytes : List ℕ) (n : ℕ) → length bytes ≡ n → first_fault bytes ≡ None → IsPaddedText bytes n
IsPaddedText-clean bytes n e none = (IsPaddedText-places bytes (text_of bytes) n e (All-from_get_or IsTextByte (text_of bytes) 0 char) same).0
  where
    p : ℕ
    p = prefix_len differs_from_nul bytes

    char : (k : ℕ) → k < length (text_of bytes) → IsTextByte (get_or (text_of bytes) k 0)
    char k inside =
        let below : k < p = omega (arith, length-text_of bytes) in
        let passes = prefix_len_passes differs_from_nul bytes k 0 below in
        rw (get_or-take p bytes k 0 below) (grind (arith, nat_tests), is_faulty-low bytes k (is_faulty-none bytes none k (omega (arith, length-text_of-le bytes))))

    same : (k : ℕ) → k < n → get_or bytes k 0 ≡ get_or (text_of bytes) k 0
    same k inside =
        elim (cases_lt k p) [
          | inl below ↦ sym (get_or-take p bytes k 0 below)
          | inr past ↦ rw (get_or_past (text_of bytes) k 0 (omega (arith, length-text_of bytes))) (
              let stops = prefix_len_stops differs_from_nul bytes 0 (omega arith) in
              let nul : get_or bytes p 0 ≡ 0 = grind (arith, nat_tests) in
              elim (cases_lt p k) [
                | inl later ↦ is_faulty-after_nul bytes k p (is_faulty-none bytes none k (omega arith)) later (omega arith) nul
                | inr first ↦ (let here : k ≡ p = omega arith in rw here nul)
              ])
        ]
