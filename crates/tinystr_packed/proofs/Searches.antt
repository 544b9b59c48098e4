-- What a search gives.
use Rattle.std.proofs.Common.{◌≡◌, ◌≢◌, ◌↔◌, ℕ, suc, zero, ◌+◌, ◌<◌, ◌≤◌, List, [], ◌∷◌, length, map, get_or, refl, sym, ap, subst, ◌∙◌, arith, Bool, true, false, cond, nat_lt, inl, inr}
use Rattle.std.specs.List.{Contains, count_by, position, position_or_len, prefix_len, slice_get, zip}
use Rattle.std.specs.Option.{is_some, ok_or}
use Rattle.std.specs.Ordering.{is_le, is_lt}
use Rattle.std.specs.Result.{IsOk, is_ok, result_ok}
use Rattle.std.specs.Str.{bytes_eq}
use Rattle.std.specs.declared.cmp.Ordering.{Ordering}
use Rattle.std.specs.declared.cmp.Ordering.TheVariants.{Less, Equal, Greater}
use Rattle.std.specs.declared.option.Option.{Option}
use Rattle.std.specs.declared.option.Option.TheVariants.{None, Some}
use Rattle.std.specs.Prelude.{IsTrue}
use Rattle.std.specs.declared.result.Result.{Result}
use Rattle.std.specs.declared.result.Result.TheVariants.{Ok, Err}
use Rattle.std.proofs.lemmas.Bool.{cases_lt, false_from_ne_true, false≢true, lt-ltb}
use Rattle.std.proofs.lemmas.Bool.Decides.{nat_tests}
use Rattle.std.proofs.lemmas.Cmp.{nat_list_cmp_total, tied_itself}
use Rattle.std.proofs.lemmas.List.Sums.{fails_before_first, position_or_len_is, prefix_len-le-length, prefix_len_passes, prefix_len_stops, sum_by-cons}
use Rattle.std.proofs.lemmas.Option.{slice_get_within, get_or_from_slice_get}
use Rattle.std.proofs.lemmas.Slice.Eq.{bytes_eq-Decides}
use Rattle.tinystr_words.proofs.Order.OfLists.{cmp_is_same}
use Rattle.tinystr_words.proofs.Parts.Found.{text_position-at, text_position-some}
use Rattle.tinystr_packed.specs.Map.{get}
use Rattle.tinystr_packed.specs.Rising.{order, text_at, IsRising, IsFirstNotBelow, IsPlaceFor, IsSearched, search_result, value_at}
use Rattle.tinystr_packed.proofs.PackedMaps.{DifferentKeys-rising, Entries, get-zip, get-zip_absent}
use Rattle.tinystr_packed.proofs.RisingTexts.{IsFirstNotBelow-same, IsPlaceFor-missed, Less-from_is_lt, below_from_rising, not_above}
use Rattle.std.proofs.lemmas.Map.Made.{keys_of-zip}

-- a text that is below a key, or above it, is another
other_text : (t key : List ℕ) → order t key ≢ Equal → bytes_eq key t ≡ false
other_text t key other = false_from_ne_true (bytes_eq key t) (λ same.
    let is : key ≡ t = (bytes_eq-Decides key t).0 same in
    other (rw is (tied_itself nat_list_cmp_total t)))

count_by-cons : (p : List ℕ → Bool) (t : List ℕ) (ts : List (List ℕ)) → count_by p (t ∷ ts) ≡ cond (p t) 1 0 + count_by p ts
count_by-cons p t ts = sum_by-cons (λ t. cond (p t) 1 0) t ts

-- where the first i texts pass a test and the others don't, i texts pass it
count_by-cut : (p : List ℕ → Bool) (ts : List (List ℕ)) (i : ℕ) → i ≤ length ts → ((k : ℕ) → k < i → p (get_or ts k []) ≡ true) → ((k : ℕ) → i ≤ k → k < length ts → p (get_or ts k []) ≡ false) → count_by p ts ≡ i
count_by-cut p [] i fits front back = omega arith
count_by-cut p (t ∷ ts) zero fits front back =
    let first : p t ≡ false = back 0 (omega arith) (omega arith) in
    let rest = count_by-cut p ts zero (omega arith) (λ k before. absurd (omega arith)) (λ k from inside. back (suc k) (omega arith) (omega arith)) in
    count_by-cons p t ts ∙ rw (first, rest) refl
count_by-cut p (t ∷ ts) (suc i) fits front back =
    let first : p t ≡ true = front 0 (omega arith) in
    let rest = count_by-cut p ts i (omega arith) (λ k before. front (suc k) (omega arith)) (λ k from inside. back (suc k) (omega arith) (omega arith)) in
    count_by-cons p t ts ∙ rw (first, rest) (omega arith)

-- the first that passes a test, or none
ok_or-position : (p : List ℕ → Bool) (ts : List (List ℕ)) (i e : ℕ) → position_or_len p ts ≡ i → i < length ts → ok_or (position p ts) e ≡ Ok i
ok_or-position p ts i e is inside =
    let test : nat_lt i (length ts) ≡ true = lt-ltb i (length ts) inside in
    rw (is, test) refl

ok_or-position_none : (p : List ℕ → Bool) (ts : List (List ℕ)) (e : ℕ) → length ts ≤ position_or_len p ts → ok_or (position p ts) e ≡ Err e
ok_or-position_none p ts e past =
    let test : nat_lt (position_or_len p ts) (length ts) ≡ false = grind (arith, nat_tests) in
    rw test refl

-- a search that finds the key at its place gives that
pub search_result-found : (ts : List (List ℕ)) (key : List ℕ) (i : ℕ) → IsFirstNotBelow key ts i → slice_get ts i ≡ Some key → Ok i ≡ search_result ts key
unfolding search_result
search_result-found ts key i h at =
    let inside = slice_get_within ts i key at in
    let same : key ≡ get_or ts i [] = sym (get_or_from_slice_get ts i key [] at) in
    let is = position_or_len_is (bytes_eq key) ts i [] h.inside (λ k before. other_text (get_or ts k []) key (λ tied. let less = h.below k before in cc)) (λ _. (bytes_eq-Decides key (get_or ts i [])).1 same) in
    sym (ok_or-position (bytes_eq key) ts i (count_by (λ t. is_lt (order t key)) ts) is inside)

-- and one that doesn't, the place for it
pub search_result-absent : (ts : List (List ℕ)) (key : List ℕ) (i : ℕ) → IsPlaceFor key ts i → Err i ≡ search_result ts key
unfolding search_result
search_result-absent ts key i h =
    let other : (k : ℕ) → k < length ts → bytes_eq key (get_or ts k []) ≡ false = λ k inside. other_text (get_or ts k []) key (elim (cases_lt k i) [
      | inl before ↦ (λ tied. let less = h.below k before in cc)
      | inr from ↦ (λ tied. let more = h.above k from inside in cc)
    ]) in
    let none = position_or_len_is (bytes_eq key) ts (length ts) [] (omega arith) other (λ inside. absurd (omega arith)) in
    let count = count_by-cut (λ t. is_lt (order t key)) ts i h.inside (λ k before. rw (h.below k before) refl) (λ k from inside. rw (h.above k from inside) refl) in
    sym (ok_or-position_none (bytes_eq key) ts (count_by (λ t. is_lt (order t key)) ts) (omega (arith, none)) ∙ ap Err count)

-- ---- the place of the next text

-- among strictly ascending texts it is the number of those below the key
IsFirstNotBelow-counted : (ts : List (List ℕ)) (key : List ℕ) → IsRising ts → IsFirstNotBelow key ts (count_by (λ t. is_lt (order t key)) ts)
IsFirstNotBelow-counted ts key up =
    let below : List ℕ → Bool = λ t. is_lt (order t key) in
    let i = prefix_len below ts in
    let first : IsFirstNotBelow key ts i = record {
      inside = prefix_len-le-length below ts;
      below = λ k before. Less-from_is_lt (order (text_at ts k) key) (prefix_len_passes below ts k [] before);
      not_below = λ k from inside less. false≢true (sym (prefix_len_stops below ts [] (omega arith)) ∙ ap is_lt (below_from_rising ts key i k up from inside less));
    } in
    let count = count_by-cut below ts i first.inside (λ k before. ap is_lt (first.below k before)) (λ k from inside. false_from_ne_true (below (get_or ts k [])) (λ passes. first.not_below k from inside (Less-from_is_lt (order (text_at ts k) key) passes))) in
    rw count first

-- ---- what a search gives, of plain lists

result_ok-ok_or : (o : Option ℕ) (e : ℕ) → result_ok (ok_or o e) ≡ o
result_ok-ok_or None e = refl
result_ok-ok_or (Some i) e = refl

is_ok-ok_or : (o : Option ℕ) (e : ℕ) → is_ok (ok_or o e) ≡ is_some o
is_ok-ok_or None e = refl
is_ok-ok_or (Some i) e = refl

-- its Ok is what `position` finds
pub result_ok-search_result : (ts : List (List ℕ)) (t : List ℕ) → result_ok (search_result ts t) ≡ position (bytes_eq t) ts
unfolding search_result
result_ok-search_result ts t = result_ok-ok_or (position (bytes_eq t) ts) (count_by (λ s. is_lt (order s t)) ts)

pub IsOk-search_result : (ts : List (List ℕ)) (t : List ℕ) → IsOk (search_result ts t) ↔ Contains ts t
unfolding search_result
IsOk-search_result ts t = rw (is_ok-ok_or (position (bytes_eq t) ts) (count_by (λ s. is_lt (order s t)) ts)) (text_position-some t ts)

pub search_result-at : (ts : List (List ℕ)) (t : List ℕ) (i : ℕ) → search_result ts t ≡ Ok i → slice_get ts i ≡ Some t
search_result-at ts t i is = text_position-at t ts i (sym (result_ok-search_result ts t) ∙ ap result_ok is)

-- among sorted texts each has one place, which a search gives
pub search_result-own : (ts : List (List ℕ)) (t : List ℕ) (i : ℕ) → IsRising ts → slice_get ts i ≡ Some t → search_result ts t ≡ Ok i
search_result-own ts t i up at =
    let tied : order (text_at ts i) t ≡ Equal = rw (get_or_from_slice_get ts i t [] at) (tied_itself nat_list_cmp_total t) in
    sym (search_result-found ts t i (IsFirstNotBelow-same ts t i up (slice_get_within ts i t at) tied) at)

pub search_result-place : (ts : List (List ℕ)) (t : List ℕ) (i : ℕ) → IsRising ts → search_result ts t ≡ Err i → IsPlaceFor t ts i
unfolding search_result
search_result-place ts t i up is =
    let e = count_by (λ s. is_lt (order s t)) ts in
    elim (cases_lt (position_or_len (bytes_eq t) ts) (length ts)) [
      | inl inside ↦ (let found = ok_or-position (bytes_eq t) ts (position_or_len (bytes_eq t) ts) e refl inside in absurd (cc))
      | inr past ↦ (let missed : e ≡ i = (let h = ok_or-position_none (bytes_eq t) ts e past in cc) in
          let other : e < length ts → text_at ts e ≢ t = λ within same. false≢true (sym (fails_before_first (bytes_eq t) ts e [] (omega arith)) ∙ (bytes_eq-Decides t (text_at ts e)).1 (sym same)) in
          subst (λ (x : ℕ). IsPlaceFor t ts x) missed (IsPlaceFor-missed ts t e up (IsFirstNotBelow-counted ts t up) other))
    ]

-- so it is the index of the text, or else its place
pub IsSearched-result : (ts : List (List ℕ)) (t : List ℕ) (r : Result ℕ ℕ) → IsRising ts → r ≡ search_result ts t → IsSearched t ts r
IsSearched-result ts t (Ok i) up is = record { found = search_result-at ts t i (sym is); place = tt; exact = rw (← is) at (IsOk-search_result ts t) }
IsSearched-result ts t (Err i) up is = record { found = tt; place = search_result-place ts t i up (sym is); exact = rw (← is) at (IsOk-search_result ts t) }

-- ---- the next key, and the value

is_le-from_not_above : (o : Ordering) → o ≢ Greater → is_le o ≡ true
is_le-from_not_above Less h = refl
is_le-from_not_above Equal h = refl
is_le-from_not_above Greater h = absurd (h refl)

-- what a search returns, as the place after the key, or its place
abbrev pub place_after : Result ℕ ℕ → ℕ
place_after (Ok i) = i + 1
place_after (Err i) = i

-- no text before that is above the key
abbrev pub AreNotAbove : List (List ℕ) → List ℕ → ℕ → Type 0
AreNotAbove ts key m = (m ≤ length ts) × ((k : ℕ) → k < m → IsTrue (is_le (order (text_at ts k) key)))

not_above_found : (ts : List (List ℕ)) (key : List ℕ) (i : ℕ) → IsRising ts → i < length ts → key ≡ text_at ts i → AreNotAbove ts key (i + 1)
not_above_found ts key i up inside is = (omega arith, λ k before. rw is (is_le-from_not_above (order (text_at ts k) (text_at ts i)) (not_above ts k i up (omega arith) inside)))

pub not_above_before : (ts : List (List ℕ)) (key : List ℕ) (r : Result ℕ ℕ) → IsRising ts → r ≡ search_result ts key → AreNotAbove ts key (place_after r)
not_above_before ts key (Ok i) up is =
    let here = search_result-at ts key i (sym is) in
    not_above_found ts key i up (slice_get_within ts i key here) (sym (get_or_from_slice_get ts i key [] here))
not_above_before ts key (Err i) up is =
    let place = search_result-place ts key i up (sym is) in
    (place.inside, λ k before. rw (place.below k before) refl)

-- what a search gives for one key, it gives for the same key
pub search_result-same : (ts : List (List ℕ)) (key other : List ℕ) (r : Result ℕ ℕ) → r ≡ search_result ts key → order key other ≡ Equal → r ≡ search_result ts other
search_result-same ts key other r is tied = is ∙ ap (search_result ts) ((cmp_is_same key other).0 tied)

-- the value at what a search among the keys gives is that of the key
value-zip : (ks vs : List (List ℕ)) (es : Entries) (key : List ℕ) (r : Result ℕ ℕ) → zip ks vs ≡ es → length vs ≡ length ks → IsRising ks → r ≡ search_result ks key → value_at vs r ≡ get es key
value-zip ks vs es key (Ok i) is same up found = sym (get-zip ks vs es key i is same (DifferentKeys-rising ks up) (search_result-at ks key i (sym found)))
value-zip ks vs es key (Err i) is same up missed =
    sym (get-zip_absent ks vs es key is same (λ found. false≢true (rw (← missed) at ((IsOk-search_result ks key).1 found))))

-- of each of many keys
pub values-zip : (ks vs : List (List ℕ)) (es : Entries) (keys : List (List ℕ)) → zip ks vs ≡ es → length vs ≡ length ks → IsRising ks → map (value_at vs) (map (search_result ks) keys) ≡ map (get es) keys
values-zip ks vs es [] is same up = refl
values-zip ks vs es (key ∷ keys) is same up = rw (value-zip ks vs es key (search_result ks key) is same up refl, values-zip ks vs es keys is same up) refl

pub ruleset values = (keys_of-zip, values-zip)
