-- Maps whose keys and values are packed.
use Rattle.std.proofs.Common.{◌≡◌, ◌≢◌, ℕ, suc, zero, ◌<◌, ◌*◌, List, [], ◌∷◌, ◌++◌, length, take, drop, get_or, refl, sym, ap, ◌∙◌, arith, All, IsSome, IsTrue, Bool, ◌↔◌, is_some, Bor}
use Rattle.std.specs.BTreeMap.{is_at}
use Rattle.std.specs.Bool.{Decides, one_answer}
use Rattle.std.specs.Cmp.Lexicographic.{slice_cmp}
use Rattle.std.specs.List.{Contains, IsDistinct, flat_map, slice_get, zip}
use Rattle.std.specs.Map.{keys_of, values_of}
use Rattle.std.specs.Option.{option_map, option_copied}
use Rattle.std.specs.Slice.{IsItemAt}
use Rattle.std.specs.Ordering.{nat_cmp, eq_by_cmp}
use Rattle.std.specs.Simd.{first_chunks}
use Rattle.std.specs.declared.option.Option.{Option}
use Rattle.std.specs.declared.option.Option.TheVariants.{Some, None}
use Rattle.std.proofs.Math.Nat.{suc-mul, zero-mul}
use Rattle.std.proofs.lemmas.Cmp.{nat_list_cmp_total, eq_by_cmp_equiv}
use Rattle.std.proofs.lemmas.List.{get_or-map, length-append, length-drop, length-take, take-append-drop}
use Rattle.std.proofs.lemmas.List.Elements.{All-cons, All-nil, All-head, All-tail}
use Rattle.std.proofs.lemmas.Map.Entries.{lookup_from_place, length-keys_of, length-values_of}
use Rattle.std.proofs.lemmas.Map.Keys.{sorted_from_all_adjacent, IsDistinct-from_sorted}
use Rattle.std.proofs.lemmas.Map.Made.{is_member-Decides, is_some-lookup, keys_of-zip}
use Rattle.std.proofs.lemmas.Map.Text.{is_eq-slice_cmp}
use Rattle.std.proofs.lemmas.Map.Views.{Contains-keys_from_lookup}
use Rattle.std.proofs.lemmas.Option.{slice_get-get_or, slice_get-map, slice_get_past, get_or_from_slice_get, slice_get_within}
use Rattle.std.proofs.lemmas.Slice.Eq.{bytes_eq-Decides}
use Rattle.std.proofs.lemmas.Slice.Zip.{get_or-zip, length-zip, seconds-zip}
use Rattle.tinystr_words.specs.Text.{IsStrictText}
use Rattle.tinystr_words.proofs.Reading.Records.{AllStrict, length-first_chunks}
use Rattle.tinystr_packed.proofs.PackedTexts.{packed_injective}
use Rattle.tinystr_packed.specs.Map.{ArePacked, get}
use Rattle.tinystr_packed.specs.Rising.{ArePackedRising, IsRising}

-- chunks of the whole list, joined, are the list
pub flat_map-first_chunks : (m k : ℕ) (xs : List ℕ) → length xs ≡ k * m → flat_map (λ (v : List ℕ). v) (first_chunks m k xs) ≡ xs
flat_map-first_chunks m zero [] e = refl
flat_map-first_chunks m zero (x ∷ xs) e = absurd (omega (arith, zero-mul m))
flat_map-first_chunks m (suc k) xs e =
    rw (flat_map-first_chunks m k (drop m xs) (omega (arith, length-drop m xs, suc-mul k m))) (take-append-drop m xs)

-- and each has its length
pub All-first_chunks : (m k : ℕ) (xs : List ℕ) → length xs ≡ k * m → All (λ (v : List ℕ). length v ≡ m) (first_chunks m k xs)
All-first_chunks m zero xs e = All-nil (λ (v : List ℕ). length v ≡ m)
All-first_chunks m (suc k) xs e =
    All-cons (λ (v : List ℕ). length v ≡ m) (take m xs) (first_chunks m k (drop m xs)) (omega (arith, length-take m xs, suc-mul k m)) (All-first_chunks m k (drop m xs) (omega (arith, length-drop m xs, suc-mul k m)))

abbrev pub Entries : Type 0
Entries = List (List ℕ × List ℕ)

pub same-Decides : (t s : List ℕ) → Decides (eq_by_cmp (slice_cmp nat_cmp) t s) (t ≡ s)
same-Decides t s = rw (is_eq-slice_cmp t s) (bytes_eq-Decides t s)

-- no two of some keys are the same
abbrev pub DifferentKeys : List (List ℕ) → Type 0
DifferentKeys ks = IsDistinct (eq_by_cmp (slice_cmp nat_cmp)) ks

pub DifferentKeys-rising : (ks : List (List ℕ)) → IsRising ks → DifferentKeys ks
DifferentKeys-rising ks up = IsDistinct-from_sorted (slice_cmp nat_cmp) ks (sorted_from_all_adjacent nat_list_cmp_total ks [] up)

-- then the value of a key is at its place
pub get-at : (es : Entries) (key : List ℕ) (i : ℕ) → DifferentKeys (keys_of es) → slice_get (keys_of es) i ≡ Some key → get es key ≡ slice_get (values_of es) i
get-at es key i distinct here =
    let inside : i < length es = omega (arith, slice_get_within (keys_of es) i key here, length-keys_of es) in
    let e = get_or es i (key, []) in
    let is_key : e.0 ≡ key = sym (get_or-map (λ (e : List ℕ × List ℕ). e.0) es i (key, []) key inside) ∙ get_or_from_slice_get (keys_of es) i key key here in
    let entry : slice_get es i ≡ Some (key, e.1) = slice_get-get_or es i (key, []) inside ∙ ap (λ (k : List ℕ). Some (k, e.1)) is_key in
    lookup_from_place (eq_by_cmp_equiv nat_list_cmp_total) es i key e.1 distinct entry
    ∙ sym (slice_get-map (λ (e : List ℕ × List ℕ). e.1) es i ∙ ap (λ (o : Option (List ℕ × List ℕ)). option_map (λ (e : List ℕ × List ℕ). e.1) o) entry)

none_from : (o : Option (List ℕ)) → ¬ IsSome o → o ≡ None
none_from None h = refl
none_from (Some v) h = absurd (h refl)

-- what isn't a key has no value
pub get-absent : (es : Entries) (key : List ℕ) → ¬ Contains (keys_of es) key → get es key ≡ None
get-absent es key absent = none_from (get es key) (λ some. absent (Contains-keys_from_lookup (λ t s. (same-Decides t s).0) key es some))

-- nor has what doesn't fit, where the keys do
pub get-unfit : (es : Entries) (key : List ℕ) (n : ℕ) → AllStrict n (keys_of es) → ¬ IsStrictText key n → get es key ≡ None
get-unfit es key n strict other = get-absent es key (λ found. other (rw found.2 at (strict found.0 key found.1)))

-- ---- the entries of keys and of as many values

pub get-zip : (ks vs : List (List ℕ)) (es : Entries) (key : List ℕ) (i : ℕ) → zip ks vs ≡ es → length vs ≡ length ks → DifferentKeys ks → slice_get ks i ≡ Some key → get es key ≡ slice_get vs i
get-zip ks vs es key i is same distinct here =
    rw (← is) (get-at (zip ks vs) key i (rw (keys_of-zip ks vs same) distinct) (rw (keys_of-zip ks vs same) here) ∙ ap (λ (l : List (List ℕ)). slice_get l i) (seconds-zip ks vs same))

pub get-zip_absent : (ks vs : List (List ℕ)) (es : Entries) (key : List ℕ) → zip ks vs ≡ es → length vs ≡ length ks → ¬ Contains ks key → get es key ≡ None
get-zip_absent ks vs es key is same absent = rw (← is) (get-absent (zip ks vs) key (λ found. absent (rw (keys_of-zip ks vs same) at found)))

-- whether the keys have a key is whether it has a value
pub is_some-zip : (ks vs : List (List ℕ)) (es : Entries) (key : List ℕ) (b : Bool) → zip ks vs ≡ es → length vs ≡ length ks → (IsTrue b ↔ Contains ks key) → b ≡ is_some (get es key)
is_some-zip ks vs es key b is same h =
    one_answer b (is_some (get es key)) h (rw (← is, is_some-lookup (is_at (slice_cmp nat_cmp key)) (zip ks vs), keys_of-zip ks vs same) (is_member-Decides same-Decides ks key))

-- what a slice lends at an index
pub option_copied-item : (xs : List (List ℕ)) (i : ℕ) (r : Option (Bor (List ℕ))) → IsItemAt xs i r → option_copied r ≡ slice_get xs i
option_copied-item xs i None h = sym (slice_get_past xs i h.3)
option_copied-item xs i (Some x) h = ap Some h.1 ∙ sym (slice_get-get_or xs i x.now h.3.0)

-- the last key has the last value
pub zip-last : (keys ks values vs : List (List ℕ)) (k v : List ℕ) → keys ≡ ks ++ k ∷ [] → values ≡ vs ++ v ∷ [] → length values ≡ length keys → zip keys values ≡ zip ks vs ++ (k, v) ∷ []
zip-last keys ks values vs k v is_key is_value same = rw (is_key, is_value) (seam ks vs (omega (arith, length-append ks (k ∷ []), length-append vs (v ∷ []), ap length is_key, ap length is_value))) where
  seam : (ks vs : List (List ℕ)) → length vs ≡ length ks → zip (ks ++ k ∷ []) (vs ++ v ∷ []) ≡ zip ks vs ++ (k, v) ∷ []
  seam [] [] e = refl
  seam [] (w ∷ vs) e = absurd (omega arith)
  seam (l ∷ ks) [] e = absurd (omega arith)
  seam (l ∷ ks) (w ∷ vs) e = ap (λ (es : Entries). (l, w) ∷ es) (seam ks vs (omega arith))

-- keys and values that are packed
pub ArePacked-new : (ks vs : List (List ℕ)) (keys values : List ℕ) (n m k : ℕ) → ArePackedRising ks keys n → length values ≡ k * m → k ≡ length ks → vs ≡ first_chunks m k values → ArePacked (zip ks vs) keys values n m
ArePacked-new ks vs keys values n m k h long count is =
    let same : length vs ≡ length ks = rw is (length-first_chunks m k values ∙ count) in
    let ks_are = keys_of-zip ks vs same in
    let vs_are = seconds-zip ks vs same in
    record {
      strict = rw ks_are h.strict;
      rising = rw ks_are h.rising;
      long = rw (vs_are, is) (All-first_chunks m k values long);
      joined_keys = rw ks_are h.joined;
      joined_values = rw (vs_are, is) (sym (flat_map-first_chunks m k values long));
    }

pub ArePackedRising-keys : (es : Entries) (keys values : List ℕ) (n m : ℕ) → ArePacked es keys values n m → ArePackedRising (keys_of es) keys n
ArePackedRising-keys es keys values n m h = record { strict = h.strict; joined = h.joined_keys; rising = h.rising }

-- lists of one length, joined
pub length-same : (vs : List (List ℕ)) (m : ℕ) → All (λ (v : List ℕ). length v ≡ m) vs → length (flat_map (λ (v : List ℕ). v) vs) ≡ length vs * m
length-same [] m h = sym (zero-mul m)
length-same (v ∷ vs) m h =
    omega (arith, length-append v (flat_map (λ (v : List ℕ). v) vs), All-head (λ (v : List ℕ). length v ≡ m) v vs h, length-same vs m (All-tail (λ (v : List ℕ). length v ≡ m) v vs h), suc-mul (length vs) m)

-- the bytes of entries are m for each key
pub length-ArePacked : (es : Entries) (keys values : List ℕ) (n m : ℕ) → ArePacked es keys values n m → length values ≡ length (keys_of es) * m
length-ArePacked es keys values n m h =
    rw (h.joined_values, length-same (values_of es) m h.long, length-values_of es, length-keys_of es)

-- where there aren't m bytes for each key, there are no entries
pub unmatched-no_entries : (ks : List (List ℕ)) (keys values : List ℕ) (n m : ℕ) → 0 < n → ArePackedRising ks keys n → length values ≢ length ks * m → ¬ ((es : Entries) × ArePacked es keys values n m)
unmatched-no_entries ks keys values n m some h other found =
    let same = packed_injective n (keys_of found.0) ks some found.1.strict h.strict (sym found.1.joined_keys ∙ h.joined) in
    other (rw (← same) (length-ArePacked found.0 keys values n m found.1))

pub ruleset map_steps = (keys_of-zip, seconds-zip, length-zip, length-keys_of, length-values_of)

pub ruleset last_entry = (zip-last, length-zip)

pub ruleset lookups = (DifferentKeys-rising, get-zip, get-zip_absent)

pub ruleset items = (option_copied-item)
