-- Maps that are packed with hashed keys.
use Rattle.std.proofs.Common.{◌≡◌, ℕ, ◌<◌, ◌≤◌, ◌∙◌, List, [], ◌∷◌, ◌++◌, All, IsSome, true, ap, append_assoc, arith, length, map, refl, sym, unwrap_or}
use Rattle.std.specs.Cmp.Lexicographic.{slice_cmp}
use Rattle.std.specs.List.{Contains, count_by, filter, flat_map, slice_get, zip}
use Rattle.std.specs.List.Sorted.{IsStrictlySortedBy}
use Rattle.std.specs.Map.{keys_of, values_of}
use Rattle.std.specs.Ordering.{eq_by_cmp, nat_cmp}
use Rattle.std.specs.Result.{IfErr}
use Rattle.std.specs.Set.{is_member}
use Rattle.std.specs.Str.{bytes_eq}
use Rattle.std.specs.declared.option.Option.{Option}
use Rattle.std.specs.declared.option.Option.TheVariants.{None, Some}
use Rattle.std.specs.declared.result.Result.{Result}
use Rattle.std.specs.declared.result.Result.TheVariants.{Ok, Err}
use Rattle.std.proofs.Math.Seq.{get_or-append_seam}
use Rattle.std.proofs.lemmas.Cmp.{eq_by_cmp_equiv, nat_list_cmp_total}
use Rattle.std.proofs.lemmas.Grind.{flat_map-append}
use Rattle.std.proofs.lemmas.List.{append-nil, length-append, length-map, map-append}
use Rattle.std.proofs.lemmas.List.Elements.{All-append, All-cons, All-contains, All-nil, filter_passes}
use Rattle.std.proofs.lemmas.List.Kept.{IsStrictlySortedBy-filter}
use Rattle.std.proofs.lemmas.List.Sums.{length-filter}
use Rattle.std.proofs.lemmas.Map.Keys.{IsDistinct-from_sorted}
use Rattle.std.proofs.lemmas.Map.Made.{IsDistinct-from_AllPairs, is_member-Decides, keys_of-zip, length-le_from_is_member}
use Rattle.std.proofs.lemmas.Map.Views.{Contains-keys_from_lookup, IsSome-lookup_from_Contains}
use Rattle.std.proofs.lemmas.Option.{slice_get-map, slice_get_read}
use Rattle.std.proofs.lemmas.Slice.Eq.{bytes_eq-Decides}
use Rattle.std.proofs.lemmas.Slice.Zip.{seconds-zip}
use Rattle.tinystr_words.specs.Text.{IsStrictText, pad}
use Rattle.tinystr_packed.specs.Map.{get}
use Rattle.tinystr_packed.proofs.PackedMaps.{Entries, get-absent, get-zip, same-Decides}
use Rattle.tinystr_hashed.specs.Hashing.{AreDistinct}
use Rattle.tinystr_hashed.specs.Packing.{ArePackedHashed, RefusesToPack, ArePackedHashedEntries, ArePackedHashedTexts, IsNotDuplicate}
use Rattle.tinystr_hashed.specs.Reading.{IsHashed, pilots_of, place_by}
use Rattle.tinystr_hashed.specs.declared.packing.PackHashedError.{PackHashedError}
use Rattle.tinystr_hashed.specs.declared.packing.PackHashedError.TheVariants.{Duplicate, Memory}
use Rattle.tinystr_hashed.proofs.ForCallers.{hashed_once}
use Rattle.tinystr_hashed.proofs.Lookups.{AreDistinct-ordered}

-- ---- no key occurs twice

only_one : (ks : List (List ℕ)) (t q : List ℕ) → is_member (eq_by_cmp (slice_cmp nat_cmp)) (filter (bytes_eq t) ks) q ≡ true → is_member (eq_by_cmp (slice_cmp nat_cmp)) (t ∷ []) q ≡ true
only_one ks t q here =
    let found = (is_member-Decides same-Decides (filter (bytes_eq t) ks) q).0 here in
    let is_t : t ≡ q = (bytes_eq-Decides t q).0 (All-contains (λ s. bytes_eq t s ≡ true) (filter (bytes_eq t) ks) q (filter_passes (bytes_eq t) ks) found) in
    (is_member-Decides same-Decides (t ∷ []) q).1 (0, omega arith, is_t)

at_most_once : (ks : List (List ℕ)) (t : List ℕ) → IsStrictlySortedBy (slice_cmp nat_cmp) ks → count_by (bytes_eq t) ks ≤ 1
at_most_once ks t sorted =
    let distinct = IsDistinct-from_sorted (slice_cmp nat_cmp) (filter (bytes_eq t) ks) (IsStrictlySortedBy-filter (slice_cmp nat_cmp) (bytes_eq t) ks sorted) in
    let few = length-le_from_is_member (eq_by_cmp_equiv nat_list_cmp_total) (filter (bytes_eq t) ks) (t ∷ []) distinct (only_one ks t) in
    omega (arith, few, length-filter (bytes_eq t) ks)

IsNotDuplicate-sorted : {n : ℕ} (e : PackHashedError n) (ks : List (List ℕ)) → IsStrictlySortedBy (slice_cmp nat_cmp) ks → RefusesToPack e ks → IsNotDuplicate e
IsNotDuplicate-sorted (Duplicate t) ks sorted twice = absurd (omega (arith, at_most_once ks t sorted))
IsNotDuplicate-sorted Memory ks sorted h = tt

pub fault-sorted : {n : ℕ} {A : Type 0} (r : Result A (PackHashedError n)) (ks : List (List ℕ)) → IsStrictlySortedBy (slice_cmp nat_cmp) ks → IfErr r (λ e. RefusesToPack e ks) → IfErr r (λ e. IsNotDuplicate e)
fault-sorted (Ok made) ks sorted h = tt
fault-sorted (Err e) ks sorted h = IsNotDuplicate-sorted e ks sorted h

-- ---- the values of the keys

-- the value that a map has for a key of its own
abbrev pub value_in : Entries → List ℕ → List ℕ
value_in es key = unwrap_or (get es key) []

-- the values of the first keys are written: each is of a kind, and is packed in a form
pub record WritesFirst (es : Entries) (ks rest : List (List ℕ)) (values : List ℕ) (IsValue : List ℕ → Type 0) (form : List ℕ → List ℕ) : Type 0 where
  pub done : List (List ℕ)
  pub split : ks ≡ done ++ rest
  pub each : All IsValue (map (value_in es) done)
  pub joined : values ≡ flat_map form (map (value_in es) done)

-- none yet
pub WritesFirst-none : (es : Entries) (ks : List (List ℕ)) (IsValue : List ℕ → Type 0) (form : List ℕ → List ℕ) → WritesFirst es ks ks [] IsValue form
WritesFirst-none es ks IsValue form = record { done = []; split = refl; each = All-nil IsValue; joined = refl }

-- one more
pub WritesFirst-more : (es : Entries) (ks rest more : List (List ℕ)) (values key v values' : List ℕ) (IsValue : List ℕ → Type 0) (form : List ℕ → List ℕ) → WritesFirst es ks rest values IsValue form
    → rest ≡ key ∷ more → get es key ≡ Some v → IsValue v → values' ≡ values ++ form v → WritesFirst es ks more values' IsValue form
WritesFirst-more es ks rest more values key v values' IsValue form h next found is_value written =
    let is : value_in es key ≡ v = ap (λ (o : Option (List ℕ)). unwrap_or o []) found in
    let vs : map (value_in es) (h.done ++ key ∷ []) ≡ map (value_in es) h.done ++ v ∷ [] = map-append (value_in es) h.done (key ∷ []) ∙ ap (λ (x : List ℕ). map (value_in es) h.done ++ x ∷ []) is in
    record {
      done = h.done ++ key ∷ [];
      split = rw (append_assoc, ← next) h.split;
      each = rw vs (All-append IsValue (map (value_in es) h.done) (v ∷ []) h.each (All-cons IsValue v [] is_value (All-nil IsValue)));
      joined = rw (written, vs, flat_map-append form (map (value_in es) h.done) (v ∷ []), append-nil (form v)) (ap (λ (l : List ℕ). l ++ form v) h.joined);
    }

-- all
pub WritesFirst-all : (es : Entries) (ks rest : List (List ℕ)) (values : List ℕ) (IsValue : List ℕ → Type 0) (form : List ℕ → List ℕ) → WritesFirst es ks rest values IsValue form → rest ≡ []
    → All IsValue (map (value_in es) ks) × (values ≡ flat_map form (map (value_in es) ks))
WritesFirst-all es ks rest values IsValue form h none =
    let all : ks ≡ h.done = h.split ∙ ap (λ (l : List (List ℕ)). h.done ++ l) none ∙ append-nil h.done in
    rw all (h.each, h.joined)

-- the next is one of the keys
pub Contains-next : (es : Entries) (ks rest more : List (List ℕ)) (values key : List ℕ) (IsValue : List ℕ → Type 0) (form : List ℕ → List ℕ) → WritesFirst es ks rest values IsValue form
    → rest ≡ key ∷ more → Contains ks key
Contains-next es ks rest more values key IsValue form h next =
    let split : ks ≡ h.done ++ key ∷ more = h.split ∙ ap (λ (l : List (List ℕ)). h.done ++ l) next in
    rw split (length h.done, simp length-append (omega arith), get_or-append_seam h.done key more key)

-- ---- the entries with hashed keys

-- a table of the keys has no other
same_keys : (es : Entries) (ks : List (List ℕ)) (keys : List ℕ) (n : ℕ) → 0 < n → IsHashed ks keys n → ArePackedHashed (keys_of es) keys n → (t : List ℕ) → (Contains ks t → Contains (keys_of es) t) × (Contains (keys_of es) t → Contains ks t)
same_keys es ks keys n some h packed t = rw (hashed_once n ks packed.made keys some h packed.hashed) (packed.same t)

-- so the map has a value for each of its texts
pub IsSome-key : (es : Entries) (ks : List (List ℕ)) (keys key : List ℕ) (n : ℕ) → 0 < n → IsHashed ks keys n → ArePackedHashed (keys_of es) keys n → Contains ks key → IsSome (get es key)
IsSome-key es ks keys key n some h packed here = IsSome-lookup_from_Contains (eq_by_cmp_equiv nat_list_cmp_total) key es ((same_keys es ks keys n some h packed key).0 here)

-- the entries in the order of these keys
abbrev entries_by : Entries → List (List ℕ) → Entries
entries_by es ks = zip ks (map (value_in es) ks)

keys_of-entries_by : (es : Entries) (ks : List (List ℕ)) → keys_of (entries_by es ks) ≡ ks
keys_of-entries_by es ks = keys_of-zip ks (map (value_in es) ks) (length-map ks (value_in es))

values_of-entries_by : (es : Entries) (ks : List (List ℕ)) → values_of (entries_by es ks) ≡ map (value_in es) ks
values_of-entries_by es ks = seconds-zip ks (map (value_in es) ks) (length-map ks (value_in es))

-- they have the same value for one of these keys
get-entries_by : (es : Entries) (ks : List (List ℕ)) (key : List ℕ) → AreDistinct ks → Contains ks key → get (entries_by es ks) key ≡ Some (value_in es key)
get-entries_by es ks key distinct here =
    let at : slice_get ks here.0 ≡ Some key = slice_get_read ks (length ks) here.0 key refl here.1 (sym here.2) in
    get-zip ks (map (value_in es) ks) (entries_by es ks) key here.0 refl (length-map ks (value_in es)) (IsDistinct-from_AllPairs same-Decides ks distinct) at
    ∙ rw (slice_get-map (value_in es) ks here.0, at) refl

-- and for any other there is none
same_value : (es : Entries) (ks : List (List ℕ)) (key : List ℕ) (o : Option (List ℕ)) → AreDistinct ks → ((t : List ℕ) → (Contains ks t → Contains (keys_of es) t) × (Contains (keys_of es) t → Contains ks t)) → o ≡ get es key
    → get (entries_by es ks) key ≡ o
same_value es ks key None distinct same is =
    get-absent (entries_by es ks) key (λ here. let found = rw (← is) at (IsSome-lookup_from_Contains (eq_by_cmp_equiv nat_list_cmp_total) key es ((same key).0 (rw (keys_of-entries_by es ks) at here))) in cc)
same_value es ks key (Some v) distinct same is =
    let found = Contains-keys_from_lookup (λ t s. (same-Decides t s).0) key es (rw (← is) refl) in
    get-entries_by es ks key distinct ((same key).1 found) ∙ rw (← is) refl

get-same : (es : Entries) (ks : List (List ℕ)) (keys key : List ℕ) (n : ℕ) → 0 < n → IsHashed ks keys n → ArePackedHashed (keys_of es) keys n → get (entries_by es ks) key ≡ get es key
get-same es ks keys key n some h packed =
    same_value es ks key (get es key) (AreDistinct-ordered (pilots_of keys) (place_by keys n (length ks)) ks h.ordered) (same_keys es ks keys n some h packed) refl

-- arrays of m bytes
pub ArePackedHashedEntries-new : (es : Entries) (ks rest : List (List ℕ)) (keys values : List ℕ) (n m : ℕ) → 0 < n → IsHashed ks keys n → ArePackedHashed (keys_of es) keys n
    → WritesFirst es ks rest values (λ (v : List ℕ). length v ≡ m) (λ (v : List ℕ). v) → rest ≡ [] → ArePackedHashedEntries es keys values n m
ArePackedHashedEntries-new es ks rest keys values n m some h packed written none =
    let all = WritesFirst-all es ks rest values (λ (v : List ℕ). length v ≡ m) (λ (v : List ℕ). v) written none in
    let vs = values_of-entries_by es ks in
    record {
      made = entries_by es ks;
      hashed = record { hashed = rw (keys_of-entries_by es ks) h; long = rw vs all.0; joined_values = rw vs all.1 };
      same = λ key. get-same es ks keys key n some h packed;
    }

-- texts of at most m bytes
pub ArePackedHashedTexts-new : (es : Entries) (ks rest : List (List ℕ)) (keys values : List ℕ) (n m : ℕ) → 0 < n → IsHashed ks keys n → ArePackedHashed (keys_of es) keys n
    → WritesFirst es ks rest values (λ (v : List ℕ). IsStrictText v m) (λ (v : List ℕ). pad v m) → rest ≡ [] → ArePackedHashedTexts es keys values n m
ArePackedHashedTexts-new es ks rest keys values n m some h packed written none =
    let all = WritesFirst-all es ks rest values (λ (v : List ℕ). IsStrictText v m) (λ (v : List ℕ). pad v m) written none in
    let vs = values_of-entries_by es ks in
    record {
      made = entries_by es ks;
      hashed = record { hashed = rw (keys_of-entries_by es ks) h; strict_values = rw vs all.0; joined_values = rw vs all.1 };
      same = λ key. get-same es ks keys key n some h packed;
    }
