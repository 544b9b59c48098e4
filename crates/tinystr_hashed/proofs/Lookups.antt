-- Where no two texts are equal, a key is one of them exactly if it is the text at its own place.
use Rattle.std.proofs.Common.{List, [], ap, arith, false, get_or, length, ℕ, refl, sym, true, ◌<◌, ◌∙◌, ◌∷◌, ◌≡◌, ◌≢◌, ◌↔◌}
use Rattle.std.specs.Cmp.Lexicographic.{slice_cmp}
use Rattle.std.specs.List.{Contains, position, position_or_len, slice_get}
use Rattle.std.specs.List.Sorted.{IsStrictlySortedBy}
use Rattle.std.specs.Ordering.{nat_cmp}
use Rattle.std.specs.Option.{IfSome}
use Rattle.std.specs.Prelude.{IsNone, IsSome, nat_lt}
use Rattle.std.specs.declared.option.Option.{Option}
use Rattle.std.specs.Result.{result_ok}
use Rattle.std.specs.Str.{bytes_eq}
use Rattle.std.specs.declared.cmp.Ordering.TheVariants.{Less, Equal}
use Rattle.std.specs.declared.option.Option.TheVariants.{None, Some}
use Rattle.std.specs.declared.result.Result.{Result}
use Rattle.std.specs.declared.result.Result.TheVariants.{Err, Ok}
use Rattle.std.proofs.lemmas.Bool.{false_from_ne_true, lt-ltb}
use Rattle.std.proofs.lemmas.Bool.Decides.{nat_tests}
use Rattle.std.proofs.lemmas.Cmp.{nat_list_cmp_total, tied_itself}
use Rattle.std.proofs.lemmas.List.{get_or_default}
use Rattle.std.proofs.lemmas.List.Sums.{position_or_len_is}
use Rattle.std.proofs.lemmas.Map.Keys.{Less-from_sorted, sorted_from_all_adjacent}
use Rattle.std.proofs.lemmas.Option.{get_or_from_slice_get, slice_get-get_or, slice_get_within}
use Rattle.std.proofs.lemmas.Slice.Eq.{bytes_eq-Decides}
use Rattle.tinystr_words.proofs.Parts.Found.{text_position-at, text_position-some}
use Rattle.tinystr_packed.specs.Rising.{IsRising, IsSearched}
use Rattle.tinystr_hashed.specs.Hashing.{ArePlaced, AreDistinct, AreOrdered}
use Rattle.tinystr_hashed.proofs.Placed.{ArePackedRising-records}

-- ---- no two texts are equal

pub AreDistinct-placed : (place : List ℕ → ℕ) (ts : List (List ℕ)) → ArePlaced place ts → AreDistinct ts
AreDistinct-placed place ts placed i j d before inside same =
    let here : i < length ts = omega arith in
    let texts : get_or ts i [] ≡ get_or ts j [] = get_or_default ts i [] d here ∙ same ∙ get_or_default ts j d [] inside in
    let places : i ≡ j = sym (placed i here) ∙ ap place texts ∙ placed j inside in
    omega arith

pub AreDistinct-rising : (ts : List (List ℕ)) → IsRising ts → AreDistinct ts
AreDistinct-rising ts up i j d before inside same =
    let strict : IsStrictlySortedBy (slice_cmp nat_cmp) ts = sorted_from_all_adjacent nat_list_cmp_total ts [] (λ k next. up k next) in
    let less : slice_cmp nat_cmp (get_or ts i d) (get_or ts j d) ≡ Less = Less-from_sorted (slice_cmp nat_cmp) ts i j d strict before inside in
    let tied : slice_cmp nat_cmp (get_or ts i d) (get_or ts j d) ≡ Equal = rw same (tied_itself nat_list_cmp_total (get_or ts j d)) in
    let other : Less ≡ Equal = sym less ∙ tied in
    cc

pub AreDistinct-ordered : (pilots : List ℕ) (place : List ℕ → ℕ) (ts : List (List ℕ)) → AreOrdered pilots place ts → AreDistinct ts
AreDistinct-ordered [] place ts h = AreDistinct-rising ts (h.rising refl)
AreDistinct-ordered (p ∷ ps) place ts h = AreDistinct-placed place ts (h.placed (omega arith))

-- ---- the key is one of them

pub position-at : (ts : List (List ℕ)) (key : List ℕ) (p : ℕ) → AreDistinct ts → slice_get ts p ≡ Some key → Some p ≡ position (bytes_eq key) ts
position-at ts key p distinct at =
    let inside : p < length ts = slice_get_within ts p key at in
    let same : key ≡ get_or ts p [] = sym (get_or_from_slice_get ts p key [] at) in
    let other : (k : ℕ) → k < p → bytes_eq key (get_or ts k []) ≡ false =
    λ k before. false_from_ne_true (bytes_eq key (get_or ts k [])) (λ yes. distinct k p [] before inside (sym ((bytes_eq-Decides key (get_or ts k [])).0 yes) ∙ same)) in
    let first : position_or_len (bytes_eq key) ts ≡ p = position_or_len_is (bytes_eq key) ts p [] (omega arith) other (λ _. (bytes_eq-Decides key (get_or ts p [])).1 same) in
    let test : nat_lt p (length ts) ≡ true = lt-ltb p (length ts) inside in
    rw (first, test) refl

-- ---- the key is none of them

pub position-none : (ts : List (List ℕ)) (key : List ℕ) → ¬ Contains ts key → None ≡ position (bytes_eq key) ts
position-none ts key other =
    let none : position_or_len (bytes_eq key) ts ≡ length ts =
    position_or_len_is (bytes_eq key) ts (length ts) [] (omega arith)
    (λ k inside. false_from_ne_true (bytes_eq key (get_or ts k [])) (λ same. other (k, inside, get_or_default ts k key [] inside ∙ sym ((bytes_eq-Decides key (get_or ts k [])).0 same))))
    (λ inside. absurd (omega arith)) in
    let test : nat_lt (length ts) (length ts) ≡ false = grind (arith, nat_tests) in
    rw (none, test) refl

-- the text at its place is another
pub Contains-absent : (place : List ℕ → ℕ) (ts : List (List ℕ)) (key : List ℕ) (p : ℕ) → ArePlaced place ts → p ≡ place key → slice_get ts p ≢ Some key → ¬ Contains ts key
Contains-absent place ts key p placed is other found =
    let k = found.0 in
    let same : get_or ts k [] ≡ key = get_or_default ts k [] key found.1 ∙ found.2 in
    let at : k ≡ p = sym (placed k found.1) ∙ ap place same ∙ sym is in
    other (rw (sym at) (slice_get-get_or ts k [] found.1 ∙ ap Some same))

-- a key is the text at its place, or none of them
pub position-placed : (place : List ℕ → ℕ) (ts : List (List ℕ)) (key : List ℕ) (p : ℕ) (r : Option ℕ) → ArePlaced place ts → p ≡ place key
    → IfSome r (λ i. (i ≡ p) × (slice_get ts i ≡ Some key)) → (IsNone r → slice_get ts p ≢ Some key) → r ≡ position (bytes_eq key) ts
position-placed place ts key p (Some i) placed is there elsewhere = position-at ts key i (AreDistinct-placed place ts placed) there.1
position-placed place ts key p None placed is there elsewhere = position-none ts key (Contains-absent place ts key p placed is (elsewhere refl))

-- ---- what a search among ascending texts finds

pub position-searched : (ts : List (List ℕ)) (key : List ℕ) (r : Result ℕ ℕ) → IsRising ts → IsSearched key ts r → result_ok r ≡ position (bytes_eq key) ts
position-searched ts key (Ok i) up h = position-at ts key i (AreDistinct-rising ts up) h.found
position-searched ts key (Err p) up h = position-none ts key (λ here. let found = h.exact.1 here in cc)

-- ---- what a position says

found-at : (ts : List (List ℕ)) (key : List ℕ) (r : Option ℕ) → r ≡ position (bytes_eq key) ts → IfSome r (λ i. slice_get ts i ≡ Some key)
found-at ts key None is = tt
found-at ts key (Some i) is = text_position-at key ts i (sym is)

-- it is that of the key, and there is one exactly if the key is one of the texts
pub found-exactly : (ts : List (List ℕ)) (key : List ℕ) (r : Option ℕ) → r ≡ position (bytes_eq key) ts → IfSome r (λ i. slice_get ts i ≡ Some key) × (IsSome r ↔ Contains ts key)
found-exactly ts key r is = (found-at ts key r is, rw is (text_position-some key ts))

pub ruleset halves = (position-searched, ArePackedRising-records)
