-- Texts that are packed as a hashed table.
use Rattle.std.proofs.Common.{◌≡◌, ◌≢◌, ℕ, ◌+◌, ◌<◌, ◌≤◌, ◌∙◌, List, [], ◌∷◌, ◌++◌, Bool, true, false, ap, sym, refl, arith, cond, get_or, length, inl, inr, add-one}
use Rattle.std.specs.Cmp.Lexicographic.{slice_cmp}
use Rattle.std.specs.List.{All, Contains, IsDistinct, count_by}
use Rattle.std.specs.List.Sorted.{IsPermutation, IsSorted}
use Rattle.std.specs.Ordering.{is_eq, is_lt, nat_cmp, ordering_reverse}
use Rattle.std.specs.Option.{IfSome, IsNone, MatchOption}
use Rattle.std.specs.Set.{is_member}
use Rattle.std.specs.Str.{bytes_eq}
use Rattle.std.specs.declared.cmp.Ordering.{Ordering}
use Rattle.std.specs.declared.cmp.Ordering.TheVariants.{Less, Equal, Greater}
use Rattle.std.specs.declared.option.Option.{Option}
use Rattle.std.specs.declared.option.Option.TheVariants.{None, Some}
use Rattle.std.proofs.lemmas.Bool.{true_from_ne_false}
use Rattle.std.proofs.lemmas.Cmp.{nat_list_cmp_total, nat_list_eq_equiv}
use Rattle.std.proofs.lemmas.List.{get_or_default, length-append}
use Rattle.std.proofs.lemmas.List.Elements.{All-contains, All-contains_itself, All-weaker, Contains-push_cases}
use Rattle.std.proofs.lemmas.List.Sorted.{IsPermutation-sym, sum_by-IsPermutation}
use Rattle.std.proofs.lemmas.List.Sums.{count_by_more_yes, sum_by-take-le}
use Rattle.std.proofs.lemmas.Map.Keys.{IsDistinct-IsPermutation, IsDistinct-push}
use Rattle.std.proofs.lemmas.Map.Made.{IsDistinct-from_AllPairs, is_member-Decides, length-le_from_is_member}
use Rattle.std.proofs.lemmas.Map.Text.{is_eq-slice_cmp}
use Rattle.std.proofs.lemmas.Slice.Eq.{bytes_eq-Decides}
use Rattle.tinystr_packed.specs.Rising.{order, text_at, IsRising}
use Rattle.tinystr_hashed.proofs.ForCallers.{hashed_once}
use Rattle.tinystr_hashed.proofs.Lookups.{AreDistinct-rising}
use Rattle.tinystr_hashed.specs.Packing.{ArePackedHashed}
use Rattle.tinystr_hashed.specs.Reading.{IsHashed}

-- a text is one of the texts exactly if the test says so
has_text : (texts : List (List ℕ)) (t : List ℕ) → is_member bytes_eq texts t ≡ true → Contains texts t
has_text texts t = (is_member-Decides (λ a b. bytes_eq-Decides a b) texts t).0

is_text : (texts : List (List ℕ)) (t : List ℕ) → Contains texts t → is_member bytes_eq texts t ≡ true
is_text texts t = (is_member-Decides (λ a b. bytes_eq-Decides a b) texts t).1

-- each text is one of those that are made, and so is one more
one_of : (made texts : List (List ℕ)) (t q : List ℕ) → All (λ s. Contains made s) texts → Contains made t → Contains (texts ++ t ∷ []) q → Contains made q
one_of made texts t q all found here =
    elim (Contains-push_cases texts t q here) [ inl old ↦ All-contains (λ s. Contains made s) texts q all old | inr new ↦ rw (← new) found ]

-- then those that are made are one more than the texts, if it is none of the texts
no_other : (made texts : List (List ℕ)) (t : List ℕ) → IsDistinct bytes_eq texts → length made ≡ length texts → All (λ s. Contains made s) texts → Contains made t → is_member bytes_eq texts t ≢ false
no_other made texts t distinct count all found other =
    let more : IsDistinct bytes_eq (texts ++ t ∷ []) = IsDistinct-push nat_list_eq_equiv texts t distinct other in
    let fewer : length (texts ++ t ∷ []) ≤ length made =
    length-le_from_is_member nat_list_eq_equiv (texts ++ t ∷ []) made more (λ q here. is_text made q (one_of made texts t q all found (has_text (texts ++ t ∷ []) q here))) in
    omega (arith, length-append texts (t ∷ []))

-- so a table of the same number of texts, which has each of them, has no other
pub packed : (made texts : List (List ℕ)) (bytes : List ℕ) (n : ℕ) → IsHashed made bytes n → length made ≡ length texts → All (λ s. Contains made s) texts → IsDistinct bytes_eq texts → ArePackedHashed texts bytes n
packed made texts bytes n hashed count all distinct = record {
  made = made;
  hashed = hashed;
  count = count;
  same = λ t. (λ found. has_text texts t (true_from_ne_false (is_member bytes_eq texts t) (no_other made texts t distinct count all found)), λ found. All-contains (λ s. Contains made s) texts t all found);
  distinct = distinct;
}

-- and a table of exactly the texts has each of them, and the same number
pub has_each : (made texts : List (List ℕ)) (bytes : List ℕ) (n : ℕ) → 0 < n → IsHashed made bytes n → ArePackedHashed texts bytes n → All (λ s. Contains made s) texts
has_each made texts bytes n some hashed packed =
    let same = hashed_once n made packed.made bytes some hashed packed.hashed in
    rw same (All-weaker (λ (t : List ℕ). Contains texts t) (λ (t : List ℕ). Contains packed.made t) (λ t. (packed.same t).1) texts (All-contains_itself texts))

pub has_same_number : (made texts : List (List ℕ)) (bytes : List ℕ) (n : ℕ) → 0 < n → IsHashed made bytes n → ArePackedHashed texts bytes n → length made ≡ length texts
has_same_number made texts bytes n some hashed packed = ap length (hashed_once n made packed.made bytes some hashed packed.hashed) ∙ packed.count

-- a text that is there twice
twice : (p : List ℕ → Bool) (texts : List (List ℕ)) (k : ℕ) → k + 1 < length texts → p (get_or texts k []) ≡ true → p (get_or texts (k + 1) []) ≡ true → 2 ≤ count_by p texts
twice p texts k inside first next =
    let one = count_by_more_yes p texts k [] (omega arith) first in
    let two = count_by_more_yes p texts (k + 1) [] inside next in
    omega (arith, one, two, sum_by-take-le (λ t. cond (p t) 1 0) texts (k + 1 + 1))

pub occurs_twice : (texts : List (List ℕ)) (k : ℕ) → k + 1 < length texts → text_at texts k ≡ text_at texts (k + 1) → 2 ≤ count_by (bytes_eq (text_at texts (k + 1))) texts
occurs_twice texts k inside same =
    let t = text_at texts (k + 1) in
    twice (bytes_eq t) texts k inside ((bytes_eq-Decides t (text_at texts k)).1 (sym same)) ((bytes_eq-Decides t t).1 refl)

-- and so it is in another order
occurs_twice-moved : (texts sorted : List (List ℕ)) (t : List ℕ) → IsPermutation texts sorted → 2 ≤ count_by (bytes_eq t) sorted → 2 ≤ count_by (bytes_eq t) texts
occurs_twice-moved texts sorted t moved twice = rw (← sum_by-IsPermutation (λ s. cond (bytes_eq t s) 1 0) texts sorted moved) twice

-- sorted texts that aren't equal to the next are each below it
rises : (t s : List ℕ) (o : Ordering) → o ≡ slice_cmp nat_cmp t s → is_lt (slice_cmp nat_cmp s t) ≡ false → t ≢ s → o ≡ Less
rises t s Less is up differ = refl
rises t s Equal is up differ = absurd (differ ((bytes_eq-Decides t s).0 (sym (is_eq-slice_cmp t s) ∙ ap is_eq (sym is))))
rises t s Greater is up differ =
    let back : slice_cmp nat_cmp s t ≡ Less = nat_list_cmp_total.antisymm s t ∙ ap ordering_reverse (sym is) in
    let same : true ≡ false = sym (ap is_lt back) ∙ up in
    cc

pub IsRising-differ : (sorted : List (List ℕ)) → IsSorted order sorted → ((k : ℕ) → k + 1 < length sorted → text_at sorted k ≢ text_at sorted (k + 1)) → IsRising sorted
IsRising-differ sorted up differ k inside =
    rises (text_at sorted k) (text_at sorted (k + 1)) (order (text_at sorted k) (text_at sorted (k + 1))) refl (up k [] (omega arith) inside) (differ k inside)

-- so no two are equal, in any order
pub distinct-rising : (texts sorted : List (List ℕ)) → IsPermutation texts sorted → IsRising sorted → IsDistinct bytes_eq texts
distinct-rising texts sorted moved up =
    let apart : IsDistinct bytes_eq sorted = IsDistinct-from_AllPairs (λ a b. bytes_eq-Decides a b) sorted (AreDistinct-rising sorted up) in
    IsDistinct-IsPermutation bytes_eq (nat_list_eq_equiv.symm) sorted texts (IsPermutation-sym texts sorted moved) apart

-- so what is found in the sorted texts holds of the texts
pub repeated-sorted : (texts sorted : List (List ℕ)) (found : Option (List ℕ)) → IsPermutation texts sorted → IsSorted (slice_cmp nat_cmp) sorted
    → (IsNone found → (k : ℕ) → k + 1 < length sorted → text_at sorted k ≢ text_at sorted (k + 1)) → IfSome found (λ t. 2 ≤ count_by (bytes_eq t) sorted)
    → MatchOption found (IsDistinct bytes_eq texts) (λ t. 2 ≤ count_by (bytes_eq t) texts)
repeated-sorted texts sorted None moved up differ twice = distinct-rising texts sorted moved (IsRising-differ sorted up (differ refl))
repeated-sorted texts sorted (Some t) moved up differ twice = occurs_twice-moved texts sorted t moved twice

-- the text at an index of the rest is at the next
pub record IsTextBehind (texts : List (List ℕ)) (t : List ℕ) (i : ℕ) : Type 0 where
  pub inside : i + 1 < length texts
  pub is : t ≡ text_at texts (i + 1)

pub IsTextBehind-rest : (texts rest : List (List ℕ)) (first t : List ℕ) (i : ℕ) → texts ≡ first ∷ rest → i < length rest → t ≡ get_or rest i t → IsTextBehind texts t i
IsTextBehind-rest texts rest first t i cut inside is = record {
  inside = rw cut (omega arith);
  is = rw (cut, add-one) (is ∙ get_or_default rest i t [] inside);
}
