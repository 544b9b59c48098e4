-- Texts packed in order.
use Rattle.std.proofs.Common.{◌≡◌, ℕ, ◌+◌, ◌<◌, ◌∙◌, List, [], sym, arith, IfOk}
use Rattle.std.specs.Cmp.Lexicographic.{slice_cmp}
use Rattle.std.specs.List.{dedup, flat_map}
use Rattle.std.specs.List.Sorted.{IsPermutation, IsSorted}
use Rattle.std.specs.Ordering.{nat_cmp}
use Rattle.std.specs.declared.result.Result.{Result}
use Rattle.std.specs.declared.result.Result.TheVariants.{Ok, Err}
use Rattle.std.specs.Str.{bytes_eq}
use Rattle.std.proofs.lemmas.Cmp.{nat_list_cmp_total, nat_list_eq_equiv}
use Rattle.std.proofs.lemmas.List.Kept.{Contains-dedup, Contains-from_dedup, IsStrictlySortedBy-dedup}
use Rattle.std.proofs.lemmas.List.Sorted.{Contains-permutation, IsPermutation-sym}
use Rattle.std.proofs.lemmas.Map.Keys.{Less-from_sorted}
use Rattle.std.proofs.lemmas.Map.Text.{is_eq-slice_cmp}
use Rattle.std.proofs.lemmas.Slice.Eq.{bytes_eq-Decides}
use Rattle.tinystr_words.specs.Text.{pad}
use Rattle.tinystr_packed.proofs.PackedTexts.{packed, packed_injective}
use Rattle.tinystr_words.proofs.Reading.Records.{AllStrict}
use Rattle.tinystr_packed.specs.Rising.{ArePackedRising, IsRising}
use Rattle.tinystr_packed.specs.Sorting.{ArePackedInOrder}

-- sorted texts, each kept once, are strictly ascending
IsRising-dedup : (texts : List (List ℕ)) → IsSorted (slice_cmp nat_cmp) texts → IsRising (dedup bytes_eq texts)
IsRising-dedup texts sorted =
    let strict = IsStrictlySortedBy-dedup nat_list_cmp_total (λ x y. sym (is_eq-slice_cmp x y)) texts sorted in
    λ k inside. Less-from_sorted (slice_cmp nat_cmp) (dedup bytes_eq texts) k (k + 1) [] strict (omega arith) inside

-- what is packed of texts that are sorted, each kept once
pub ArePackedInOrder-packed : {X E : Type 0} (items : X → List ℕ) (r : Result X E) (texts sorted kept : List (List ℕ)) (n : ℕ)
    → IsPermutation texts sorted → IsSorted (slice_cmp nat_cmp) sorted → kept ≡ dedup bytes_eq sorted
    → IfOk r (λ _. AllStrict n kept) → IfOk r (λ made. items made ≡ flat_map (λ (t : List ℕ). pad t n) kept) → IfOk r (λ made. ArePackedInOrder texts (items made) n)
ArePackedInOrder-packed items (Err e) texts sorted kept n moved up is strict joined = strict
ArePackedInOrder-packed items (Ok made) texts sorted kept n moved up is strict joined = record {
  sorted = kept;
  same = λ t. rw is (
    (λ found. Contains-permutation sorted texts t (IsPermutation-sym texts sorted moved) (Contains-from_dedup bytes_eq sorted t found)),
    (λ found. Contains-dedup nat_list_eq_equiv (λ x y. (bytes_eq-Decides x y).0) sorted t (Contains-permutation texts sorted t moved found)),
  );
  rising = rw is (IsRising-dedup sorted up);
  strict = strict;
  joined = joined;
}

-- texts that aren't strictly ascending aren't those of a sorted table
pub unsorted-not_packed : (ts : List (List ℕ)) (bytes : List ℕ) (n : ℕ) → 0 < n → AllStrict n ts → bytes ≡ packed n ts → ¬ IsRising ts → ¬ ((ss : List (List ℕ)) × ArePackedRising ss bytes n)
unsorted-not_packed ts bytes n some strict joined other found =
    other (rw (← packed_injective n found.0 ts some found.1.strict strict (sym found.1.joined ∙ joined)) found.1.rising)
