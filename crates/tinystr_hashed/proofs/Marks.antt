-- Texts that are looked up in a table, each found at an index that no other is found at.
use Rattle.std.proofs.Common.{◌≡◌, ◌≢◌, ℕ, ◌<◌, ◌∙◌, List, [], ◌∷◌, ◌++◌, ◌↔◌, Bool, IsTrue, ap, arith, get_or, inl, inr, length, replicate, slice_set, sym, take}
use Rattle.std.specs.List.{All, Contains, IsDistinct, slice_get}
use Rattle.std.specs.Set.{is_member}
use Rattle.std.specs.Str.{bytes_eq}
use Rattle.std.specs.declared.option.Option.TheVariants.{Some}
use Rattle.std.proofs.lemmas.Bool.{cases_eq, cases_lt, false_from_ne_true}
use Rattle.std.proofs.lemmas.Grind.{get_or-set_at}
use Rattle.std.proofs.lemmas.Cmp.{nat_list_eq_equiv}
use Rattle.std.proofs.lemmas.List.{get_or-replicate, get_or-set_other, get_or-take, length-replicate, length-set, length-take}
use Rattle.std.proofs.lemmas.List.Elements.{All-append, All-cons, All-nil, Contains-append_left, Contains-append_right, Contains-push_cases}
use Rattle.std.proofs.lemmas.Map.Keys.{IsDistinct-push}
use Rattle.std.proofs.lemmas.Map.Made.{AllPairs-from_IsDistinct, IsDistinct-from_AllPairs, is_member-Decides}
use Rattle.std.proofs.lemmas.Option.{get_or_from_slice_get, slice_get_within}
use Rattle.std.proofs.lemmas.Slice.Eq.{bytes_eq-Decides}
use Rattle.tinystr_packed.specs.Rising.{text_at}
use Rattle.tinystr_hashed.specs.Hashing.{AreDistinct}
use Rattle.tinystr_hashed.specs.Packing.{ArePackedHashed}
use Rattle.tinystr_hashed.specs.Reading.{IsHashed}
use Rattle.tinystr_hashed.proofs.Packs.{has_each, packed}

-- these texts are in the table, no two are equal, and their indices are marked
pub record AreMarked (table : List (List ℕ)) (marks : List ℕ) (texts : List (List ℕ)) : Type 0 where
  pub size : length marks ≡ length table
  pub each : All (λ t. Contains table t) texts
  pub distinct : IsDistinct bytes_eq texts
  pub marked : (p : ℕ) → p < length table → get_or marks p 0 ≢ 0 → Contains texts (text_at table p)
  pub unmarked : (p : ℕ) → p < length table → get_or marks p 0 ≡ 0 → ¬ Contains texts (text_at table p)

-- the text at an index
text_found : (table : List (List ℕ)) (t : List ℕ) (p : ℕ) → slice_get table p ≡ Some t → text_at table p ≡ t
text_found table t p at = get_or_from_slice_get table p t [] at

-- a text whose index is marked is one of them
pub Contains-marked : (table : List (List ℕ)) (marks : List ℕ) (texts : List (List ℕ)) (t : List ℕ) (p : ℕ) → AreMarked table marks texts → slice_get table p ≡ Some t → get_or marks p 0 ≢ 0 → Contains texts t
Contains-marked table marks texts t p h at mark = rw (text_found table t p at) at (h.marked p (slice_get_within table p t at) mark)

-- none yet
pub AreMarked-none : (table : List (List ℕ)) (marks : List ℕ) → marks ≡ replicate (length table) 0 → AreMarked table marks []
AreMarked-none table marks none =
    let off : (p : ℕ) → p < length table → get_or marks p 0 ≡ 0 = λ p inside. ap (λ (l : List ℕ). get_or l p 0) none ∙ get_or-replicate (length table) p 0 0 inside in
    record {
      size = ap (λ (l : List ℕ). length l) none ∙ length-replicate {A = ℕ} (length table) 0;
      each = All-nil (λ (t : List ℕ). Contains table t);
      distinct = IsDistinct-from_AllPairs (λ a b. bytes_eq-Decides a b) [] (λ i j d before inside. absurd (omega arith));
      marked = λ p inside on. absurd (on (off p inside));
      unmarked = λ p inside is here. absurd (omega (arith, here.1));
    }

-- one more
text_other : (table : List (List ℕ)) (p q : ℕ) → AreDistinct table → p < length table → q < length table → q ≢ p → text_at table q ≢ text_at table p
text_other table p q apart inside here other same = elim (cases_lt q p) [
  | inl before ↦ apart q p [] before inside same
  | inr from ↦ apart p q [] (omega (arith, from, other)) here (sym same)
]

marked_more : (table : List (List ℕ)) (marks : List ℕ) (texts : List (List ℕ)) (t : List ℕ) (p : ℕ) → AreMarked table marks texts → text_at table p ≡ t → (q : ℕ) → q < length table → get_or (slice_set marks p 1) q 0 ≢ 0 → Contains (texts ++ t ∷ []) (text_at table q)
marked_more table marks texts t p h text q here on = elim (cases_eq q p) [
  | inl same ↦ Contains-append_right texts (t ∷ []) (text_at table q) (0, omega arith, sym text ∙ ap (λ (k : ℕ). text_at table k) (sym same))
  | inr other ↦ Contains-append_left texts (t ∷ []) (text_at table q) (h.marked q here (λ zero. on (get_or-set_other marks p q 1 0 other ∙ zero)))
]

unmarked_more : (table : List (List ℕ)) (marks : List ℕ) (texts : List (List ℕ)) (t : List ℕ) (p : ℕ) → AreDistinct table → AreMarked table marks texts → text_at table p ≡ t → p < length table → (q : ℕ) → q < length table → get_or (slice_set marks p 1) q 0 ≡ 0 → ¬ Contains (texts ++ t ∷ []) (text_at table q)
unmarked_more table marks texts t p apart h text inside q here off found = elim (cases_eq q p) [
  | inl same ↦ (let on : get_or (slice_set marks p 1) q 0 ≡ 1 = get_or-set_at marks p q 1 0 same (rw h.size inside) in absurd (omega (arith, on, off)))
  | inr other ↦ elim (Contains-push_cases texts t (text_at table q) found) [
    | inl old ↦ h.unmarked q here (sym (get_or-set_other marks p q 1 0 other) ∙ off) old
    | inr new ↦ text_other table p q apart inside here other (sym new ∙ sym text)
  ]
]

pub AreMarked-more : (table : List (List ℕ)) (marks : List ℕ) (texts : List (List ℕ)) (t : List ℕ) (p : ℕ) → AreDistinct table → AreMarked table marks texts → slice_get table p ≡ Some t → get_or marks p 0 ≡ 0 → AreMarked table (slice_set marks p 1) (texts ++ t ∷ [])
AreMarked-more table marks texts t p apart h at off =
    let inside : p < length table = slice_get_within table p t at in
    let text : text_at table p ≡ t = text_found table t p at in
    let absent : ¬ Contains texts t = λ here. h.unmarked p inside off (rw text here) in
    record {
      size = length-set marks p 1 ∙ h.size;
      each = All-append (λ (s : List ℕ). Contains table s) texts (t ∷ []) h.each (All-cons (λ (s : List ℕ). Contains table s) t [] (p, inside, get_or_from_slice_get table p t t at) (All-nil (λ (s : List ℕ). Contains table s)));
      distinct = IsDistinct-push nat_list_eq_equiv texts t h.distinct (false_from_ne_true (is_member bytes_eq texts t) (λ yes. absent ((is_member-Decides (λ a b. bytes_eq-Decides a b) texts t).0 yes)));
      marked = marked_more table marks texts t p h text;
      unmarked = unmarked_more table marks texts t p apart h text inside;
    }

-- a text that was before it is there twice
pub repeats : (texts : List (List ℕ)) (t : List ℕ) (i : ℕ) → i < length texts → t ≡ get_or texts i t → Contains (take i texts) t → ¬ IsDistinct bytes_eq texts
repeats texts t i inside is here distinct =
    let before : here.0 < i = omega (arith, here.1, length-take i texts) in
    let same : get_or texts here.0 t ≡ get_or texts i t = sym (get_or-take i texts here.0 t before) ∙ here.2 ∙ is in
    AllPairs-from_IsDistinct (λ a b. bytes_eq-Decides a b) texts distinct here.0 i t before inside same

-- ---- a table of these texts

-- it has as many, and each once
pub table-each : (has : Bool) (made texts : List (List ℕ)) (bytes : List ℕ) (n : ℕ) → 0 < n → IsHashed made bytes n → length made ≡ length texts → (IsTrue has ↔ (All (λ t. Contains made t) texts × IsDistinct bytes_eq texts))
    → (IsTrue has ↔ ArePackedHashed texts bytes n)
table-each has made texts bytes n some hashed count h = (
  λ is. (let once = h.0 is in packed made texts bytes n hashed count once.0 once.1),
  λ packs. h.1 (has_each made texts bytes n some hashed packs, packs.distinct),
)
