-- The order of lists of bytes is std's comparison of them.
use Rattle.std.proofs.Common.{◌≡◌, ℕ, zero, suc, ◌<◌, ◌↔◌, ◌⊎◌, List, [], ◌∷◌, length, take, sym, ap, ◌∙◌, refl, arith, inl, inr}
use Rattle.std.proofs.lemmas.Bool.{cases_lt}
use Rattle.std.proofs.lemmas.Cmp.{nat_cmp_total, nat_list_cmp_total, tied_itself}
use Rattle.std.specs.Cmp.Lexicographic.{slice_cmp}
use Rattle.std.specs.Ordering.{nat_cmp, ordering_reverse}
use Rattle.std.specs.declared.cmp.Ordering.{Ordering}
use Rattle.std.specs.declared.cmp.Ordering.TheVariants.{Less, Equal, Greater}
use Rattle.tinystr_words.specs.Text.{IsStrictText, pad}
use Rattle.std.proofs.lemmas.Map.Lookups.{exact_bytes}
use Rattle.std.proofs.lemmas.Bool.Decides.{nat_tests}
use Rattle.tinystr_words.specs.Order.{IsLesserAt, IsBefore}
use Rattle.tinystr_words.proofs.Order.OfPadded.{cmp-pad}

-- a list that compares as less comes before the other
before_from_less : (t s : List ℕ) → slice_cmp nat_cmp t s ≡ Less → IsBefore t s
before_from_less [] [] e = cc
before_from_less [] (b ∷ s) e = inl (omega arith, refl)
before_from_less (a ∷ t) [] e = cc
before_from_less (a ∷ t) (b ∷ s) e =
    elim (cases_lt a b) [
      | inl less ↦ inr (0, record { inside = omega arith; inside_other = omega arith; same = refl; lesser = less })
      | inr from ↦
          let first : a ≡ b = grind (arith, nat_tests) in
          let rest : slice_cmp nat_cmp t s ≡ Less = grind (arith, nat_tests) in
          rw first (elim (before_from_less t s rest) [
            | inl front ↦ inl (omega (arith, front.0), ap (λ (l : List ℕ). b ∷ l) front.1)
            | inr found ↦
                let at = found.1 in
                inr (suc found.0, record { inside = omega (arith, at.inside); inside_other = omega (arith, at.inside_other); same = ap (λ (l : List ℕ). b ∷ l) at.same; lesser = at.lesser })
          ])
    ]

-- a list that goes on in the other compares as less
less_from_beginning : (t s : List ℕ) → length t < length s → take (length t) s ≡ t → slice_cmp nat_cmp t s ≡ Less
less_from_beginning t [] l e = absurd (omega arith)
less_from_beginning [] (b ∷ s) l e = refl
less_from_beginning (a ∷ t) (b ∷ s) l e =
    let first : b ≡ a = cc in
    let rest = less_from_beginning t s (omega arith) (cc) in
    rw (first, rest, tied_itself nat_cmp_total a) refl

-- and so does one with the lesser byte where they first differ
less_from_lesser : (t s : List ℕ) (i : ℕ) → IsLesserAt t s i → slice_cmp nat_cmp t s ≡ Less
less_from_lesser [] s i h = absurd (omega (arith, h.inside))
less_from_lesser (a ∷ t) [] i h = absurd (omega (arith, h.inside_other))
less_from_lesser (a ∷ t) (b ∷ s) zero h = let less : a < b = h.lesser in grind (arith, nat_tests)
less_from_lesser (a ∷ t) (b ∷ s) (suc i) h =
    let e : a ∷ take i t ≡ b ∷ take i s = h.same in
    let first : a ≡ b = cc in
    let rest = less_from_lesser t s i (record { inside = omega (arith, h.inside); inside_other = omega (arith, h.inside_other); same = cc; lesser = h.lesser }) in
    rw (first, rest, tied_itself nat_cmp_total b) refl

-- and one that comes before the other compares as less
less_from_before : (t s : List ℕ) → IsBefore t s → slice_cmp nat_cmp t s ≡ Less
less_from_before t s (inl front) = less_from_beginning t s front.0 front.1
less_from_before t s (inr found) = less_from_lesser t s found.0 found.1

-- a list compares as less exactly if it comes before the other
pub cmp_is_before : (t s : List ℕ) → (slice_cmp nat_cmp t s ≡ Less) ↔ IsBefore t s
cmp_is_before t s = (before_from_less t s, less_from_before t s)

-- ---- it is total

-- lists compare as equal exactly if they are the same
pub cmp_is_same : (t s : List ℕ) → (slice_cmp nat_cmp t s ≡ Equal) ↔ (t ≡ s)
cmp_is_same t s = (exact_bytes t s, λ e. rw e (tied_itself nat_list_cmp_total s))

-- two lists are the same, or one comes before the other
pub before_or_same : (t s : List ℕ) → (t ≡ s) ⊎ (IsBefore t s ⊎ IsBefore s t)
before_or_same t s = go (slice_cmp nat_cmp t s) refl
  where
    go : (o : Ordering) → slice_cmp nat_cmp t s ≡ o → (t ≡ s) ⊎ (IsBefore t s ⊎ IsBefore s t)
    go Less e = inr (inl (before_from_less t s e))
    go Equal e = inl (exact_bytes t s e)
    go Greater e = inr (inr (before_from_less s t (nat_list_cmp_total.antisymm s t ∙ ap ordering_reverse e)))

-- a list doesn't come before one that is the same
pub before_not_same : (t s : List ℕ) → t ≡ s → IsBefore t s → ⊥
before_not_same t s e h =
    let less = less_from_before t s h in
    let tied : slice_cmp nat_cmp t s ≡ Equal = rw e (tied_itself nat_list_cmp_total s) in
    cc

-- two lists don't each come before the other
pub before_one_way : (t s : List ℕ) → IsBefore t s → IsBefore s t → ⊥
before_one_way t s h k =
    let less = less_from_before t s h in
    let back = nat_list_cmp_total.antisymm t s ∙ ap ordering_reverse (less_from_before s t k) in
    let no : Less ≡ Greater = sym less ∙ back in
    cc

-- ---- it is the same for padded texts

-- a padded text comes before another exactly if its text comes before the other's
pub before_padded : (t s : List ℕ) (n : ℕ) → IsStrictText t n → IsStrictText s n → IsBefore (pad t n) (pad s n) ↔ IsBefore t s
before_padded t s n a b =
    let same = cmp-pad t s n a.text b.text a.fits b.fits in (
      λ h. before_from_less t s (sym same ∙ less_from_before (pad t n) (pad s n) h),
      λ h. before_from_less (pad t n) (pad s n) (same ∙ less_from_before t s h),
    )
