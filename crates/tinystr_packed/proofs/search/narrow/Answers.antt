use Rattle.std.proofs.Common.{◌≡◌, ◌≢◌, ℕ, [], ap, ◌+◌, ◌-◌, ◌/◌, ◌<◌, ◌≤◌, Bool, true, false, cond, List, length, arith, refl, sym, ◌∙◌, inl, inr}
use Rattle.std.proofs.lemmas.Bool.{cases_lt, ltb-true}
use Rattle.std.proofs.lemmas.List.{get_or_default}
use Rattle.std.proofs.lemmas.Bool.Decides.{nat_tests}
use Rattle.std.specs.declared.cmp.Ordering.TheVariants.{Less}
use Rattle.tinystr_packed.specs.Private.{AreDistinguished}
use Rattle.tinystr_packed.specs.Rising.{order, text_at, IsRising, IsFirstNotBelowWithin}
use Rattle.tinystr_packed.proofs.RisingTexts.{IsFirstNotBelowWithin-from, IsFirstNotBelowWithin-to}
use Rattle.tinystr_packed.proofs.search.narrow.Goals as goal
use Rattle.tinystr_packed.proofs.search.narrow.Goals.{else-this-gt16-via-then-this-gt16+else-is_same, else-this-gt16-via-else-this-gt16}

-- a range halves where its middle is below the key, or isn't
halved : (ts : List (List ℕ)) (key : List ℕ) (base size next : ℕ) (b : Bool) → IsRising ts → IsFirstNotBelowWithin key ts base (base + size) → 1 < size
    → (b ≡ true → order (text_at ts (base + size / 2)) key ≡ Less) → (b ≡ false → order (text_at ts (base + size / 2)) key ≢ Less)
    → next ≡ cond b (base + size / 2) base → IsFirstNotBelowWithin key ts next (next + (size - size / 2))
halved ts key base size next true up h many less other is =
    let end : next + (size - size / 2) ≡ base + size = omega arith in
    rw end (IsFirstNotBelowWithin-from ts key base (base + size) (base + size / 2) next up h (omega (arith, h.inside)) (less refl) (omega arith) (omega arith))
halved ts key base size next false up h many less other is =
    let start : next ≡ base = is in
    rw start (IsFirstNotBelowWithin-to ts key base (base + size) (base + size / 2) (base + (size - size / 2)) up h (other refl) (omega arith) (omega arith) (omega (arith, h.inside)))

-- and is still inside
kept : (base size next len : ℕ) (b : Bool) → base + size ≤ len → next ≡ cond b (base + size / 2) base → next + (size - size / 2) ≤ len
kept base size next len true inside is = omega arith
kept base size next len false inside is = omega arith

pub loop-size-preserved : goal.loop-size-preserved
loop-size-preserved g c =
    let records = c.args.records.now in
    let key = c.args.key.now in
    let number = g.T.Number.spelled c.args.start in
    let next = (c.loop-size.size - c.loop-size.size / 2) / 2 in
    let middle = c.loop-size.base + c.loop-size.size / 2 in
    let found = g.T.Number.value c.loop-size.number in
    let wanted = g.T.Number.value c.at-wanted.result in
    let inside : middle < length records = omega (arith, c.loop-size.invariant.inside, c.loop-size-test.true) in
    let distinguished = AreDistinguished g.row.N number key records in
    let less : distinguished → c.is_below-is_below.result ≡ true → order (text_at records middle) key ≡ Less =
    λ t b. t.ordered.below middle inside (rw (← c.loop-size.invariant.number, ← c.at-wanted.ensures) (ltb-true (g.T.Number.value c.loop-size.number) (g.T.Number.value c.at-wanted.result) (sym c.is_below-is_below.ensures ∙ b))) in
    let other : distinguished → c.is_below-is_below.result ≡ false → order (text_at records middle) key ≢ Less =
    λ t b. elim (cases_lt wanted found) [
      | inl more ↦ t.ordered.above middle inside (rw (← c.loop-size.invariant.number, ← c.at-wanted.ensures) more)
      | inr rest ↦ (let same : found ≡ wanted = grind (arith, nat_tests, sym c.is_below-is_below.ensures ∙ b) in
          elim c.else-this-gt16.branch [
            | else-this-gt16-via-then-this-gt16+else-is_same w ↦ absurd (grind (arith, nat_tests, w.is_same.ensures, w.if-is_same.false, same))
            | else-this-gt16-via-else-this-gt16 w ↦ t.whole w.if-this-gt16.false middle inside (rw (← c.loop-size.invariant.number, ← c.at-wanted.ensures) same)
          ])
    ] in
    record {
      some = omega arith;
      inside = kept c.loop-size.base c.loop-size.size c.select_unpredictable-base.result (length records) c.is_below-is_below.result c.loop-size.invariant.inside c.select_unpredictable-base.ensures;
      within = λ t first. halved records key c.loop-size.base c.loop-size.size c.select_unpredictable-base.result c.is_below-is_below.result t.rising (c.loop-size.invariant.within t first) c.loop-size-test.true (less t) (other t) c.select_unpredictable-base.ensures;
      number = elim c.is_below-is_below.result as (λ b. c.is_below-is_below.result ≡ b → g.T.Number.value c.select_unpredictable-number.result ≡ number (text_at records (c.select_unpredictable-base.result + next))) [
        | true ↦ (λ b.
            let base : c.select_unpredictable-base.result ≡ middle = c.select_unpredictable-base.ensures ∙ rw b refl in
            let taken : c.select_unpredictable-number.result ≡ c.at-high.result = c.select_unpredictable-number.ensures ∙ rw b refl in
            let there = get_or_default records (middle + next) c.index-records-base-in-loop-size-2.result [] (omega (arith, c.loop-size.invariant.inside, c.loop-size-test.true)) in
            rw (taken, base, c.at-high.ensures) (ap number (c.index-records-base-in-loop-size-2.is ∙ there)))
        | false ↦ (λ b.
            let base : c.select_unpredictable-base.result ≡ c.loop-size.base = c.select_unpredictable-base.ensures ∙ rw b refl in
            let taken : c.select_unpredictable-number.result ≡ c.at-low.result = c.select_unpredictable-number.ensures ∙ rw b refl in
            let there = get_or_default records (c.loop-size.base + next) c.index-records-base-in-loop-size.result [] (omega (arith, c.loop-size.invariant.inside, c.loop-size-test.true)) in
            rw (taken, base, c.at-low.ensures) (ap number (c.index-records-base-in-loop-size.is ∙ there)))
      ] refl;
    }
