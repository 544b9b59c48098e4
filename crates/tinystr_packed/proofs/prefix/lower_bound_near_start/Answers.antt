use Rattle.std.proofs.Common.{◌≡◌, ◌+◌, ◌-◌, length, take, drop, arith, refl, sym, ◌∙◌, true≢false}
use Rattle.std.proofs.lemmas.List.{length-take, length-drop}
use Rattle.tinystr_packed.proofs.RisingTexts.{IsPart-range, AreRisingRecords-part, IsFirstNotBelow-part}
use Rattle.tinystr_packed.proofs.prefix.lower_bound_near_start.Goals as goal

pub returns : goal.returns
returns g c =
    let records = c.args.records.now in
    let start = c.loop-start.start in
    let end = c.min-end.result in
    let part = take (end - start) (drop start records) in
    let long : start + length part ≡ end = omega (arith, length-take (end - start) (drop start records), length-drop start records) in
    IsFirstNotBelow-part records part c.args.key.now start c.lower_bound.result c.requires.records.rising (IsPart-range records part start (end - start) (omega arith) refl) c.loop-start.invariant.below
    (λ inside less.
    let here : end ≡ c.saturating_mul.result = omega arith in
    true≢false (sym (c.is_below_at-in-loop-start.ensures.1 (rw (← here) (omega arith), rw (← here, ← long) less)) ∙ c.loop-start-test.false))
    (c.lower_bound.ensures.place (AreRisingRecords-part records part g.row.N start c.requires.records (IsPart-range records part start (end - start) (omega arith) refl)) c.requires.key)
