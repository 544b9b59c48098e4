use Rattle.std.proofs.Common.{◌≡◌, ◌≢◌, ◌∙◌, length, refl, sym, true≢false}
use Rattle.std.specs.List.{zip}
use Rattle.tinystr_hashed.proofs.HashedMaps.{AreHashedTexts-new, uneven-no_entries}
use Rattle.tinystr_hashed.proofs.text_map.HashedTextMap.new.Goals as goal

pub returns-then-len-count-clause-accepted : goal.returns-then-len-count-clause-accepted
returns-then-len-count-clause-accepted g c =
    let other : length c.in-Ok-new.values ≢ length c.in-Ok.keys = λ same. c.if-len-count.true (c.len-len.ensures.len ∙ same ∙ sym c.len-count.ensures) in (
      λ e. absurd (true≢false (sym e)),
      λ found. absurd (uneven-no_entries c.in-Ok.keys c.in-Ok-new.values c.args.keys.now c.args.values.now g.row.N g.row.M c.requires.keys c.requires.values c.in-Ok.ensures.texts c.in-Ok-new.ensures.texts c.in-Ok-new.ensures.bytes other found),
    )

pub returns-then-len-count-clause-fault : goal.returns-then-len-count-clause-fault
returns-then-len-count-clause-fault g c = (
  c.in-Ok.keys,
  c.in-Ok.ensures.texts,
  record { texts = c.in-Ok-new.values; each = c.in-Ok-new.ensures.texts; joined = c.in-Ok-new.ensures.bytes },
  c.len-count.ensures,
  c.len-len.ensures.len,
  λ same. c.if-len-count.true (sym same),
)

pub returns-clause-entries : goal.returns-clause-entries
returns-clause-entries g c =
    let same : length c.in-Ok-new.values ≡ length c.in-Ok.keys = sym c.len-len.ensures.len ∙ c.if-len-count.false ∙ c.len-count.ensures in
    AreHashedTexts-new c.in-Ok.keys c.in-Ok-new.values c.args.keys.now c.args.values.now g.row.N g.row.M c.in-Ok.ensures.texts c.in-Ok-new.ensures.texts c.in-Ok-new.ensures.bytes same

pub returns-clause-accepted : goal.returns-clause-accepted
returns-clause-accepted g c = (λ _. (zip c.in-Ok.keys c.in-Ok-new.values, returns-clause-entries g c), λ _. refl)
