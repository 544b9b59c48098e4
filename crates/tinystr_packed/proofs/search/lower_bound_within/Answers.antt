use Rattle.std.proofs.Common.{◌≡◌, ◌≢◌, ◌<◌, [], ◌+◌, ◌-◌, ◌/◌, arith, ◌∙◌, sym}
use Rattle.std.proofs.lemmas.List.{get_or_default}
use Rattle.std.specs.declared.cmp.Ordering.TheVariants.{Less, Greater}
use Rattle.tinystr_packed.specs.Rising.{order, text_at}
use Rattle.tinystr_packed.proofs.RisingTexts.{IsRising-range, IsFirstNotBelow-after_middle, IsFirstNotBelow-before_middle}
use Rattle.tinystr_packed.proofs.search.lower_bound_within.Goals as goal

pub returns-in-Less-clause-place : goal.returns-in-Less-clause-place
returns-in-Less-clause-place g c rising within =
    let records = c.args.records.now in
    let range = c.args.range in
    let middle = range.start + (range.end - range.start) / 2 in
    let some : range.start < range.end = omega arith in
    let here = get_or_default records middle c.index-records-middle.result [] (omega (arith, within.inside)) in
    let less : order (text_at records middle) c.args.key.now ≡ Less = rw (← here, ← c.index-records-middle.is) (sym c.compare.ensures ∙ c.in-Less.is) in
    IsFirstNotBelow-after_middle records c.args.key.now range.start range.end middle c.lower_bound_by_halves.result rising within (omega arith) less (c.lower_bound_by_halves.ensures.place (IsRising-range records (middle + 1) (range.end - (middle + 1)) (omega (arith, within.inside)) rising))

pub returns-in-Greater-clause-place : goal.returns-in-Greater-clause-place
returns-in-Greater-clause-place g c rising within =
    let records = c.args.records.now in
    let range = c.args.range in
    let middle = range.start + (range.end - range.start) / 2 in
    let some : range.start < range.end = omega arith in
    let here = get_or_default records middle c.index-records-middle.result [] (omega (arith, within.inside)) in
    let above : order (text_at records middle) c.args.key.now ≡ Greater = rw (← here, ← c.index-records-middle.is) (sym c.compare.ensures ∙ c.in-Greater.is) in
    let other : order (text_at records middle) c.args.key.now ≢ Less = λ less. cc in
    IsFirstNotBelow-before_middle records c.args.key.now range.start range.end middle c.lower_bound_by_halves-in-Greater.result rising within (omega arith) (omega arith) other (c.lower_bound_by_halves-in-Greater.ensures.place (IsRising-range records range.start (middle - range.start) (omega (arith, within.inside)) rising))
