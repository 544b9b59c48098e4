use Rattle.std.proofs.Common.{◌≡◌, ◌+◌, ℕ, ◌∷◌, rules, ◌∙◌, sym, ap, true, false}
use borrow.Author.Count.{below_more}
use Rattle.std.specs.Ordering.{is_lt}
use Rattle.std.specs.declared.cmp.Ordering.{Ordering}
use Rattle.std.specs.declared.cmp.Ordering.TheVariants.{Less}
use Rattle.tinystr_packed.specs.Rising.{order, text_at}
use Rattle.tinystr_packed.proofs.RisingTexts.{IsRecordOf-rest, order-records, not_rising, IsFirstFall-next, Less-from_is_lt}
use Rattle.tinystr_packed.proofs.table.Table.first_not_above.Goals as goal

pub loop-index-preserved : goal.loop-index-preserved
loop-index-preserved g c =
    let i = c.loop-index.index in
    let raw = c.index-rest-index.result in
    let cut : c.self.inside.records.now ≡ c.in_ok-first.first.now ∷ c.in_ok-first.rest.now = search rules in
    let here = IsRecordOf-rest c.self.inside.records.now c.in_ok-first.rest.now c.args.self.now c.in_ok-first.first.now raw g.row.N i c.self.invariant c.self.view_is cut c.loop-index-test.true c.index-rest-index.is in
    let ordered = order-records c.loop-index.before.now raw c.args.self.now g.row.N i (i + 1) c.loop-index.invariant.last here in
    let below : is_lt (order (text_at c.args.self.now i) (text_at c.args.self.now (i + 1))) ≡ true = sym (ap (λ (o : Ordering). is_lt o) ordered) ∙ cc in
    record { last = here; rising = below_more (λ (k : ℕ). order (text_at c.args.self.now k) (text_at c.args.self.now (k + 1)) ≡ Less) i c.loop-index.invariant.rising (Less-from_is_lt _ below) }

pub returns-then-not-is_below : goal.returns-then-not-is_below
returns-then-not-is_below g c =
    let i = c.loop-index.index in
    let raw = c.index-rest-index.result in
    let cut : c.self.inside.records.now ≡ c.in_ok-first.first.now ∷ c.in_ok-first.rest.now = search rules in
    let here = IsRecordOf-rest c.self.inside.records.now c.in_ok-first.rest.now c.args.self.now c.in_ok-first.first.now raw g.row.N i c.self.invariant c.self.view_is cut c.loop-index-test.true c.index-rest-index.is in
    let ordered = order-records c.loop-index.before.now raw c.args.self.now g.row.N i (i + 1) c.loop-index.invariant.last here in
    let fails : is_lt (order (text_at c.args.self.now i) (text_at c.args.self.now (i + 1))) ≡ false = sym (ap (λ (o : Ordering). is_lt o) ordered) ∙ cc in
    let first = IsFirstFall-next c.args.self.now i here.inside c.loop-index.invariant.rising fails in
    record { rising = (λ none. cc, λ up. absurd (not_rising c.args.self.now (i + 1) first up)); first = first }
