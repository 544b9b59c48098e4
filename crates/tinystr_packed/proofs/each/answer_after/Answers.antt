use Rattle.std.proofs.Common.{◌≡◌, ◌∙◌, map, ap, arith, refl, rules, sym}
use Rattle.std.proofs.lemmas.Cmp.{nat_list_cmp_total}
use Rattle.std.proofs.lemmas.List.{length-map}
use Rattle.std.specs.BTreeMap.Comparable.{le_lt_trans}
use Rattle.tinystr_words.specs.Text.{text_of}
use Rattle.tinystr_packed.specs.Rising.{text_at}
use Rattle.tinystr_packed.proofs.RisingTexts.{AreRisingRecords-texts, order-key}
use Rattle.tinystr_packed.proofs.Searches.{not_above_before, place_after, search_result-same}
use Rattle.tinystr_packed.proofs.each.answer_after.Goals.{in-Ok, in-Err}
use Rattle.tinystr_packed.proofs.each.answer_after.Goals as goal

pub overflow_add-start : goal.overflow_add-start
overflow_add-start g c =
    let records = c.args.records.now in
    let not_above = not_above_before (map text_of records) c.args.before.now c.args.answer c.requires.rising c.requires.answer in
    omega (arith, rw c.in-Ok.is at not_above.0, length-map records text_of)

pub lower_bound_near-requires : goal.lower_bound_near-requires
lower_bound_near-requires g c =
    let records = c.args.records.now in
    let texts = map text_of records in
    let key = c.all_bytes.ensures in
    let not_above = not_above_before texts c.args.before.now c.args.answer c.requires.rising c.requires.answer in
    let start : c.match-answer.start ≡ place_after c.args.answer = elim c.match-answer.branch [
      | in-Ok w ↦ w.start-is ∙ sym (ap place_after w.in-Ok.is)
      | in-Err w ↦ w.start-is ∙ sym (ap place_after w.in-Err.is)
    ] in
    let inside = rw (← start, length-map records text_of) at not_above.0 in (
      search rules,
      (
        (AreRisingRecords-texts records texts g.row.N c.requires.padded refl c.requires.rising).rising,
        (
          inside,
          λ k before. order-key records texts c.args.key.now c.all_bytes.result.now g.row.N k c.requires.padded refl key.padded key.text (omega arith)
              ∙ le_lt_trans nat_list_cmp_total (text_at texts k) c.args.before.now c.args.key.now (not_above.1 k (rw (← start) before)) (sym c.in-Less.ensures),
        ),
      ),
    )

pub returns-in-Equal : goal.returns-in-Equal
returns-in-Equal g c = search_result-same (map text_of c.args.records.now) c.args.before.now c.args.key.now c.args.answer c.requires.answer (sym c.in-Equal.ensures)
