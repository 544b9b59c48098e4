use Rattle.std.proofs.Common.{◌≡◌, List, ℕ, arith, rules, unwrap_or}
use Rattle.std.specs.BTreeMap.{get}
use Rattle.std.specs.Cmp.Lexicographic.{slice_cmp}
use Rattle.std.specs.Ordering.{nat_cmp}
use Rattle.std.proofs.lemmas.Cmp.{nat_list_eq_equiv}
use Rattle.std.proofs.lemmas.List.Folds.{list_any_more}
use Rattle.std.proofs.lemmas.List.Sums.{count_by_more_no, count_by_more_yes}
use Rattle.std.proofs.lemmas.Map.Text.{is_eq-slice_cmp}
use Rattle.std.proofs.lemmas.Slice.Eq.{bytes_eq-Decides}
use Rattle.std.specs.Str.{bytes_eq}
use Rattle.tinystr_packed.proofs.packing.count_texts.Goals as goal

pub loop-text-preserved : goal.loop-text-preserved
loop-text-preserved g c =
    let texts = c.args.texts.now in
    let i = c.loop-text.text-index in
    let key = c.text-item.result in
    let was : c.unwrap_or-count.result ≡ unwrap_or (get (slice_cmp nat_cmp) c.loop-text.counts key) 0 = search rules in
    let step = λ (t : List ℕ). rw is_eq-slice_cmp at (c.in_ok-insert.ensures.updates.0 t) in
    record {
      counts = λ (t : List ℕ). grind (arith, was, step t, nat_list_eq_equiv.symm key t, (bytes_eq-Decides t key).0, count_by_more_no (bytes_eq t) texts i key c.loop-text-test.true, count_by_more_yes (bytes_eq t) texts i key c.loop-text-test.true, c.loop-text.invariant.counts t);
      keys = λ (t : List ℕ). grind (arith, step t, nat_list_eq_equiv.symm key t, list_any_more (bytes_eq t) texts i key c.loop-text-test.true, c.loop-text.invariant.keys t);
    }
