use Rattle.std.proofs.Common.{◌≡◌, ◌∙◌, ap, arith, [], ℕ, List}
use borrow.Author.Count.{below_more}
use Rattle.std.proofs.lemmas.List.{get_or_default}
use Rattle.tinystr_words.specs.Text.{pad}
use Rattle.tinystr_packed.specs.Private.{BeginAlike}
use Rattle.tinystr_packed.specs.Rising.{text_at}
use Rattle.tinystr_packed.proofs.NumberPlaces.{BeginAlike-fewer}
use Rattle.tinystr_packed.proofs.RisingTexts.{IsRecord-padded}
use Rattle.tinystr_packed.proofs.eight.shared_len_of_each.Goals as goal

pub loop-lane-init : goal.loop-lane-init
loop-lane-init g c =
    let keys = c.args.keys.now in
    let here = c.index-keys-0.is ∙ get_or_default keys 0 c.index-keys-0.result [] (omega arith) in
    let bytes = c.all_bytes.ensures.bytes ∙ ap (λ (t : List ℕ). pad t g.row.N) here in
    record {
      bound = c.shared_len-len.ensures.bound;
      alike = λ up i first. let zero : i ≡ 0 = omega arith in rw zero (rw bytes at (c.shared_len-len.ensures.alike up (IsRecord-padded c.all_bytes.result.now g.row.N c.all_bytes.ensures.padded)));
    }

pub loop-lane-preserved : goal.loop-lane-preserved
loop-lane-preserved g c =
    let keys = c.args.keys.now in
    let lane = c.loop-lane.lane in
    let records = c.args.records.now in
    let len = c.min-len.result in
    let here = c.index-keys-lane.is ∙ get_or_default keys lane c.index-keys-lane.result [] (omega arith) in
    let bytes = c.all_bytes-in-loop-lane.ensures.bytes ∙ ap (λ (t : List ℕ). pad t g.row.N) here in
    record {
      bound = omega arith;
      alike = λ up. below_more (λ (i : ℕ). BeginAlike len (pad (text_at keys i) g.row.N) records) lane
          (λ i before. BeginAlike-fewer records (pad (text_at keys i) g.row.N) len c.loop-lane.len (omega arith) (c.loop-lane.invariant.alike up i before))
          (BeginAlike-fewer records (pad (text_at keys lane) g.row.N) len c.shared_len.result (omega arith) (rw bytes at (c.shared_len.ensures.alike up (IsRecord-padded c.all_bytes-in-loop-lane.result.now g.row.N c.all_bytes-in-loop-lane.ensures.padded))));
    }
