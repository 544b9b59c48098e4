use Rattle.std.proofs.Common.{◌∙◌, ℕ, [], arith}
use Rattle.std.proofs.lemmas.List.{length-set}
use Rattle.tinystr_packed.specs.Rising.{text_at}
use Rattle.tinystr_packed.proofs.EightSearches.{so_far-set}
use Rattle.tinystr_c.specs.Codes.{success}
use Rattle.tinystr_c.specs.Hashed.{SearchesHashed}
use Rattle.tinystr_c.specs.declared.answer.TinystrResult.{TinystrResult}
use Rattle.tinystr_c.proofs.SearchesEach.{SearchesHashed-found}
use Rattle.tinystr_c.proofs.hashed.search_keys.Goals as goal

pub loop-index-preserved : goal.loop-index-preserved
loop-index-preserved g c =
    let bytes = c.args.bytes.now in
    let keys = c.args.keys.now in
    let out = c.loop-index.out in
    let index = c.loop-index.index in
    let r = c.position_answer.result in
    let strict = c.len-index-end.ensures.strict index [] (omega arith) in
    let found = SearchesHashed-found bytes (text_at keys index) g.row.N c.position.result strict c.position.ensures.inside (λ texts h. rw c.text_at.ensures at (c.position.ensures.position texts h)) in
    record {
      same_len = length-set out index r ∙ c.loop-index.invariant.same_len;
      each = so_far-set (success 0) (λ (i : ℕ) (r : TinystrResult). SearchesHashed r bytes (text_at keys i) g.row.N) out index r (omega arith) c.loop-index.invariant.each (rw c.position_answer.ensures found);
    }
