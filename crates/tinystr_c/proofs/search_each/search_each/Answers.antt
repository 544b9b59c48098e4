use Rattle.std.proofs.Common.{◌*◌, ◌∙◌, ℕ, [], arith}
use Rattle.std.proofs.lemmas.List.{length-set}
use Rattle.tinystr_packed.specs.Rising.{text_at}
use Rattle.tinystr_packed.proofs.EightSearches.{so_far-set}
use Rattle.tinystr_c.specs.Codes.{success}
use Rattle.tinystr_c.specs.Tables.{Searches}
use Rattle.tinystr_c.specs.declared.answer.TinystrResult.{TinystrResult}
use Rattle.tinystr_c.proofs.SearchesEach.{Searches-found, eight_more}
use Rattle.tinystr_c.proofs.search_each.search_each.Goals as goal

pub loop-block-preserved : goal.loop-block-preserved
loop-block-preserved g c =
    let bytes = c.args.bytes.now in
    let keys = c.args.keys.now in
    let old = c.loop-block.out in
    let new = c.search_eight.new.out in
    let start = c.loop-block.block * 8 in
    record {
      same_len = c.search_eight.ensures.room ∙ c.loop-block.invariant.same_len;
      each = λ i within. eight_more (success 0) (λ (i : ℕ) (r : TinystrResult). Searches r bytes (text_at keys i) g.row.N) old new start c.loop-block.invariant.each c.search_eight.ensures.before c.search_eight.ensures.each i (omega (arith, within));
    }

pub loop-index-preserved : goal.loop-index-preserved
loop-index-preserved g c =
    let bytes = c.args.bytes.now in
    let keys = c.args.keys.now in
    let out = c.loop-index.out in
    let index = c.loop-index.index in
    let r = c.search_answer.result in
    let strict = c.len-blocks.ensures.strict index [] (omega arith) in
    let found = Searches-found bytes (text_at keys index) g.row.N c.search.result strict c.search.ensures.inside c.search.ensures.bound (λ texts h. rw c.text_at.ensures at (c.search.ensures.searched texts h)) in
    record {
      same_len = length-set out index r ∙ c.loop-index.invariant.same_len;
      each = so_far-set (success 0) (λ (i : ℕ) (r : TinystrResult). Searches r bytes (text_at keys i) g.row.N) out index r (omega arith) c.loop-index.invariant.each (rw c.search_answer.ensures found);
    }
