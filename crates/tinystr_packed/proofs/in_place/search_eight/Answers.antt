use Rattle.std.specs.List.{slice_index_or}
use Rattle.std.specs.declared.result.Result.TheVariants.{Ok}
use Rattle.tinystr_packed.specs.Rising.{text_at}
use Rattle.tinystr_packed.proofs.InPlace.{records_are}
use Rattle.tinystr_packed.proofs.Searches.{IsSearched-result}
use Rattle.tinystr_packed.proofs.in_place.search_eight.Goals as goal

pub returns-then-this-gt16-clause-searched : goal.returns-then-this-gt16-clause-searched
returns-then-this-gt16-clause-searched g c = λ texts h i lane.
    let are = records_are c.args.bytes.now c.as_chunks.result.0.now texts g.row.N c.requires h c.as_chunks.ensures.front c.as_chunks.ensures.front_len in
    IsSearched-result texts (text_at c.args.keys.now i) (slice_index_or c.answers_one_by_one.result i (Ok 0)) h.rising (rw are.1 at ((c.answers_one_by_one.ensures i lane).answer are.0 (rw are.1 h.rising)))

pub returns-else-this-gt16-clause-searched : goal.returns-else-this-gt16-clause-searched
returns-else-this-gt16-clause-searched g c = λ texts h i lane.
    let are = records_are c.args.bytes.now c.as_chunks.result.0.now texts g.row.N c.requires h c.as_chunks.ensures.front c.as_chunks.ensures.front_len in
    IsSearched-result texts (text_at c.args.keys.now i) (slice_index_or c.answers_of_short.result i (Ok 0)) h.rising (rw are.1 at ((c.answers_of_short.ensures i lane).answer are.0 (rw are.1 h.rising)))
