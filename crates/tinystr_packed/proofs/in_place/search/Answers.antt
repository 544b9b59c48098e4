use Rattle.tinystr_packed.proofs.InPlace.{records_are}
use Rattle.tinystr_packed.proofs.Searches.{IsSearched-result}
use Rattle.tinystr_packed.proofs.in_place.search.Goals as goal

pub returns-clause-searched : goal.returns-clause-searched
returns-clause-searched g c = λ texts h.
    let are = records_are c.args.bytes.now c.as_chunks.result.0.now texts g.row.N c.requires h c.as_chunks.ensures.front c.as_chunks.ensures.front_len in
    IsSearched-result texts c.args.key.now c.binary_search_whole.result h.rising (rw are.1 at (c.binary_search_whole.ensures.answer are.0 (rw are.1 h.rising)))
