use Rattle.std.proofs.Common.{◌+◌, ℕ, List, [], slice_index_or, Ok, arith}
use Rattle.tinystr_packed.specs.Rising.{text_at, ArePackedRising}
use Rattle.tinystr_c.proofs.SearchesEach.{Searches-found}
use Rattle.tinystr_c.proofs.search_each.search_eight.Goals as goal

pub returns-clause-each : goal.returns-clause-each
returns-clause-each g c = λ i within.
    let index = c.args.start + i in
    let found = slice_index_or c.search_eight.result i (Ok 0) in
    let strict = c.requires.strict index [] (omega (arith, c.requires.keys)) in
    let searched = λ (texts : List (List ℕ)) (h : ArePackedRising texts c.args.bytes.now g.row.N). rw (c.eight_from-eight.ensures i within) at (c.search_eight.ensures.searched texts h i within) in
    rw (c.put_eight.ensures.each i within) (Searches-found c.args.bytes.now (text_at c.args.keys.now index) g.row.N found strict (c.search_eight.ensures.inside i within) (c.search_eight.ensures.bound i within) searched)
