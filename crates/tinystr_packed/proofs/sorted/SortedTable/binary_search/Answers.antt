use Rattle.std.proofs.Common.{◌≡◌, ◌∙◌}
use Rattle.tinystr_packed.specs.Rising.{IsRising, search_result}
use Rattle.tinystr_packed.proofs.Searches.{IsSearched-result}
use Rattle.tinystr_packed.proofs.sorted.SortedTable.binary_search.Goals as goal

pub returns : goal.returns
returns g c =
    let texts = c.records.ensures.texts ∙ c.self.view_is in
    let rising : IsRising c.args.self.now = rw c.self.view_is at c.self.invariant in
    let answer : c.binary_search.result ≡ search_result c.args.self.now c.args.key.now = rw texts at (c.binary_search.ensures.answer c.records.ensures.padded (rw texts rising)) in
    let searched = IsSearched-result c.args.self.now c.args.key.now c.binary_search.result rising answer in
    record { found = searched.found; place = searched.place; exact = searched.exact; rising = rising; answer = answer }
