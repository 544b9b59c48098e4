use Rattle.std.proofs.Common.{◌≡◌, ◌∙◌, ◌+◌, ◌-◌, ℕ, List, ap, map, refl, rules, arith}
use Rattle.std.specs.List.{filter}
use Rattle.std.proofs.lemmas.List.Sorted.{IsPartitionPoint-from_clause}
use Rattle.tinystr_words.specs.Text.{text_of}
use Rattle.tinystr_packed.proofs.Prefixes.{begins, IsPartitionedBy-begins, IsPrefixRange-counted, filter-texts}
use Rattle.tinystr_packed.proofs.RisingTexts.{AreRisingRecords-texts, IsFirstNotBelow-texts, IsRecord-padded}
use Rattle.tinystr_packed.proofs.prefix.range_by_fronts.Goals as goal

pub returns-clause-start : goal.returns-clause-start
returns-clause-start g c padded rising =
    let records = c.args.records.now in
    let key = c.all_bytes.ensures in
    let place = c.lower_bound_whole-start.ensures.place (AreRisingRecords-texts records (map text_of records) g.row.N padded refl rising) (IsRecord-padded c.all_bytes.result.now g.row.N key.padded) in
    IsFirstNotBelow-texts records (map text_of records) c.args.beginning.now c.all_bytes.result.now g.row.N c.lower_bound_whole-start.result padded refl key.padded key.text place

pub returns-clause-range : goal.returns-clause-range
returns-clause-range g c = λ padded rising.
    let records = c.args.records.now in
    let ts = map text_of records in
    let p = c.as_utf8-beginning.result.now in
    let rest = c.split_at.result.1.now in
    let start = c.lower_bound_whole-start.result in
    let len = c.partition_point-len.result in
    let first = rw (← c.as_utf8-beginning.ensures.text) at (returns-clause-start g c padded rising) in
    let parted = IsPartitionedBy-begins records rest ts p g.row.N start padded refl c.as_utf8-beginning.ensures.ascii rising first c.split_at.ensures.back in
    let cut = IsPartitionPoint-from_clause (begins p) rest len c.partition_point-len.ensures.partitioned parted (λ a r q k. search rules) in
    let range = IsPrefixRange-counted records rest ts p g.row.N start len padded refl c.as_utf8-beginning.ensures.ascii first c.split_at.ensures.back cut c.partition_point-len.ensures.bound in
    let counted : start + len - start ≡ len = omega arith in
    let kept = rw counted at (filter-texts p ts start (start + len) range) in
    kept ∙ ap (λ (l : List ℕ). filter (begins l) ts) c.as_utf8-beginning.ensures.text
