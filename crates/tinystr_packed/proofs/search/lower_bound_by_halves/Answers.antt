use Rattle.std.proofs.Common.{rules}
use Rattle.std.proofs.lemmas.List.Sorted.{IsPartitionPoint-from_clause}
use Rattle.tinystr_packed.proofs.RisingTexts.{is_below_key, IsPartitionedBy-rising, IsFirstNotBelow-cut}
use Rattle.tinystr_packed.proofs.search.lower_bound_by_halves.Goals as goal

pub returns-clause-place : goal.returns-clause-place
returns-clause-place g c = λ rising.
    let records = c.args.records.now in
    let key = c.args.key.now in
    let cut = IsPartitionPoint-from_clause (is_below_key key) records c.partition_point.result c.partition_point.ensures.partitioned (IsPartitionedBy-rising records key rising) (λ a r q k. search rules) in
    IsFirstNotBelow-cut records key c.partition_point.result c.partition_point.ensures.bound cut
