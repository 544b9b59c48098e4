use Rattle.std.proofs.Common.{◌≡◌, ◌+◌, length, rules, arith}
use Rattle.tinystr_words.specs.Text.{pad}
use Rattle.tinystr_packed.specs.Rising.{IsFirstNotBelow}
use Rattle.tinystr_packed.proofs.Prefixes.{IsPartitionPoint-raised}
use Rattle.tinystr_packed.proofs.RisingTexts.{raised, IsRecord-raised}
use Rattle.tinystr_packed.proofs.prefix.count_with_prefix.Goals as goal

pub lower_bound_near_start-requires : goal.lower_bound_near_start-requires
lower_bound_near_start-requires g c = (search rules, (c.requires.records, IsRecord-raised c.all_bytes.result.now g.row.N c.in-Some.last c.all_bytes.ensures.padded))

pub returns-clause-count : goal.returns-clause-count
returns-clause-count g c =
    let p = c.args.beginning.now in
    let last = c.in-Some.last in
    let end : length p ≡ last + 1 = omega (arith, c.len.ensures.len) in
    let found : IsFirstNotBelow (raised (pad p g.row.N) last) c.args.records.now c.lower_bound_near_start.result = rw (← c.all_bytes.ensures.bytes) c.lower_bound_near_start.ensures in
    IsPartitionPoint-raised c.args.records.now p g.row.N last c.lower_bound_near_start.result c.requires.records c.requires.not_below end (omega (arith, c.len.ensures.len, c.len.ensures.fits)) found
