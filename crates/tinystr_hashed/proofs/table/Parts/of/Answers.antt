use Rattle.std.proofs.Common.{arith, refl, ◌+◌, ◌*◌, ◌≡◌, ◌∙◌}
use Rattle.tinystr_hashed.proofs.HashedBytes.{after_header, moves-read, pilots-read, records-read}
use Rattle.tinystr_hashed.proofs.table.Parts.of.Goals as goal

pub returns-clause-pilots : goal.returns-clause-pilots
returns-clause-pilots c =
    pilots-read c.args.bytes.now _ c.split_at.result.0.now c.split_at-2.result.0.now c.short_number-pilot_count.result _ c.short_number-pilot_count.ensures (after_header c.args.bytes.now _ refl) (omega arith) c.split_at.ensures.front c.split_at-2.ensures.front

pub returns-clause-moves : goal.returns-clause-moves
returns-clause-moves c =
    moves-read c.args.bytes.now _ c.split_at.result.0.now c.split_at-2.result.1.now c.as_chunks.result.0.now c.short_number-pilot_count.result c.short_number-move_count.result c.saturating_add-size.result c.short_number-pilot_count.ensures c.short_number-move_count.ensures (omega arith) (after_header c.args.bytes.now _ refl) c.if-rest-size.false c.split_at.ensures.front c.split_at-2.ensures.back c.as_chunks.ensures.front

pub returns-clause-records : goal.returns-clause-records
returns-clause-records c =
    let size : c.saturating_add-size.result ≡ c.short_number-pilot_count.result + 4 * c.short_number-move_count.result = omega arith in
    records-read c.args.bytes.now _ c.split_at.result.1.now _ (size ∙ rw (c.short_number-pilot_count.ensures, c.short_number-move_count.ensures) refl) (after_header c.args.bytes.now _ refl) c.split_at.ensures.back
