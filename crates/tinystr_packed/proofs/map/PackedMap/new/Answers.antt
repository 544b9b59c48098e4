use Rattle.std.proofs.Common.{◌≡◌, ◌≢◌, ◌*◌, ◌/◌, [], length, refl, sym, arith, true≢false}
use Rattle.std.proofs.Math.Nat.{div-add-mod, mul-mod_left, mul-div_cancel}
use Rattle.std.specs.List.{zip}
use Rattle.tinystr_packed.proofs.Computed.{map_of-other}
use Rattle.tinystr_packed.proofs.PackedMaps.{ArePacked-new, unmatched-no_entries}
use Rattle.tinystr_packed.proofs.map.PackedMap.new.Goals.{then-len-ne0-via-then-len-ne0, then-len-ne0-via-else-len-ne0+then-len-count}
use Rattle.tinystr_packed.proofs.map.PackedMap.new.Goals as goal

pub returns-then-len-ne0-clause-fault : goal.returns-then-len-ne0-clause-fault
returns-then-len-ne0-clause-fault g c =
    let h = c.in-Ok.ensures.texts in
    let count : c.len-count.result ≡ length c.in-Ok.keys = rw (c.len-count.ensures.len, c.table.ensures.table) refl in
    let other : length c.args.values.now ≢ c.len-count.result * g.row.M =
    elim c.then-len-ne0.branch [
      | then-len-ne0-via-then-len-ne0 w ↦ λ e. w.if-len-ne0.true (rw e (mul-mod_left c.len-count.result g.row.M))
      | then-len-ne0-via-else-len-ne0+then-len-count w ↦ λ e. w.if-len-count.true (rw e (mul-div_cancel c.len-count.result c.requires.values))
    ] in
    (record { texts = c.in-Ok.keys; each = h.strict; joined = h.joined }, h.rising, count, refl, other)

pub returns-then-len-ne0-clause-accepted : goal.returns-then-len-ne0-clause-accepted
returns-then-len-ne0-clause-accepted g c =
    let count : c.len-count.result ≡ length c.in-Ok.keys = rw (c.len-count.ensures.len, c.table.ensures.table) refl in
    let other : length c.args.values.now ≢ length c.in-Ok.keys * g.row.M = rw (← count) (returns-then-len-ne0-clause-fault g c).4 in (
      λ e. absurd (true≢false (sym e)),
      λ found. absurd (unmatched-no_entries c.in-Ok.keys c.args.keys.now c.args.values.now g.row.N g.row.M c.requires.keys c.in-Ok.ensures.texts other found),
    )

pub returns-then-len-ne0-clause-value : goal.returns-then-len-ne0-clause-value
returns-then-len-ne0-clause-value g c =
    map_of-other c.args.keys.now c.args.values.now g.row.N g.row.M c.requires.keys c.requires.values
    (λ found. true≢false (sym ((returns-then-len-ne0-clause-accepted g c).1 found)))

pub returns-then-is_empty-clause-accepted : goal.returns-then-is_empty-clause-accepted
returns-then-is_empty-clause-accepted g c =
    let count : c.len-count.result ≡ length c.in-Ok.keys = rw (c.len-count.ensures.len, c.table.ensures.table) refl in
    let none : length c.args.values.now ≡ 0 = grind arith in
    (λ _. (zip c.in-Ok.keys [], ArePacked-new c.in-Ok.keys [] c.args.keys.now c.args.values.now g.row.N g.row.M 0 c.in-Ok.ensures.texts (grind arith) (grind arith) refl), λ _. refl)

pub returns-clause-entries : goal.returns-clause-entries
returns-clause-entries g c =
    let count : c.len-count.result ≡ length c.in-Ok.keys = rw (c.len-count.ensures.len, c.table.ensures.table) refl in
    let whole = div-add-mod (length c.args.values.now) g.row.M in
    ArePacked-new c.in-Ok.keys c.as_chunks.result.0.now c.args.keys.now c.args.values.now g.row.N g.row.M (length c.args.values.now / g.row.M) c.in-Ok.ensures.texts (grind arith) (grind arith) c.as_chunks.ensures.front

pub returns-clause-accepted : goal.returns-clause-accepted
returns-clause-accepted g c = (λ _. (zip c.in-Ok.keys c.as_chunks.result.0.now, returns-clause-entries g c), λ _. refl)
