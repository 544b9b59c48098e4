use Rattle.std.proofs.Common.{◌≡◌, ◌++◌, arith, refl}
use Rattle.tinystr_packed.proofs.SortedRecords.{ArePackedInOrder-sorted, length-sorted}
use Rattle.tinystr_hashed.proofs.Repeats.{rising-distinct}
use Rattle.tinystr_hashed.proofs.SortedTables.{ArePackedHashed-sorted, sorted_header}
use Rattle.tinystr_hashed.proofs.packing_into.put_in_order.Goals as goal

pub copy_from_slice-requires-2 : goal.copy_from_slice-requires-2
copy_from_slice-requires-2 g c =
    omega (arith, c.split_at_mut-header.ensures.back_len, c.requires.out, length-sorted c.args.texts.now c.sorted_records.result.now g.row.N c.sorted_records.ensures)

pub returns : goal.returns
returns g c =
    let texts = c.args.texts.now in
    let records = c.sorted_records.result.now in
    let s = c.sorted_records.ensures in
    let bytes = c.copy_from_slice.new.self ++ c.copy_from_slice-2.new.self in
    let is : bytes ≡ sorted_header ++ records = rw (c.copy_from_slice.ensures.after, c.copy_from_slice-2.ensures.after) refl in
    ArePackedHashed-sorted texts bytes records g.row.N (ArePackedInOrder-sorted texts records g.row.N s (rising-distinct texts records g.row.N s c.requires.distinct)) c.requires.distinct is
