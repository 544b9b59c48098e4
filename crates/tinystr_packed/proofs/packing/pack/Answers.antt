use Rattle.std.proofs.Common.{arith}
use Rattle.tinystr_packed.proofs.PackedTexts.{packed-take_more, AllStrict-more}
use Rattle.tinystr_packed.proofs.packing.pack.Goals as goal

pub loop-text-preserved : goal.loop-text-preserved
loop-text-preserved g c = record {
  bytes = rw (c.in_ok-extend_from_slice.ensures.items, c.all_bytes.ensures.bytes) (packed-take_more g.row.N c.args.texts.now c.loop-text.text-index c.text-item.result c.loop-text.bytes.items (omega arith) c.text-item.is c.loop-text.invariant.bytes);
  each = AllStrict-more g.row.N c.args.texts.now c.loop-text.text-index c.text-item.result (omega arith) c.text-item.is (record { text = rw c.as_utf8.ensures.text at c.as_utf8.ensures.ascii; fits = rw c.as_utf8.ensures.text at c.as_utf8.ensures.fits }) c.loop-text.invariant.each;
}
