use Rattle.std.proofs.Common.{arith, ◌%◌}
use Rattle.std.proofs.lemmas.List.{drop-map, take-map}
use Rattle.tinystr_words.proofs.Pieces.Word.{map-mod_bytes, word_cut}
use Rattle.tinystr_words.proofs.padded.padding.eight_of.Goals as goal

pub returns : goal.returns
returns c =
    let bytes = c.args.bytes.now in
    let n = c.min.result in
    let cut = word_cut 4 n bytes c.min.ensures in
    let low = rw (c.split_at.ensures.front, ← take-map (λ u. u % 256) n bytes, map-mod_bytes bytes c.type_inv.bytes) at c.load-low.ensures in
    let high = rw (c.split_at.ensures.back, ← drop-map (λ u. u % 256) n bytes, map-mod_bytes bytes c.type_inv.bytes) at c.load-high.ensures in
    omega (arith, cut, low, high, c.from.ensures, c.from-2.ensures, c.load-high.type_inv)
