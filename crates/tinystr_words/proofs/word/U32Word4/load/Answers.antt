use Rattle.std.proofs.Common.{ℕ, ◌≡◌, ◌-◌, ◌/◌, ◌%◌, length, get_or, map, sym, ap, ◌∙◌, arith}
use Rattle.std.proofs.lemmas.List.{get_or-map, length-map}
use Rattle.tinystr_words.proofs.Pieces.Word.{IsBytes-low, word_from_three}
use Rattle.tinystr_words.proofs.word.U32Word4.load.Goals as goal

pub returns : goal.returns
returns g c =
    let src = c.args.src.now in
    let low : g.row.U.Denot → ℕ = λ u. g.U.CodeUnit.number u % 256 in
    let long : length (map low src) ≡ length src = length-map src low in
    let first : get_or (map low src) 0 0 ≡ c.from.result =
    get_or-map low src 0 c.index-src-0.result 0 (omega arith) ∙ ap low (sym c.index-src-0.is) ∙ sym c.low_byte.ensures ∙ sym c.from.ensures in
    let middle : get_or (map low src) (length src / 2) 0 ≡ c.from-2.result =
    get_or-map low src (length src / 2) c.index-src-middle.result 0 (omega arith) ∙ ap low (sym c.index-src-middle.is) ∙ sym c.low_byte-2.ensures ∙ sym c.from-2.ensures in
    let last : get_or (map low src) (length src - 1) 0 ≡ c.from-3.result =
    get_or-map low src (length src - 1) c.index-src-last.result 0 (omega arith) ∙ ap low (sym c.index-src-last.is) ∙ sym c.low_byte-3.ensures ∙ sym c.from-3.ensures in
    rw (long, first, middle, last) at (word_from_three (map low src) (IsBytes-low g.U.CodeUnit.number src) (omega arith) (omega arith))
