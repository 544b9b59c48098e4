use Rattle.std.proofs.Common.{◌%◌, ◌-◌, ◌≡◌, arith, length, map}
use Rattle.std.proofs.lemmas.List.{length-map}
use Rattle.tinystr_words.proofs.Pieces.Copying.{copied_more, copied_whole, piece-of_eight}
use Rattle.tinystr_words.proofs.padded.code_units.put_low_bytes.Goals as goal

pub returns : goal.returns
returns g c =
    let units = c.args.units.now in
    let now = c.loop-end in
    let piece = c.copy_from_slice-2 in
    let rest = length units - now.start in
    let low = map (λ u. g.U.CodeUnit.number u % 256) units in
    let long : length low ≡ length units = length-map units (λ u. g.U.CodeUnit.number u % 256) in
    let part = piece-of_eight (λ u. g.U.CodeUnit.number u % 256) units c.eight_low_bytes-eight-2.result piece.new.self (length units - 8) (length units - (length units - 8)) (8 - rest) (8 - (8 - rest)) now.start rest
    (omega arith) c.eight_low_bytes-eight-2.ensures piece.ensures.after (omega arith) (omega (arith, now.invariant.most)) (omega (arith, now.invariant.most)) in
    copied_whole c.args.bytes.now low _ (length units) (omega arith) c.requires.len
    (copied_more c.args.bytes.now low now.bytes piece.new.self now.start rest (length units)
    now.invariant.copied (omega (arith, now.invariant.inside)) (omega arith) (omega (arith, c.requires.len)) part)
