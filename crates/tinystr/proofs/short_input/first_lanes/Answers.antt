use Rattle.std.proofs.Common.{◌≡◌, ◌∙◌, ap, take, w8, arith}
use Rattle.std.proofs.lemmas.List.{length-take, take-map, take_min}
use Rattle.std.proofs.lemmas.Simd.{below_from_Fits, chunk-fits}
use Rattle.tinystr_words.proofs.Pieces.Word.{map-mod_bytes}
use Rattle.tinystr.proofs.EightLanes.{lanes_of-bytes}
use Rattle.tinystr.proofs.short_input.first_lanes.Goals as goal

pub returns : goal.returns
returns c =
    let u = c.args.units.now in
    let front : take c.min.result u ≡ take 16 u = ap (λ n. take n u) (c.min.ensures ∙ omega arith) ∙ take_min 16 u in
    rw (c.lanes.ensures, c.load.ensures, ← take-map, map-mod_bytes u c.type_inv.units, front)
    (lanes_of-bytes 16 (take 16 u) (below_from_Fits w8 (take 16 u) (chunk-fits w8 0 16 u c.type_inv.units)) (omega (arith, length-take 16 u)))
