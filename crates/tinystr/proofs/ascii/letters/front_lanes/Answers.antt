use Rattle.std.proofs.Common.{◌≡◌, ◌%◌, ◌∙◌, ap, sym, map, take, w8, arith, rules}
use Rattle.std.proofs.lemmas.List.{places, same_lists, length-take, take-map}
use Rattle.std.proofs.lemmas.Simd.{below_from_Fits, chunk-fits}
use Rattle.tinystr_words.specs.Words.{word, lanes_of}
use Rattle.tinystr_words.proofs.Words.Numbers.{bytes_low_first_is_lanes}
use Rattle.tinystr_words.proofs.Pieces.Word.{map-mod_bytes}
use Rattle.tinystr.proofs.EightLanes.{lanes_of-bytes}
use Rattle.tinystr.proofs.ascii.letters.front_lanes.Goals as goal

pub returns : goal.returns
returns c =
    let u = c.args.units.now in
    let front : take c.min.result u ≡ take 8 u = same_lists _ _ (search (rules, places)) (λ k d h. grind (arith, places)) in
    let bytes : map (λ b. b % 256) (take 8 u) ≡ take 8 u = sym (take-map (λ b. b % 256) 8 u) ∙ ap (take 8) (map-mod_bytes u c.type_inv.units) in
    c.to_le_bytes.ensures ∙ bytes_low_first_is_lanes 8 c.load.result ∙ ap (lanes_of 8) (c.load.ensures ∙ ap word (ap (map (λ b. b % 256)) front ∙ bytes))
    ∙ lanes_of-bytes 8 (take 8 u) (below_from_Fits w8 (take 8 u) (chunk-fits w8 0 8 u c.type_inv.units)) (omega (arith, length-take 8 u))
