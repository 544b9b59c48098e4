use Rattle.std.proofs.Common.{ℕ, List, ◌%◌, ◌+◌, ◌≤◌, ◌<◌, ◌≡◌, ◌∙◌, ap, arith, drop, get_or, length, map, rules, take}
use Rattle.std.proofs.lemmas.Grind.{same_number_lists}
use Rattle.std.proofs.lemmas.List.{length-map, places}
use Rattle.tinystr_words.specs.Words.{word}
use Rattle.tinystr_const.proofs.loading.word_of_eight.Goals as goal

-- eight bytes from a place on
eight_from : (chunk bytes low : List ℕ) (start m : ℕ) → chunk ≡ take 8 (take m (drop start bytes)) → 8 ≤ m → start + 8 ≤ length bytes → length low ≡ 8
    → ((k : ℕ) → k < 8 → get_or bytes (start + k) 0 ≡ get_or low k 0) → chunk ≡ low
eight_from chunk bytes low start m is wide inside long same = rw is (same_number_lists _ _ (search (rules, places)) (λ k below. grind (arith, places, same k)))

pub returns : goal.returns
returns c =
    let now = c.loop-at in
    let low = map (λ u. u % 256) c.args.units.now in
    let cut = rw c.unwrap.ensures at c.first_chunk.ensures.cases in
    let long : length low ≡ 8 = length-map c.args.units.now (λ u. u % 256) ∙ c.requires in
    let start = c.args.place % 8 in
    c.word_of.ensures ∙ ap word (eight_from _ now.bytes low start _ cut.same (omega arith) (omega (arith, now.invariant.len)) long (λ k below. now.invariant.made k (omega arith)))
