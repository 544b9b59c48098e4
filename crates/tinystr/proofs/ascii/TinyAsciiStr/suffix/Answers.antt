use Rattle.std.proofs.Common.{◌≡◌, ◌≤◌, ◌∙◌, ℕ, List, length, min, take, drop, ap, sym, arith, rules}
use Rattle.std.proofs.lemmas.Bool.Decides.{nat_tests}
use Rattle.std.proofs.lemmas.List.{places, same_lists, take_all}
use Rattle.tinystr_words.specs.Text.{text_of}
use Rattle.tinystr_words.proofs.Texts.{length-text_of-le}
use Rattle.tinystr.proofs.Splits.{length-text_of-nul}
use Rattle.tinystr.proofs.ascii.TinyAsciiStr.suffix.Goals as goal
use Rattle.tinystr.proofs.ascii.TinyAsciiStr.suffix.Goals.{then-rest-le16-via-then-rest-le16, then-rest-le16-via-else-rest-le16+then-rest-eq0}

-- the text from a place on, or from the end where the place is past it
drop-min : (t : List ℕ) (n m start : ℕ) → length t ≤ n → m ≡ min start n → drop m t ≡ drop start t
drop-min t n m start fits is = rw is (same_lists _ _ (search (rules, places)) (λ k d h. grind (arith, places)))

pub returns-then-rest-le16 : goal.returns-then-rest-le16
returns-then-rest-le16 g c =
    let bytes = c.padded_bytes-bytes.result.now in
    let rest = c.rest_of-rest.result.now in
    let ends : length (text_of rest) ≤ 16 = elim c.then-rest-le16.branch [
      | then-rest-le16-via-then-rest-le16 w ↦ omega (arith, length-text_of-le rest)
      | then-rest-le16-via-else-rest-le16+then-rest-eq0 w ↦ length-text_of-nul rest (length rest) 16 c.rest_of-rest.ensures.padded (grind (arith, nat_tests))
    ] in
    let is = c.text_of_lanes.ensures ∙ c.first_sixteen.ensures.text ∙ take_all 16 (text_of rest) ends in
    let fits : length c.text_of_lanes.result ≤ g.row.M = search rules in
    let back = drop-min (text_of bytes) (length bytes) c.min.result c.args.start (length-text_of-le bytes) (omega (arith, c.min.ensures)) in
    sym (take_all g.row.M c.text_of_lanes.result fits)
    ∙ ap (take g.row.M) (is ∙ c.rest_of-rest.ensures.text ∙ back ∙ ap (drop c.args.start) c.padded_bytes-bytes.ensures.text)
