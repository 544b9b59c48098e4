use Rattle.std.proofs.Common.{ℕ, ◌==◌, ◌≡◌, ◌≤◌, ◌∙◌, Some, ap, arith, length, position, sym, take, take_all, rules}
use Rattle.std.proofs.lemmas.Bool.Decides.{nat_tests}
use Rattle.std.proofs.lemmas.List.{length-take, take-take}
use Rattle.tinystr_words.specs.Text.{text_of}
use Rattle.tinystr_words.proofs.Parts.Found.{position-front}
use Rattle.tinystr_words.proofs.Parts.Splits.{slice_split-found}
use Rattle.tinystr_words.proofs.Texts.{length-text_of-le}
use Rattle.tinystr.proofs.Splits.{length-text_of-nul, position-inside, slice_split-whole}
use Rattle.tinystr.proofs.ascii.splitting.split_first.Goals as goal
use Rattle.tinystr.proofs.ascii.splitting.split_first.Goals.{then-bytes-le16, else-bytes-le16}

pub text_of_first_lanes-requires : goal.text_of_first_lanes-requires
text_of_first_lanes-requires g c =
    let bytes = c.args.bytes.now in
    let lanes = c.first_sixteen-lanes.ensures in
    let front = text_of c.first_sixteen-lanes.result in
    let inside = position-inside (λ b. b == c.args.separator) front c.in-Some.at c.in-Some.ensures in
    let fits : length front ≤ length bytes = rw lanes.text (omega (arith, length-take 16 (text_of bytes), length-text_of-le bytes)) in
    (search rules, (lanes.len, (lanes.padded, (omega (arith, inside, length-text_of-le c.first_sixteen-lanes.result), omega (arith, fits)))))

pub returns-in-Some-clause-parts : goal.returns-in-Some-clause-parts
returns-in-Some-clause-parts g c =
    let p = λ (b : ℕ). b == c.args.separator in
    let t = text_of c.args.bytes.now in
    let lanes = c.first_sixteen-lanes.ensures in
    let at : position p (take 16 t) ≡ Some c.in-Some.at = rw lanes.text at (sym c.in-Some.ensures) in
    let part = c.text_of_first_lanes.ensures ∙ ap (take c.in-Some.at) lanes.text ∙ take-take c.in-Some.at 16 t (omega (arith, position-inside p (take 16 t) c.in-Some.at (sym at), length-take 16 t)) in
    rw (part, c.rest_of.ensures.text) (slice_split-found p t c.in-Some.at (position-front p t 16 c.in-Some.at at))

pub returns-in-None-clause-parts : goal.returns-in-None-clause-parts
returns-in-None-clause-parts g c =
    let bytes = c.args.bytes.now in
    let p = λ (b : ℕ). b == c.args.separator in
    let t = text_of bytes in
    let ends : length t ≤ 16 = elim c.if-bytes-le16.branch [
      | then-bytes-le16 w ↦ omega (arith, length-text_of-le bytes)
      | else-bytes-le16 w ↦ length-text_of-nul bytes (length bytes) 16 c.requires.padded (grind (arith, nat_tests))
    ] in
    let all : text_of c.first_sixteen-lanes.result ≡ t = c.first_sixteen-lanes.ensures.text ∙ take_all 16 t ends in
    slice_split-whole p t c.text_of_lanes.result (rw all at (sym c.in-None.ensures)) (c.text_of_lanes.ensures ∙ all)
