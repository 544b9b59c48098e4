use Rattle.std.proofs.Common.{◌≡◌, ◌≤◌, ◌==◌, ◌∙◌, ℕ, None, length, ap, arith}
use Rattle.std.specs.List.{position}
use Rattle.std.proofs.lemmas.Bool.Decides.{nat_tests}
use Rattle.tinystr_words.specs.Text.{text_of}
use Rattle.tinystr_words.proofs.Parts.Found.{position-first}
use Rattle.tinystr.proofs.Splits.{length-text_of-nul}
use Rattle.tinystr.proofs.ascii.TinyAsciiStr.find.Goals as goal
use Rattle.tinystr.proofs.ascii.TinyAsciiStr.find.Goals.{else-is_none-via-then-is_none+then-this-gt16+else-bytes-ne0, else-is_none-via-then-is_none+else-this-gt16, else-is_none-via-else-is_none}

pub returns-clause-place : goal.returns-clause-place
returns-clause-place g c =
    let bytes = c.self.inside.bytes in
    let t = text_of bytes in
    let p = λ (b : ℕ). b == c.args.byte in
    let fits = c.self.invariant.fits in
    let whole : c.find_in_sixteen-found.result ≡ None → length t ≤ 16 = elim c.else-is_none.branch [
      | else-is_none-via-then-is_none+then-this-gt16+else-bytes-ne0 w ↦ λ _. length-text_of-nul bytes g.row.N 16 c.self.invariant (grind (arith, nat_tests))
      | else-is_none-via-then-is_none+else-this-gt16 w ↦ λ _. omega arith
      | else-is_none-via-else-is_none w ↦ λ none. absurd (grind (arith, nat_tests))
    ] in
    position-first p t 16 c.find_in_sixteen-found.result (c.find_in_sixteen-found.ensures ∙ ap (position p) c.first_sixteen.ensures.text) whole ∙ ap (position p) c.self.view_is
