use Rattle.std.proofs.Common.{◌≡◌, ◌∙◌, None, Some, position, refl, sym, ◌==◌}
use Rattle.std.proofs.lemmas.Bool.{false≢true}
use Rattle.tinystr_words.proofs.Parts.Found.{absent-place, byte_position-none, byte_position-some}
use Rattle.tinystr_words.proofs.bytes.split_at_byte.Goals as goal

pub returns-in-None-clause-found : goal.returns-in-None-clause-found
returns-in-None-clause-found c =
    let none : position (λ b. b == c.args.byte) c.args.bytes.now ≡ None = sym c.find.ensures ∙ c.in-None.is in
    (λ wrong. absurd (false≢true wrong), λ has. absurd ((byte_position-none c.args.byte c.args.bytes.now).0 none has))

pub returns-in-Some-clause-found : goal.returns-in-Some-clause-found
returns-in-Some-clause-found c =
    let some : position (λ b. b == c.args.byte) c.args.bytes.now ≡ Some c.in-Some.at = sym c.find.ensures ∙ c.in-Some.is in
    (λ _. (byte_position-some c.args.byte c.args.bytes.now).0 (rw some refl), λ _. refl)

pub returns-in-Some-clause-absent : goal.returns-in-Some-clause-absent
returns-in-Some-clause-absent c = absent-place c.args.byte c.args.bytes.now c.in-Some.at (sym c.find.ensures ∙ c.in-Some.is)
