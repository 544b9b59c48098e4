use Rattle.std.proofs.Common.{◌++◌, List, ℕ, [], ◌∷◌, length, arith, ap, ◌∙◌, append_assoc, length-append}
use Rattle.std.proofs.lemmas.Grind.{common_steps}
use Rattle.tinystr_lines.proofs.Lines.{output_of-piece, length-output_of}
use Rattle.tinystr_lines.proofs.engine.push_output_of_piece.Goals as goal

pub returns-clause-answered : goal.returns-clause-answered
returns-clause-answered c =
    let parts = c.in-Some.ensures.some in
    λ more. rw (output_of-piece c.args.begun.now.items c.args.piece.now c.in-Some.lines.now c.in-Some.rest.now parts.0 more parts.1 parts.2) (grind (arith, common_steps, append_assoc))

pub returns-clause-grown : goal.returns-clause-grown
returns-clause-grown c =
    let parts = c.in-Some.ensures.some in
    let ends = ap (λ (l : List ℕ). length l) parts.1 ∙ length-append parts.0 (10 ∷ []) in
    let joined = length-append c.args.begun.now.items c.in-Some.lines.now in
    let some = length-output_of (c.args.begun.now.items ++ c.in-Some.lines.now) (omega (arith, ends, joined)) in
    λ same. grind (arith, common_steps, some, same, length-append)
