use Rattle.std.proofs.Common.{◌++◌, ℕ, List, [], take, sym, ap, ◌∙◌, arith, append-nil, append_assoc}
use Rattle.std.proofs.KnownBytes.{Consumes-trans}
use Rattle.std.proofs.lemmas.Grind.{common_steps}
use Rattle.tinystr_lines.specs.Reply.{output_of}
use Rattle.tinystr_lines.proofs.engine.read_output.Goals as goal

pub returns-in-Ok-eq0-clause-output : goal.returns-in-Ok-eq0-clause-output
returns-in-Ok-eq0-clause-output g c =
    let inv = c.loop-out.invariant in
    let bytes = c.in-Ok-eq0.ensures.bytes in
    let all = inv.2 [] in
    (inv.0 ++ take c.in-Ok-eq0.field-0 c.read.new.buf, Consumes-trans _ _ _ _ _ inv.1 bytes.0, grind (arith, common_steps, all, append-nil))

pub loop-out-preserved : goal.loop-out-preserved
loop-out-preserved g c =
    let inv = c.loop-out.invariant in
    let bytes = c.in-Ok.ensures.bytes in
    let answered = c.in-Ok-push_output_of_piece.ensures.answered in
    let read = take c.in-Ok.count c.read.new.buf in (
      inv.0 ++ read,
      Consumes-trans _ _ _ _ _ inv.1 bytes.0,
      λ more.
          rw (append_assoc inv.0 read more)
          (inv.2 (read ++ more)
          ∙ ap (λ (l : List ℕ). c.loop-out.out.items ++ output_of l) (sym (append_assoc c.loop-out.begun.items read more))
          ∙ answered more),
    )
