-- What is written so far, and the output of the rest, is what was there and the output of the input.
use Rattle.std.proofs.Common.{◌≡◌, ◌++◌, length}
use Rattle.tinystr_lines.specs.Reply.{output_of}
use Rattle.tinystr_lines.proofs.engine.push_output_of_input.Given as goal

abbrev pub invariant-loop-rest : goal.invariant-loop-rest
invariant-loop-rest l = l.out.items ++ output_of l.rest ≡ l.initial.out.items ++ output_of l.input

abbrev pub decreases-loop-rest : goal.decreases-loop-rest
decreases-loop-rest l = length l.rest
