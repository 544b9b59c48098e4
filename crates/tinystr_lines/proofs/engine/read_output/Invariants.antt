-- What was read is answered but for what is begun. Each read adds a reply, or bytes to what is begun.
use Rattle.std.proofs.Common.{◌≡◌, ◌++◌, ◌+◌, ◌*◌, ◌-◌, ◌^◌, List, ℕ, vec_len}
use Rattle.std.specs.Io.KnownBytes.{Consumes}
use Rattle.tinystr_lines.specs.Reply.{output_of}
use Rattle.tinystr_lines.proofs.engine.read_output.Given as goal

abbrev pub invariant-loop-out : goal.invariant-loop-out
invariant-loop-out g l = (seen : List ℕ) × Consumes (g.R.Read.remaining l.initial.reader) (g.R.Read.remaining l.reader) seen
    × ((more : List ℕ) → output_of (seen ++ more) ≡ l.out.items ++ output_of (l.begun.items ++ more))

abbrev pub decreases-loop-out : goal.decreases-loop-out
decreases-loop-out g l = (2 ^ 63 - vec_len l.out) * 2 ^ 64 + (2 ^ 63 - vec_len l.begun)
