-- The table's rest gives what the table gives.
use Rattle.std.proofs.Common.{◌≡◌, length}
use Rattle.tinystr_lines.specs.Reply.{named}
use Rattle.tinystr_lines.proofs.command.named.Given as goal

abbrev pub invariant-loop-table : goal.invariant-loop-table
invariant-loop-table g l = named l.table l.field ≡ named l.initial.table l.field

abbrev pub decreases-loop-table : goal.decreases-loop-table
decreases-loop-table g l = length l.table
