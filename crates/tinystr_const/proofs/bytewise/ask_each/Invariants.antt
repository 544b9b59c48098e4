use Rattle.std.proofs.Common.{◌≡◌, length}
use Rattle.std.specs.List.{list_all}
use Rattle.tinystr_const.proofs.Passing.{passes_later}
use Rattle.tinystr_const.proofs.bytewise.ask_each.Given as goal

-- the answer is that for the rest
abbrev pub invariant-loop-rest : goal.invariant-loop-rest
invariant-loop-rest l = list_all (passes_later l.question) l.rest ≡ list_all (passes_later l.question) l.fn.bytes

abbrev pub decreases-loop-rest : goal.decreases-loop-rest
decreases-loop-rest l = length l.rest
