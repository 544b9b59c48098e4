use Rattle.std.proofs.Common.{◌≡◌, ◌==◌, ◌-◌, None, length, position, take}
use Rattle.tinystr_words.specs.Text.{text_of}
use Rattle.tinystr.proofs.ascii.splitting.find_past_sixteen.Given as goal

abbrev pub invariant-loop-start : goal.invariant-loop-start
invariant-loop-start l = position (λ b. b == l.byte) (take l.start (text_of l.bytes)) ≡ None

abbrev pub decreases-loop-start : goal.decreases-loop-start
decreases-loop-start l = length l.bytes - l.start
