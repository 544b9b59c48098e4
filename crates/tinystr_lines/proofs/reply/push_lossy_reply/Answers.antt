use Rattle.std.proofs.Common.{rules}
use Rattle.tinystr_lines.proofs.Replies.{lossy-take}
use Rattle.tinystr_lines.proofs.reply.push_lossy_reply.Goals as goal

pub returns : goal.returns
returns c = rw (← lossy-take c.args.capacity 32 c.args.units.now c.requires) (search rules)
