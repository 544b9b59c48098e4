use Rattle.std.proofs.Common.{rules}
use Rattle.tinystr.proofs.ShortInputs.{either_marks}
use Rattle.tinystr.proofs.short_input.either.Goals as goal

pub returns : goal.returns
returns c = either_marks c.args.one c.args.other c.args.lanes (search rules) (search rules)
