use Rattle.tinystr_lines.proofs.Names.{command_of-of_length}
use Rattle.tinystr_lines.proofs.command.Command.parse.Goals as goal

pub returns-in-9 : goal.returns-in-9
returns-in-9 c = rw (command_of-of_length 9 c.args.field.now c.in-9.is) c.named-in-9.ensures

pub returns-in-10 : goal.returns-in-10
returns-in-10 c = rw (command_of-of_length 10 c.args.field.now c.in-10.is) c.named-in-10.ensures

pub returns-in-20 : goal.returns-in-20
returns-in-20 c = rw (command_of-of_length 20 c.args.field.now c.in-20.is) c.named-in-20.ensures
