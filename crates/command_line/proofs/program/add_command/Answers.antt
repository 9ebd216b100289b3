use Rattle.std.proofs.Common.{rules}
use Rattle.command_line.proofs.program.add_command.Goals as goal

pub returns : goal.returns
returns c = search rules
