use Rattle.std.proofs.Common.{rules}
use Rattle.command_line.proofs.program.unknown_command.Goals as goal

pub returns-in-Ok : goal.returns-in-Ok
returns-in-Ok c = search rules
