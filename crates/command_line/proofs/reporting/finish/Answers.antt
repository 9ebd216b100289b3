use Rattle.std.proofs.Common.{rules}
use Rattle.command_line.proofs.reporting.finish.Goals as goal

pub returns-in-Ok-clause-status : goal.returns-in-Ok-clause-status
returns-in-Ok-clause-status g c = search rules
