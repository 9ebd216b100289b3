use Rattle.std.proofs.Common.{rules}
use Rattle.show_commands.proofs.program.job_in.Goals as goal

pub returns-in-Some-2 : goal.returns-in-Some-2
returns-in-Some-2 c = search rules

pub returns : goal.returns
returns c = search rules
