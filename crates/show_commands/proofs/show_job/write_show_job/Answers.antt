use Rattle.std.proofs.Common.{rules}
use Rattle.show_commands.proofs.show_job.write_show_job.Goals as goal

pub returns-in-Show-clause-ran : goal.returns-in-Show-clause-ran
returns-in-Show-clause-ran g c = search rules
