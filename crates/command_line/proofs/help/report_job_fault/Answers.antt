use Rattle.std.proofs.Common.{rules}
use Rattle.command_line.proofs.help.report_job_fault.Goals as goal

pub returns-in-Memory-clause-ran : goal.returns-in-Memory-clause-ran
returns-in-Memory-clause-ran g c = search rules
