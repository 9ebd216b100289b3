use Rattle.std.proofs.Common.{rules}
use Rattle.command_line.proofs.streams.report_streams.Goals as goal

pub returns-in-Some-default-clause-silent : goal.returns-in-Some-default-clause-silent
returns-in-Some-default-clause-silent g c = search rules

pub returns-in-None-Some-clause-silent : goal.returns-in-None-Some-clause-silent
returns-in-None-Some-clause-silent g c = search rules
