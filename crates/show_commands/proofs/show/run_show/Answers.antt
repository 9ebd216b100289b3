use Rattle.std.proofs.Common.{rules}
use Rattle.show_commands.proofs.show.run_show.Goals as goal

pub returns-in_err-show-clause-fails : goal.returns-in_err-show-clause-fails
returns-in_err-show-clause-fails g c = search rules

pub returns-clause-listed : goal.returns-clause-listed
returns-clause-listed g c = search rules
