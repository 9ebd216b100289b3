use Rattle.std.proofs.Common.{rules}
use Rattle.file_commands.proofs.without.level_of.Goals as goal

pub returns-in-Ok-clause-some : goal.returns-in-Ok-clause-some
returns-in-Ok-clause-some c = search rules
