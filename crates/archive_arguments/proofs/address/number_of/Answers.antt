use Rattle.std.proofs.Common.{rules}
use Rattle.archive_arguments.proofs.address.number_of.Goals as goal

pub returns : goal.returns
returns c = search rules
