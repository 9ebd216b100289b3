use Rattle.std.proofs.Common.{rules}
use Rattle.show_commands.proofs.pack.run_pack.Goals as goal

pub returns-in_err-write_file-clause-fails : goal.returns-in_err-write_file-clause-fails
returns-in_err-write_file-clause-fails g c = search rules

pub returns-clause-packed : goal.returns-clause-packed
returns-clause-packed g c = search rules
