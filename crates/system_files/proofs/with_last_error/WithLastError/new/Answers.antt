use Rattle.std.proofs.Common.{rules}
use Rattle.system_files.proofs.with_last_error.WithLastError.new.Goals as goal

pub returns-clause-error : goal.returns-clause-error
returns-clause-error g c = search rules
