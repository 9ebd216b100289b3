use Rattle.std.proofs.Common.{rules}
use Rattle.archive_keepers.proofs.readable.Readable.new.Goals as goal

pub returns : goal.returns
returns g c = search rules
