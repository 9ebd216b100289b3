use Rattle.std.proofs.Common.{rules}
use Rattle.tws_file.proofs.bytes.Bytes.of.Goals as goal

pub returns-clause-list : goal.returns-clause-list
returns-clause-list g c = search rules
