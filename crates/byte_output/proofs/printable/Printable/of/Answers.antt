use Rattle.std.proofs.Common.{rules}
use Rattle.byte_output.proofs.printable.Printable.of.Goals as goal

pub returns : goal.returns
returns c = search rules
