use Rattle.std.proofs.Common.{rules}
use Rattle.byte_output.proofs.buffer.Buffer.send_first.Goals as goal

pub returns-clause-ok : goal.returns-clause-ok
returns-clause-ok g c = search rules
