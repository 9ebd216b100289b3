use Rattle.std.proofs.Common.{rules}
use Rattle.byte_output.proofs.buffer.Buffer.push.Goals as goal

pub returns : goal.returns
returns g c = search rules
