use Rattle.std.proofs.Common.{rules}
use Rattle.tftp_ends.proofs.received.Received.chunk_count.Goals as goal

pub returns : goal.returns
returns g c = search rules
