use Rattle.std.proofs.Common.{rules}
use Rattle.archive_sockets.proofs.udp_wire.UdpWire.listen_at.Goals as goal

pub returns-clause-host : goal.returns-clause-host
returns-clause-host g c = search rules
