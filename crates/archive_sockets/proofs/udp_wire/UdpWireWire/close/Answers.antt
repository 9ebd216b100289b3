use Rattle.std.proofs.Common.{rules}
use Rattle.archive_sockets.proofs.udp_wire.UdpWireWire.close.Goals as goal

pub returns-else-close-clause-fault : goal.returns-else-close-clause-fault
returns-else-close-clause-fault g c = search rules
