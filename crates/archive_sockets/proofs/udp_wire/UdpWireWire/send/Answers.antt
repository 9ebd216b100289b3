use Rattle.std.proofs.Common.{rules}
use Rattle.archive_sockets.proofs.udp_wire.UdpWireWire.send.Goals as goal

pub returns-else-sent-clause-fault : goal.returns-else-sent-clause-fault
returns-else-sent-clause-fault g c = search rules
