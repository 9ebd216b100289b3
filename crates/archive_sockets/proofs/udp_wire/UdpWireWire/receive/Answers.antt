use Rattle.std.proofs.Common.{rules}
use Rattle.archive_sockets.proofs.udp_wire.UdpWireWire.receive.Goals as goal

pub returns-in-Err-clause-fault : goal.returns-in-Err-clause-fault
returns-in-Err-clause-fault g c = search rules
