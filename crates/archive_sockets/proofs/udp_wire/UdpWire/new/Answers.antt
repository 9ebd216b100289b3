use Rattle.std.proofs.Common.{rules}
use Rattle.archive_sockets.proofs.udp_wire.UdpWire.new.Goals as goal

pub returns-clause-failures : goal.returns-clause-failures
returns-clause-failures g c = search rules
