use Rattle.std.proofs.Common.{◌≡◌}
use Rattle.archive_sockets.proofs.udp_wire.UdpWire.read_within.Given as goal

abbrev pub invariant-loop : goal.invariant-loop
invariant-loop g l = l.self.failures ≡ l.fn.self.failures
