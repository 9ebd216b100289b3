use Rattle.std.proofs.Common.{◌≡◌}
use Rattle.archive_sockets.proofs.open_port.OpenPort.read.Given as goal

abbrev pub invariant-loop-other : goal.invariant-loop-other
invariant-loop-other l = (l.self.port ≡ l.initial.self.port) × (l.self.host ≡ l.initial.self.host)
