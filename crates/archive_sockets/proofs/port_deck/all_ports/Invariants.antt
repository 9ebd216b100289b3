use Rattle.archive_sockets.specs.Dealing.{AreFrom}
use Rattle.archive_sockets.proofs.port_deck.all_ports.Given as goal

abbrev pub invariant-loop-i : goal.invariant-loop-i
invariant-loop-i l = AreFrom l.first l.ports.items l.i
