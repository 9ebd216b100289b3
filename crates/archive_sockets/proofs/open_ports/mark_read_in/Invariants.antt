use Rattle.std.proofs.Common.{◌≡◌, ◌++◌, map, take, drop}
use Rattle.archive_sockets.specs.Arrivals.{marked_read}
use Rattle.archive_sockets.proofs.open_ports.mark_read_in.Given as goal

abbrev pub invariant-loop-open : goal.invariant-loop-open
invariant-loop-open l =
    l.ports ≡ map marked_read (take l.open-index l.initial.ports) ++ drop l.open-index l.initial.ports
