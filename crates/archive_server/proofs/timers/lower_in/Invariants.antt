use Rattle.std.proofs.Common.{◌≡◌, ◌++◌, map, take, drop}
use Rattle.archive_server.specs.Timers.{lowered}
use Rattle.archive_server.proofs.timers.lower_in.Given as goal

abbrev pub invariant-loop-timer : goal.invariant-loop-timer
invariant-loop-timer l =
    l.row ≡ map lowered (take l.timer-index l.initial.row) ++ drop l.timer-index l.initial.row
