use Rattle.std.proofs.Common.{◌≡◌, ◌++◌, map, take, drop}
use Rattle.archive_server.specs.Timers.{renewed}
use Rattle.archive_server.proofs.timers.renew_in.Given as goal

abbrev pub invariant-loop-timer : goal.invariant-loop-timer
invariant-loop-timer l =
    l.row ≡ map (renewed l.port l.due l.block) (take l.timer-index l.initial.row) ++ drop l.timer-index l.initial.row
