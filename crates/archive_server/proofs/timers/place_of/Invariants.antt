use Rattle.std.proofs.Common.{◌≡◌, ◌++◌, take, drop}
use Rattle.archive_server.specs.Timers.{without_timer}
use Rattle.archive_server.proofs.timers.place_of.Given as goal

abbrev pub invariant-loop-i : goal.invariant-loop-i
invariant-loop-i l = without_timer l.port l.row ≡ take l.i l.row ++ without_timer l.port (drop l.i l.row)
