use Rattle.std.proofs.Common.{◌≡◌, None, fold, take}
use Rattle.archive_server.specs.Timers.{earlier}
use Rattle.archive_server.proofs.timers.Timers.earliest.Given as goal

abbrev pub invariant-loop-timer : goal.invariant-loop-timer
invariant-loop-timer l = l.least ≡ fold earlier None (take l.timer-index l.timer-items)
