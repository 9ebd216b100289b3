use Rattle.std.proofs.Common.{◌≡◌, None, fold, take}
use Rattle.archive_server.specs.Places.{with_candidate}
use Rattle.archive_server.proofs.timers.Timers.slowest.Given as goal

abbrev pub invariant-loop-timer : goal.invariant-loop-timer
invariant-loop-timer g l =
    l.least ≡ fold (with_candidate l.full l.host l.now l.table) None (take l.timer-index l.timer-items)
