use Rattle.std.proofs.Common.{◌≡◌, ◌≤◌, ◌+◌, ◌++◌, length, take}
use Rattle.archive_table.specs.declared.limits.TheConstants.{LIVE}
use Rattle.archive_server.specs.Timers.{giving_ports}
use Rattle.archive_server.proofs.timers.Timers.push_giving.Given as goal

abbrev pub invariant-loop-timer : goal.invariant-loop-timer
invariant-loop-timer g l =
    (l.ports.items ≡ l.initial.ports.items ++ giving_ports l.mode (take l.timer-index l.timer-items) l.table) × (length l.ports.items ≤ LIVE + l.timer-index)
