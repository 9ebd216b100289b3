use Rattle.std.proofs.Common.{◌≡◌, ◌≤◌, ◌||◌, length, filter, take}
use Rattle.archive_server.specs.Timers.{ports_of, is_due, gives_way}
use Rattle.archive_server.proofs.timers.Timers.late.Given as goal

abbrev pub invariant-loop-timer : goal.invariant-loop-timer
invariant-loop-timer g l =
    (l.ports.items ≡ ports_of (filter (λ t. is_due l.by t || gives_way l.mode t.port l.table) (take l.timer-index l.timer-items))) × (length l.ports.items ≤ l.timer-index)
