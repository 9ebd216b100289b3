use Rattle.std.proofs.Common.{◌≡◌, ℕ, ◌++◌, take, drop}
use Rattle.archive_server.specs.Timers.{new_timer, with_timer}
use Rattle.archive_server.proofs.timers.place_for.Given as goal

abbrev pub invariant-loop-i : goal.invariant-loop-i
invariant-loop-i l =
    (due : ℕ) → with_timer (new_timer l.port due) l.row ≡ take l.i l.row ++ with_timer (new_timer l.port due) (drop l.i l.row)
