use Rattle.std.proofs.Common.{◌≡◌, ◌++◌, take, drop}
use Rattle.archive_pace.specs.Unheard.{without}
use Rattle.archive_pace.proofs.unheard.place_of.Given as goal

abbrev pub invariant-loop-i : goal.invariant-loop-i
invariant-loop-i l = without l.port l.ports ≡ take l.i l.ports ++ without l.port (drop l.i l.ports)
