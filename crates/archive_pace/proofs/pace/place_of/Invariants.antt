use Rattle.std.proofs.Common.{◌≡◌, ◌++◌, take, drop}
use Rattle.archive_pace.specs.Pace.{without}
use Rattle.archive_pace.proofs.pace.place_of.Given as goal

abbrev pub invariant-loop-i : goal.invariant-loop-i
invariant-loop-i l = without l.host l.keeps ≡ take l.i l.keeps ++ without l.host (drop l.i l.keeps)
