-- The plain value of a pace, without its layout in memory.
use Rattle.archive_pace.specs.declared.pace.Pace.TheInside as paces
use Rattle.archive_pace.specs.Pace.{Pacing}

abbrev pub pacing_of : paces.Inside → Pacing
pacing_of p = record { last = p.last; keeps = p.keeps.items; heard = p.heard; heard_at = p.heard_at; other_at = p.other_at }
