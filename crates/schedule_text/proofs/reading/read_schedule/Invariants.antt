use Rattle.std.proofs.Common.{◌≡◌, ◌-◌, map, take, length, Some}
use Rattle.archive_world.specs.View.{events_of}
use Rattle.schedule_text.specs.Schedule.{lines_events}
use Rattle.schedule_text.proofs.reading.read_schedule.Given as goal

abbrev pub invariant-loop-i : goal.invariant-loop-i
invariant-loop-i l = lines_events (take l.i (map (λ x. x.items) l.lines.items)) ≡ Some (events_of l.events.items)

abbrev pub decreases-loop-i : goal.decreases-loop-i
decreases-loop-i l = length l.lines.items - l.i
