use Rattle.std.proofs.Common.{◌≡◌, map, drop}
use Rattle.archive_pace.specs.Queue.{first_at, waiting_of}
use Rattle.archive_pace.proofs.queue.is_due_at.Given as goal

abbrev pub invariant-loop-one : goal.invariant-loop-one
invariant-loop-one l = first_at l.port (map waiting_of l.held) ≡ first_at l.port (map waiting_of (drop l.one-index l.held))
