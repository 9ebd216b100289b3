use Rattle.std.proofs.Common.{◌≡◌, map, take}
use Rattle.archive_memory.specs.MemoryWires.{waiting_of, least_above, least_port}
use Rattle.archive_memory.proofs.memory_wire.next_at.Given as goal

abbrev pub invariant-loop-arrival : goal.invariant-loop-arrival
invariant-loop-arrival g l =
    let before = map waiting_of (take l.arrival-index l.inbox) in
    (l.above ≡ least_above l.after before) × (l.least ≡ least_port before)
