use Rattle.std.proofs.Common.{rules}
use Rattle.archive_memory.proofs.memory_wire.MemoryWire.give_none.Goals as goal

pub returns-then-note-clause-calls : goal.returns-then-note-clause-calls
returns-then-note-clause-calls g c = search rules
