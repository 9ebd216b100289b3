use Rattle.std.proofs.Common.{rules}
use Rattle.archive_memory.proofs.memory_wire.MemoryWireWire.open.Goals as goal

pub returns-in-Some-clause-calls : goal.returns-in-Some-clause-calls
returns-in-Some-clause-calls g c = search rules
