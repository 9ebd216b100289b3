use Rattle.std.proofs.Common.{rules}
use Rattle.archive_memory.proofs.memory_wire.MemoryWireWire.send.Goals as goal

pub returns-clause-calls : goal.returns-clause-calls
returns-clause-calls g c = search rules
