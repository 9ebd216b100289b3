use Rattle.std.proofs.Common.{rules}
use Rattle.archive_memory.proofs.memory_wire.MemoryWire.log.Goals as goal

pub returns : goal.returns
returns g c = search rules
