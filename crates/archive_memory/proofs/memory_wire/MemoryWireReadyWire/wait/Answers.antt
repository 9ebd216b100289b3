use Rattle.std.proofs.Common.{rules}
use Rattle.archive_memory.proofs.memory_wire.MemoryWireReadyWire.wait.Goals as goal

pub returns-clause-calls : goal.returns-clause-calls
returns-clause-calls g c = search rules

pub returns-clause-ready : goal.returns-clause-ready
returns-clause-ready g c = search rules

pub returns-clause-time : goal.returns-clause-time
returns-clause-time g c = search rules

pub returns-clause-settled : goal.returns-clause-settled
returns-clause-settled g c = search rules
