use Rattle.std.proofs.Common.{rules}
use Rattle.archive_memory.proofs.memory_keeper.MemoryKeeper.new.Goals as goal

pub returns-clause-fails : goal.returns-clause-fails
returns-clause-fails g c = search rules
