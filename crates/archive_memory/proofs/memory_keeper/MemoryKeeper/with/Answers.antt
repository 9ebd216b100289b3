use Rattle.std.proofs.Common.{rules}
use Rattle.archive_memory.proofs.memory_keeper.MemoryKeeper.with.Goals as goal

pub returns-clause-kept : goal.returns-clause-kept
returns-clause-kept g c = search rules
