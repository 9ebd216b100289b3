use Rattle.std.proofs.Common.{rules}
use Rattle.archive_memory.proofs.memory_keeper.MemoryKeeperKeeper.keep.Goals as goal

pub returns-then-fails-clause-calls : goal.returns-then-fails-clause-calls
returns-then-fails-clause-calls g c = search rules
