use Rattle.std.proofs.Common.{refl}
use Rattle.folders.proofs.memory_folder.MemoryFolderFolder.sync_folder.Goals as goal

pub returns-clause-all : goal.returns-clause-all
returns-clause-all c = λ modelled other. c.change.ensures.synced refl other
