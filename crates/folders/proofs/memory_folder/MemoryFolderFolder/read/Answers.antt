use Rattle.folders.proofs.Steps.{stays_then}
use Rattle.folders.proofs.memory_folder.MemoryFolderFolder.read.Goals as goal

pub returns-in-Err-clause-all : goal.returns-in-Err-clause-all
returns-in-Err-clause-all g c = λ modelled other. stays_then (c.begin.ensures.stays other) (c.fail.ensures.stays other)
