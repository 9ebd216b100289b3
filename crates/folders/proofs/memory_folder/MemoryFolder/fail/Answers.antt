use Rattle.std.proofs.Common.{refl}
use Rattle.folders.proofs.Changes.{stays_as}
use Rattle.folders.proofs.memory_folder.MemoryFolder.fail.Goals as goal

pub returns-clause-stays : goal.returns-clause-stays
returns-clause-stays c = λ other. stays_as _ _ other refl
