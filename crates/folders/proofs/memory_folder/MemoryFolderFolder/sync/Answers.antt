use Rattle.std.proofs.Common.{refl, sym, ◌∙◌}
use Rattle.folders.proofs.Changes.{unequal}
use Rattle.folders.proofs.memory_folder.MemoryFolderFolder.sync.Goals as goal

pub returns-in-Ok-clause-others : goal.returns-in-Ok-clause-others
returns-in-Ok-clause-others c = λ modelled other ne. c.change.ensures.others refl other (unequal _ _ (λ is. ne (sym is ∙ c.in-Ok.ensures.ok)))

pub returns-in-Err-clause-others : goal.returns-in-Err-clause-others
returns-in-Err-clause-others c = λ modelled other ne. c.fail.ensures.stays other
