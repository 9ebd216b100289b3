use Rattle.std.proofs.Common.{refl, sym, ◌∙◌}
use Rattle.folders.proofs.Changes.{equal, unequal, removed_now}
use Rattle.folders.proofs.memory_folder.MemoryFolderFolder.remove.Goals as goal

pub returns-in-Ok-clause-now : goal.returns-in-Ok-clause-now
returns-in-Ok-clause-now c = λ modelled. removed_now c.change.result _ _ _ _ c.change.ensures.ok c.change.ensures.err (equal _ _ c.in-Ok.ensures.ok) refl

pub returns-in-Ok-clause-others : goal.returns-in-Ok-clause-others
returns-in-Ok-clause-others c = λ modelled other ne. c.change.ensures.others refl other (unequal _ _ (λ is. ne (sym is ∙ c.in-Ok.ensures.ok)))

pub returns-in-Err-clause-others : goal.returns-in-Err-clause-others
returns-in-Err-clause-others c = λ modelled other ne. c.fail.ensures.stays other
