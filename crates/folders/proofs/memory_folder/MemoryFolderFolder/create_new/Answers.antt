use Rattle.std.proofs.Common.{refl, sym, ◌∙◌}
use Rattle.folders.proofs.Changes.{unequal}
use Rattle.folders.proofs.memory_folder.MemoryFolderFolder.create_new.Goals as goal

pub returns-then-is_some-clause-others : goal.returns-then-is_some-clause-others
returns-then-is_some-clause-others c = λ modelled other ne. c.fail.ensures.stays other

pub returns-in_default-clause-others : goal.returns-in_default-clause-others
returns-in_default-clause-others c = λ modelled other ne. c.fail-in_default.ensures.stays other

pub returns-in_err-change-clause-others : goal.returns-in_err-change-clause-others
returns-in_err-change-clause-others c = λ modelled other ne. c.change.ensures.others refl other (unequal _ _ (λ is. ne (sym is ∙ c.in-Ok.ensures.ok)))
