use Rattle.folders.proofs.Steps.{stays_then}
use Rattle.folders.proofs.publishing.clear_draft.Goals as goal

pub returns-in_err-file-clause-others : goal.returns-in_err-file-clause-others
returns-in_err-file-clause-others g c = λ modelled other ne. stays_then (c.remove.ensures.others modelled other ne) (c.create_new.ensures.others modelled other ne)

pub returns-in_err-sync-clause-others : goal.returns-in_err-sync-clause-others
returns-in_err-sync-clause-others g c = λ modelled other ne.
    stays_then (stays_then (c.remove.ensures.others modelled other ne) (c.create_new.ensures.others modelled other ne)) (c.sync.ensures.others modelled other ne)

pub returns-clause-others : goal.returns-clause-others
returns-clause-others g c = λ modelled other ne.
    stays_then (stays_then (stays_then (c.remove.ensures.others modelled other ne) (c.create_new.ensures.others modelled other ne)) (c.sync.ensures.others modelled other ne))
    (c.remove-2.ensures.others modelled other ne)
