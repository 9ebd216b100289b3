use Rattle.folders.proofs.Steps.{stays_then}
use Rattle.folders.proofs.publishing.write_file.Goals as goal

pub returns-then-is_err-clause-others : goal.returns-then-is_err-clause-others
returns-then-is_err-clause-others g c = λ modelled other ne. stays_then (c.create_new.ensures.others modelled other ne) (c.abandon.ensures.all modelled other)

pub returns-in-Ok-sync-clause-others : goal.returns-in-Ok-sync-clause-others
returns-in-Ok-sync-clause-others g c = λ modelled other ne. stays_then (c.create_new.ensures.others modelled other ne) (c.sync.ensures.others modelled other ne)

pub returns-in-Err-sync-clause-others : goal.returns-in-Err-sync-clause-others
returns-in-Err-sync-clause-others g c = λ modelled other ne. stays_then (c.create_new.ensures.others modelled other ne) (c.sync.ensures.others modelled other ne)
