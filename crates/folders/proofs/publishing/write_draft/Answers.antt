use Rattle.folders.proofs.Steps.{stays_then}
use Rattle.folders.proofs.publishing.write_draft.Goals as goal

pub returns-in_default-write_file-clause-others : goal.returns-in_default-write_file-clause-others
returns-in_default-write_file-clause-others g c = λ modelled other ne. stays_then (c.remove.ensures.others modelled other ne) (c.write_file.ensures.others modelled other ne)

pub returns-clause-others : goal.returns-clause-others
returns-clause-others g c = λ modelled other ne.
    stays_then (stays_then (c.remove.ensures.others modelled other ne) (c.write_file.ensures.others modelled other ne)) (c.remove-2.ensures.others modelled other ne)
