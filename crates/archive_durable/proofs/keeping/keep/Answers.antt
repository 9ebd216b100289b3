use Rattle.archive_durable.proofs.Calls.{keep-does}
use Rattle.archive_durable.proofs.keeping.keep.Goals as goal

pub returns-clause-does : goal.returns-clause-does
returns-clause-does g c =
    λ modelled. keep-does g.F.Folder.model _ _ _ _ c.keep.result _ (c.keep.ensures.kept modelled) (c.keep.ensures.any_moment modelled)
    (c.keep.ensures.not_kept modelled) (c.keep.ensures.others modelled)
