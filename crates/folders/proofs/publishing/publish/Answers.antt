use Rattle.std.proofs.Common.{sym}
use Rattle.std.proofs.lemmas.Result.{on_ok_weaker}
use Rattle.folders.proofs.Steps.{stays_then, replaces_by, replaces_after}
use Rattle.folders.proofs.publishing.publish.Goals as goal

pub returns-in-Ok-clause-kept : goal.returns-in-Ok-clause-kept
returns-in-Ok-clause-kept g c = λ modelled.
    on_ok_weaker c.rename_draft.result (λ has. has (g.C.Contents.text c.args.contents.now) (c.in-Ok.ensures.written modelled)) (c.rename_draft.ensures.has modelled)

pub returns-in-Ok-clause-any_moment : goal.returns-in-Ok-clause-any_moment
returns-in-Ok-clause-any_moment g c = λ modelled.
    replaces_after (c.write_draft.ensures.others modelled c.args.name.now (λ is. c.requires (sym is)))
    (c.rename_draft.ensures.replaces modelled (g.C.Contents.text c.args.contents.now) (c.in-Ok.ensures.written modelled))

pub returns-in-Ok-clause-undone : goal.returns-in-Ok-clause-undone
returns-in-Ok-clause-undone g c = λ modelled undoes is other ne.
    stays_then (c.write_draft.ensures.others modelled other ne) (c.rename_draft.ensures.undone modelled undoes is other ne)

pub returns-in-Ok-clause-not_kept : goal.returns-in-Ok-clause-not_kept
returns-in-Ok-clause-not_kept g c = λ modelled failed is other ne.
    stays_then (c.write_draft.ensures.others modelled other ne) (c.rename_draft.ensures.not_kept modelled failed is other ne)

pub returns-in-Ok-clause-unsynced : goal.returns-in-Ok-clause-unsynced
returns-in-Ok-clause-unsynced g c = λ modelled is. c.rename_draft.ensures.unsynced modelled is (g.C.Contents.text c.args.contents.now) (c.in-Ok.ensures.written modelled)

pub returns-in-Ok-clause-others : goal.returns-in-Ok-clause-others
returns-in-Ok-clause-others g c = λ modelled other nd nn. stays_then (c.write_draft.ensures.others modelled other nd) (c.rename_draft.ensures.others modelled other nd nn)

pub returns-in-Err-clause-any_moment : goal.returns-in-Err-clause-any_moment
returns-in-Err-clause-any_moment g c = λ modelled. replaces_by (c.write_draft.ensures.others modelled c.args.name.now (λ is. c.requires (sym is)))

pub returns-in-Err-clause-not_kept : goal.returns-in-Err-clause-not_kept
returns-in-Err-clause-not_kept g c = λ modelled failed is other ne. c.write_draft.ensures.others modelled other ne

pub returns-in-Err-clause-others : goal.returns-in-Err-clause-others
returns-in-Err-clause-others g c = λ modelled other nd nn. c.write_draft.ensures.others modelled other nd
