use Rattle.std.proofs.Common.{sym, ap, Ok, Err, Result}
use Rattle.folders.proofs.Steps.{stays_then, replaces_then, is_moved, stays_written, has_only}
use Rattle.folders.proofs.publishing.rename_draft.Goals as goal

abbrev fault_or : {T E : Type 0} → E → Result T E → E
fault_or other (Ok done) = other
fault_or other (Err fault) = fault

pub returns-in-Err-clause-not_kept : goal.returns-in-Err-clause-not_kept
returns-in-Err-clause-not_kept g c = λ modelled failed is other ne.
    stays_then (c.in-Err.ensures.gone modelled (ap Err (c.not_renamed.ensures.kept_out failed (ap (fault_or (c.not_renamed.result)) is))) other ne) (c.remove.ensures.others modelled other ne)

pub returns-in-Err-clause-replaces : goal.returns-in-Err-clause-replaces
returns-in-Err-clause-replaces g c = λ modelled text written.
    replaces_then (c.rename.ensures.replaces modelled text written) (c.remove.ensures.others modelled c.args.name.now (λ is. c.requires (sym is)))

pub returns-in-Err-clause-undone : goal.returns-in-Err-clause-undone
returns-in-Err-clause-undone g c = λ modelled undoes is other ne. stays_then (c.in-Err.ensures.failed modelled undoes other ne) (c.remove.ensures.others modelled other ne)

pub returns-in-Err-clause-others : goal.returns-in-Err-clause-others
returns-in-Err-clause-others g c = λ modelled other nd nn. stays_then (c.rename.ensures.others modelled other nd nn) (c.remove.ensures.others modelled other nd)

pub returns-in-Ok-sync_folder-clause-has : goal.returns-in-Ok-sync_folder-clause-has
returns-in-Ok-sync_folder-clause-has g c = λ modelled text written.
    has_only (is_moved (c.in-Ok.ensures.moved modelled) (c.in-Ok.ensures.held modelled) written) (c.sync_folder.ensures.all modelled c.args.name.now) (c.in-Ok-sync_folder.ensures.settled modelled)

pub returns-in-Ok-sync_folder-clause-replaces : goal.returns-in-Ok-sync_folder-clause-replaces
returns-in-Ok-sync_folder-clause-replaces g c = λ modelled text written. replaces_then (c.rename.ensures.replaces modelled text written) (c.sync_folder.ensures.all modelled c.args.name.now)

pub returns-in-Ok-sync_folder-clause-others : goal.returns-in-Ok-sync_folder-clause-others
returns-in-Ok-sync_folder-clause-others g c = λ modelled other nd nn. stays_then (c.rename.ensures.others modelled other nd nn) (c.sync_folder.ensures.all modelled other)

pub returns-in-Err-sync_folder-clause-unsynced : goal.returns-in-Err-sync_folder-clause-unsynced
returns-in-Err-sync_folder-clause-unsynced g c = λ modelled is text written.
    stays_written (c.sync_folder.ensures.all modelled c.args.name.now) (is_moved (c.in-Ok.ensures.moved modelled) (c.in-Ok.ensures.held modelled) written)

pub returns-in-Err-sync_folder-clause-replaces : goal.returns-in-Err-sync_folder-clause-replaces
returns-in-Err-sync_folder-clause-replaces g c = λ modelled text written. replaces_then (c.rename.ensures.replaces modelled text written) (c.sync_folder.ensures.all modelled c.args.name.now)

pub returns-in-Err-sync_folder-clause-others : goal.returns-in-Err-sync_folder-clause-others
returns-in-Err-sync_folder-clause-others g c = λ modelled other nd nn. stays_then (c.rename.ensures.others modelled other nd nn) (c.sync_folder.ensures.all modelled other)
