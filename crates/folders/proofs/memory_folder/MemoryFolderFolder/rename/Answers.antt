use Rattle.std.proofs.Common.{refl, sym, ◌∙◌}
use Rattle.folders.proofs.Steps.{replaces_by}
use Rattle.folders.proofs.Changes.{second_is, neither_is, equal, unequal, renamed_text, replaces_renamed}
use Rattle.folders.proofs.memory_folder.MemoryFolderFolder.rename.Goals as goal

pub returns-in-Err-clause-replaces : goal.returns-in-Err-clause-replaces
returns-in-Err-clause-replaces c = λ modelled text written. replaces_by (c.fail-fault.ensures.stays c.args.to.now)

pub returns-in-Err-clause-failed : goal.returns-in-Err-clause-failed
returns-in-Err-clause-failed c = λ modelled undoes other ne. c.fail-fault.ensures.stays other

pub returns-in-Err-clause-others : goal.returns-in-Err-clause-others
returns-in-Err-clause-others c = λ modelled other nf nt. c.fail-fault.ensures.stays other

pub returns-in-Err-clause-gone : goal.returns-in-Err-clause-gone
returns-in-Err-clause-gone c = λ modelled is other ne. c.fail-fault.ensures.stays other

pub returns-in_default-clause-replaces : goal.returns-in_default-clause-replaces
returns-in_default-clause-replaces c = λ modelled text written. replaces_by (c.fail-fault-in_default.ensures.stays c.args.to.now)

pub returns-in_default-clause-failed : goal.returns-in_default-clause-failed
returns-in_default-clause-failed c = λ modelled undoes other ne. c.fail-fault-in_default.ensures.stays other

pub returns-in_default-clause-others : goal.returns-in_default-clause-others
returns-in_default-clause-others c = λ modelled other nf nt. c.fail-fault-in_default.ensures.stays other

pub returns-in_default-from_str-clause-replaces : goal.returns-in_default-from_str-clause-replaces
returns-in_default-from_str-clause-replaces c = λ modelled text written. replaces_by (c.fail-fault-in_default-from_str.ensures.stays c.args.to.now)

pub returns-in_default-from_str-clause-failed : goal.returns-in_default-from_str-clause-failed
returns-in_default-from_str-clause-failed c = λ modelled undoes other ne. c.fail-fault-in_default-from_str.ensures.stays other

pub returns-in_default-from_str-clause-others : goal.returns-in_default-from_str-clause-others
returns-in_default-from_str-clause-others c = λ modelled other nf nt. c.fail-fault-in_default-from_str.ensures.stays other

pub returns-in-Ok-change-clause-replaces : goal.returns-in-Ok-change-clause-replaces
returns-in-Ok-change-clause-replaces c = λ modelled text written.
    let is = equal _ _ c.in-Ok-from_str-2.ensures.ok in
    replaces_renamed c.change.result _ _ _ c.args.from.now _ text c.change.ensures.ok c.change.ensures.err refl (second_is _ _ is) (renamed_text _ _ _ is c.in-Ok.ensures) written

pub returns-in-Ok-change-clause-others : goal.returns-in-Ok-change-clause-others
returns-in-Ok-change-clause-others c = λ modelled other nf nt.
    c.change.ensures.others refl other
    (neither_is _ _ (unequal _ _ (λ is. nf (sym is ∙ c.in-Ok-from_str.ensures.ok))) (unequal _ _ (λ is. nt (sym is ∙ c.in-Ok-from_str-2.ensures.ok))))

pub returns-in-Err-change-clause-replaces : goal.returns-in-Err-change-clause-replaces
returns-in-Err-change-clause-replaces c = λ modelled text written. replaces_by (c.in-Err-change.ensures.err c.args.to.now)

pub returns-in-Err-change-clause-failed : goal.returns-in-Err-change-clause-failed
returns-in-Err-change-clause-failed c = λ modelled undoes other ne. c.in-Err-change.ensures.err other

pub returns-in-Err-change-clause-others : goal.returns-in-Err-change-clause-others
returns-in-Err-change-clause-others c = λ modelled other nf nt. c.in-Err-change.ensures.err other
