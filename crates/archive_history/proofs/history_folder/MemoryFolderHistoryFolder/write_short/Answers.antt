use Rattle.std.proofs.Common.{◌≡◌, [], List, ℕ, Some, ap, ◌++◌, ◌∙◌, subst}
use Rattle.std.proofs.lemmas.Result.{on_ok_weaker}
use Rattle.folders.specs.Folder.{Only}
use Rattle.folders.specs.Memory.{memory_model}
use Rattle.folders.proofs.Steps.{stays_then}
use Rattle.archive_history.proofs.history_folder.MemoryFolderHistoryFolder.write_short.Goals as goal

pub returns-in_err-file-clause-others : goal.returns-in_err-file-clause-others
returns-in_err-file-clause-others c = λ modelled other ne. stays_then (c.remove.ensures.others modelled other ne) (c.create_new.ensures.others modelled other ne)

pub returns-in-Err-clause-others : goal.returns-in-Err-clause-others
returns-in-Err-clause-others c = λ modelled other ne.
    stays_then (c.remove.ensures.others modelled other ne) (stays_then (c.create_new.ensures.others modelled other ne) (c.abandon.ensures.all modelled other))

pub returns-in-Ok-clause-written : goal.returns-in-Ok-clause-written
returns-in-Ok-clause-written c = λ modelled.
    let empty = c.in_ok-file.ensures.empty modelled in
    let none : c.in_ok-file.file.items ≡ [] = cc in
    on_ok_weaker c.sync.result (λ w. subst (λ (t : List ℕ). Only (Some t) (memory_model.reads c.sync.new.self c.args.name.now)) (c.in-Ok.ensures.ok ∙ ap (λ (xs : List ℕ). xs ++ c.as_bytes.result.now) none ∙ c.as_bytes.ensures.value) w.now) (c.sync.ensures.written modelled)

pub returns-in-Ok-clause-others : goal.returns-in-Ok-clause-others
returns-in-Ok-clause-others c = λ modelled other ne.
    stays_then (c.remove.ensures.others modelled other ne) (stays_then (c.create_new.ensures.others modelled other ne) (c.sync.ensures.others modelled other ne))
