use Rattle.std.proofs.Common.{◌≡◌, ◌∷◌, OnOk, subst}
use Rattle.folders.specs.declared.memory_folder.FolderChange.{FolderChange}
use Rattle.folders.specs.Memory.{newest}
use Rattle.folders.proofs.Steps.{stays_then}
use Rattle.folders.proofs.Changes.{stays_other, stays_synced, stays_failed}
use Rattle.folders.proofs.memory_folder.MemoryFolder.change.Goals as goal

pub returns-in_err-begin-clause-others : goal.returns-in_err-begin-clause-others
returns-in_err-begin-clause-others c = λ unsynced other apart. c.begin.ensures.stays other

pub returns-clause-err : goal.returns-clause-err
returns-clause-err c = stays_failed c.add.result _ _ _ c.begin.ensures.stays c.add.ensures.err

pub returns-clause-others : goal.returns-clause-others
returns-clause-others c = λ unsynced other apart.
    stays_then (c.begin.ensures.stays other) (stays_other c.add.result c.begin.new.self c.add.new.self c.args.change other c.add.ensures.ok c.add.ensures.err unsynced apart)

pub returns-clause-synced : goal.returns-clause-synced
returns-clause-synced c = λ is other.
    stays_then (c.begin.ensures.stays other) (stays_synced c.add.result c.begin.new.self c.add.new.self other
    (subst (λ (d : FolderChange). OnOk c.add.result (newest c.add.new.self ≡ d ∷ newest c.begin.new.self)) is c.add.ensures.ok) c.add.ensures.err)
