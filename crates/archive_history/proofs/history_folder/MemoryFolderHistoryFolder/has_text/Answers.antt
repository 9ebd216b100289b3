use Rattle.archive_history.proofs.history_folder.MemoryFolderHistoryFolder.has_text.Goals as goal

pub returns-in-Ok-true-clause-same : goal.returns-in-Ok-true-clause-same
returns-in-Ok-true-clause-same g c = λ modelled same. (c.contains.ensures.all modelled c.args.name.now).possible.now _ (c.has_text_in.ensures same)
