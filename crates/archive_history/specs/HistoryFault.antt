-- The words of a fault of the history.
use Rattle.std.specs.Prelude.{ℕ, List, codes}
use Rattle.archive_history.specs.declared.history_fault.HistoryFault.{HistoryFault}
use Rattle.archive_history.specs.declared.history_fault.HistoryFault.TheVariants.{Day, NoFreeName, LookUp, Create, Write, Sync, Rename, SyncFolder, Memory}

abbrev pub history_fault_text : HistoryFault → List ℕ
history_fault_text Day = codes "no folder for the day"
history_fault_text NoFreeName = codes "no free name"
history_fault_text LookUp = codes "not looked up"
history_fault_text Create = codes "not created"
history_fault_text Write = codes "not written"
history_fault_text Sync = codes "not synced"
history_fault_text Rename = codes "not renamed"
history_fault_text SyncFolder = codes "folder not synced"
history_fault_text Memory = codes "out of memory"
