use Rattle.archive_commands.proofs.Taking.{fails_most, fails_up, fails_whole}
use Rattle.archive_commands.proofs.put.read_whole.Goals as goal

pub returns-in-Err-clause-unreadable : goal.returns-in-Err-clause-unreadable
returns-in-Err-clause-unreadable g c = fails_up _ _ _ c.read_to_end.new.sink (λ s bytes taken. (taken.short, taken.sound)) c.in-Err.fault c.in-Err.ensures

pub returns-in-Err-clause-fault : goal.returns-in-Err-clause-fault
returns-in-Err-clause-fault g c = fails_whole _ _ _ c.read_to_end.new.sink (λ s bytes taken. (taken.short, taken.sound)) c.in-Err.fault c.in-Err.ensures

pub returns-in-Err-clause-most : goal.returns-in-Err-clause-most
returns-in-Err-clause-most g c = fails_most _ _ _ c.read_to_end.new.sink (λ s bytes taken. (taken.short, taken.sound)) c.in-Err.fault c.in-Err.ensures
