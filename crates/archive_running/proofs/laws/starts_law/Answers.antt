use Rattle.archive_running.proofs.Start_Chain.{starts-from, starts-with, follows-files, follows-promised, follows-fetches}
use Rattle.archive_running.proofs.Sample_Starts.{can-start}
use Rattle.archive_running.proofs.laws.starts_law.Goals as goal

pub returns-clause-begins : goal.returns-clause-begins
returns-clause-begins c = starts-from

pub returns-clause-begins_with : goal.returns-clause-begins_with
returns-clause-begins_with c = starts-with

pub returns-clause-files : goal.returns-clause-files
returns-clause-files c = λ o p r s follows. follows-files follows

pub returns-clause-promised : goal.returns-clause-promised
returns-clause-promised c = λ o p r s follows. follows-promised follows

pub returns-clause-fetched : goal.returns-clause-fetched
returns-clause-fetched c = λ o p r s follows. follows-fetches follows

pub returns-clause-starts : goal.returns-clause-starts
returns-clause-starts c = can-start
