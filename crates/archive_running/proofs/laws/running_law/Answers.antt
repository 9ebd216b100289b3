use Rattle.archive_running.proofs.Run_Moves.{run-mirrors, run-happens, run-merged, run-clients, run-headline, run-sent, run-fetched}
use Rattle.archive_running.proofs.Sample_Turns.{sends, fetches}
use Rattle.archive_running.proofs.Sample_Rounds.{serves-on}
use Rattle.archive_running.proofs.Sample_Unknown.{can-end}
use Rattle.archive_running.proofs.laws.running_law.Goals as goal

pub returns-clause-mirrors : goal.returns-clause-mirrors
returns-clause-mirrors c = run-mirrors

pub returns-clause-happens : goal.returns-clause-happens
returns-clause-happens c = run-happens

pub returns-clause-merged : goal.returns-clause-merged
returns-clause-merged c = run-merged

pub returns-clause-clients : goal.returns-clause-clients
returns-clause-clients c = run-clients

pub returns-clause-headline : goal.returns-clause-headline
returns-clause-headline c = run-headline

pub returns-clause-sent : goal.returns-clause-sent
returns-clause-sent c = run-sent

pub returns-clause-fetched : goal.returns-clause-fetched
returns-clause-fetched c = λ o r e own k len written now is writes. run-fetched o r e own k len written now is writes

pub returns-clause-sends : goal.returns-clause-sends
returns-clause-sends c = sends

pub returns-clause-fetches : goal.returns-clause-fetches
returns-clause-fetches c = fetches

pub returns-clause-restarts : goal.returns-clause-restarts
returns-clause-restarts c = serves-on

pub returns-clause-ends : goal.returns-clause-ends
returns-clause-ends c = can-end
