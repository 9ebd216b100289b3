use Rattle.archive_model.specs.World.{first_world}
use Rattle.archive_theorem.proofs.Trace_Runs.{trace-makes, trace-clients, trace-headline}
use Rattle.archive_theorem.proofs.laws.trace_law.Goals as goal

pub returns-clause-run : goal.returns-clause-run
returns-clause-run c = λ o members may. trace-makes members (first_world o) may

pub returns-clause-clients : goal.returns-clause-clients
returns-clause-clients c = trace-clients

pub returns-clause-headline : goal.returns-clause-headline
returns-clause-headline c = trace-headline
