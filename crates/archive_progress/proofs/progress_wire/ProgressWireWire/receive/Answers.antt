use Rattle.std.proofs.Common.{rules}
use Rattle.archive_progress.proofs.progress_wire.ProgressWireWire.receive.Goals as goal

pub returns-clause-calls : goal.returns-clause-calls
returns-clause-calls g c = search rules

pub returns-clause-tally : goal.returns-clause-tally
returns-clause-tally g c = search rules

pub returns-clause-terminal : goal.returns-clause-terminal
returns-clause-terminal g c = search rules
