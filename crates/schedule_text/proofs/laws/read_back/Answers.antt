use Rattle.schedule_text.proofs.Readback.{event_read_back, schedule_read_back}
use Rattle.schedule_text.proofs.laws.read_back.Goals as goal

pub returns-clause-event : goal.returns-clause-event
returns-clause-event c = event_read_back

pub returns-clause-schedule : goal.returns-clause-schedule
returns-clause-schedule c = schedule_read_back
