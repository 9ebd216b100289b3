use Rattle.std.proofs.Common.{Ok}
use Rattle.archive_runs.proofs.runs.get_in_rounds.Goals as goal

pub returns-in-Ok : goal.returns-in-Ok
returns-in-Ok g c =
    record {
      begun = Ok c.in-Ok.run';
      mid = g.W.Wire.calls c.begin.new.wire;
      begins = c.in-Ok.ensures;
      ends = c.end_get_in_rounds.ensures;
    }
