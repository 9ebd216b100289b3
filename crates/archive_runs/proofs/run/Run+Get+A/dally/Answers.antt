use Rattle.std.proofs.Common.{subst}
use Rattle.archive_runs.specs.declared.pace.Pace.{Pace}
use Rattle.archive_runs.specs.Rounds.{DalliesFor}
use Rattle.archive_runs.proofs.run.Run+Get+A.dally.Goals as goal

pub returns : goal.returns
returns g c =
    let started = c.set_timer-time.new.self in
    let mid = g.W.Wire.calls c.set_timer-time.new.wire in
    let after = g.W.Wire.calls c.dally_on.new.wire in
    record {
      time = c.set_timer-time.result;
      started = started;
      mid = mid;
      starts = c.set_timer-time.ensures;
      made = subst (λ (pace : Pace). DalliesFor pace c.args.rounds started c.dally_on.new.self mid after) c.dallying.ensures c.dally_on.ensures;
    }
