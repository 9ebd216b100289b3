use Rattle.std.proofs.Common.{◌∙◌, ℕ, Ok, subst}
use Rattle.archive_runs.specs.Run.{EndsPut}
use Rattle.archive_runs.specs.Rounds.{MakesRunRounds}
use Rattle.archive_runs.proofs.runs.put_in_rounds.Goals as goal

pub returns-in-Ok : goal.returns-in-Ok
returns-in-Ok g c =
    let run = c.in-Ok.run' in
    let mid = g.W.Wire.calls c.begin.new.wire in
    let after = g.W.Wire.calls c.end_put_in_rounds.new.wire in
    record {
      begun = Ok run;
      mid = mid;
      begins = c.in-Ok.ensures;
      ends = subst (λ (len : ℕ). EndsPut (MakesRunRounds c.args.rounds) run len c.end_put_in_rounds.result mid after) (c.len-len.ensures ∙ c.args.file.ok.0) c.end_put_in_rounds.ensures;
    }
