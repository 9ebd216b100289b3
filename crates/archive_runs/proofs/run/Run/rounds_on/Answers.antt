use Rattle.std.proofs.Common.{ap, sym, ◌∙◌}
use Rattle.archive_client.specs.Client.{Client}
use Rattle.archive_runs.specs.Rounds.{has_ended}
use Rattle.archive_runs.proofs.Running.{some_none, some_more}
use Rattle.archive_runs.proofs.run.Run.rounds_on.Goals as goal

pub loop-round-init : goal.loop-round-init
loop-round-init g c = some_none _ _ _ _

pub loop-round-preserved : goal.loop-round-preserved
loop-round-preserved g c =
    some_more _ _ _ _ _ _ c.loop-round.invariant (ap (λ (x : Client). has_ended x) (sym c.client.ensures) ∙ sym c.has_ended.ensures ∙ c.if-has_ended.false) c.round.ensures
