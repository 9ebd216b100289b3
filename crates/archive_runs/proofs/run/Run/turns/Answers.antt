use Rattle.std.proofs.Common.{ap, sym, ◌∙◌}
use Rattle.archive_client.specs.Client.{Client, is_over}
use Rattle.archive_runs.proofs.Running.{some_none, some_more}
use Rattle.archive_runs.proofs.run.Run.turns.Goals as goal

pub loop-turn-init : goal.loop-turn-init
loop-turn-init g c = some_none _ _ _ _

pub loop-turn-preserved : goal.loop-turn-preserved
loop-turn-preserved g c =
    some_more _ _ _ _ _ _ c.loop-turn.invariant (ap (λ (x : Client). is_over x) (sym c.client.ensures) ∙ sym c.is_over.ensures ∙ c.if-is_over.false) c.turn.ensures
