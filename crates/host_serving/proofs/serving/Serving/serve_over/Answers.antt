use Rattle.std.proofs.Common.{ap}
use Rattle.archive_keepers.specs.Limited.{own_calls}
use Rattle.archive_serving.proofs.Listening.{served_by}
use Rattle.host_serving.proofs.serving.Serving.serve_over.Goals as goal

pub returns-clause-served : goal.returns-clause-served
returns-clause-served g c =
    let last = c.run.new.self.keeper.keeper in (
      last.keeper,
      last.entries,
      served_by c.args.server c.new.result.server _ _ _ _ _ _ _ _ _ _ _ _ c.new.ensures.server c.requires.port
          (ap (λ k. own_calls (g.K.Keeper.calls k.keeper.keeper) k.keeper.entries) c.new.ensures.keeper) (c.run.ensures.served c.args.self.now.arguments.now.turns c.new.ensures.limit),
    )
