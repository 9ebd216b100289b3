use Rattle.std.proofs.Common.{◌≡◌}
use Rattle.archive_serving.specs.Serve.{HasUsable}
use Rattle.archive_serving.proofs.Listening.{MakesSome}
use Rattle.archive_serving.proofs.service.Service.make_turns.Given as goal

-- so far these turns were made, up to the same limit
abbrev pub invariant-loop-turn : goal.invariant-loop-turn
invariant-loop-turn g l =
    MakesSome (HasUsable g.K.ServedKeeper.usable g.K.Keeper.calls) l.initial.self.limit l._turn l.initial.self.server l.self.server l.taken (g.N.Wire.calls l.initial.wire) (g.N.Wire.calls l.wire) (g.K.Keeper.calls l.initial.self.keeper) (g.K.Keeper.calls l.self.keeper) × (l.self.limit ≡ l.initial.self.limit)
