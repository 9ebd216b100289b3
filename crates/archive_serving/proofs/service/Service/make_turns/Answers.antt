use Rattle.std.proofs.Common.{refl, arith, sym, ◌∙◌}
use Rattle.archive_serving.specs.Serve.{HasUsable}
use Rattle.archive_serving.proofs.Listening.{some_more, some_none, turns_ended, turns_made, turns_unmade}
use Rattle.archive_serving.proofs.service.Service.make_turns.Goals as goal

pub returns-then-not-is_usable : goal.returns-then-not-is_usable
returns-then-not-is_usable g c =
    turns_unmade (HasUsable g.K.ServedKeeper.usable g.K.Keeper.calls) _ _ _ _ _ (sym c.is_usable.ensures ∙ c.if-not-is_usable.true)

pub loop-turn-init : goal.loop-turn-init
loop-turn-init g c =
    (some_none (HasUsable g.K.ServedKeeper.usable g.K.Keeper.calls) _ _ _ _ (c.args.self.now.keeper, sym c.is_usable.ensures ∙ c.if-not-is_usable.false, refl), refl)

pub returns-then-not-is_usable-2 : goal.returns-then-not-is_usable-2
returns-then-not-is_usable-2 g c =
    turns_ended (HasUsable g.K.ServedKeeper.usable g.K.Keeper.calls) _ _ _ _ _ _ _ _ _ c.count-turn-end.ensures c.loop-turn-test.true c.loop-turn.invariant.0
    (rw (← c.loop-turn.invariant.1) c.make_turn-taken.ensures.turn)
    (sym c.is_usable-in-loop-turn.ensures ∙ c.if-not-is_usable-2.true)

pub loop-turn-preserved : goal.loop-turn-preserved
loop-turn-preserved g c = (
  some_more (HasUsable g.K.ServedKeeper.usable g.K.Keeper.calls) _ _ _ _ _ _ _ c.loop-turn.invariant.0
      (rw (← c.loop-turn.invariant.1) c.make_turn-taken.ensures.turn) c.make_turn-taken.ensures.few
      (c.make_turn-taken.new.self.keeper, sym c.is_usable-in-loop-turn.ensures ∙ c.if-not-is_usable-2.false, refl),
  c.make_turn-taken.ensures.limit ∙ c.loop-turn.invariant.1,
)

pub returns : goal.returns
returns g c =
    turns_made (HasUsable g.K.ServedKeeper.usable g.K.Keeper.calls) c.args.self.now.limit _ _ _ _ _ _ _ _ _
    (omega (arith, c.count-turn-end.ensures, c.loop-turn-test.false, c.loop-turn.auto._turn-end)) c.loop-turn.invariant.0
