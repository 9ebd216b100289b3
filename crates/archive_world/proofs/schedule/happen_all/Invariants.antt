use Rattle.std.proofs.Common.{◌≡◌, ◌≤◌, ◌-◌, length, take}
use Rattle.archive_model.specs.World.{server_endpoint}
use Rattle.archive_world.specs.View.{events_of}
use Rattle.archive_world.specs.Replays.{HasHappened}
use Rattle.archive_world.specs.Exits.{FromWorld}
use Rattle.archive_world.proofs.schedule.happen_all.Given as goal

-- the events before this one have happened
abbrev pub invariant-loop-i : goal.invariant-loop-i
invariant-loop-i g l = record {
  within : l.i ≤ length l.events;
  home : l.machine.home ≡ server_endpoint;
  request : l.machine.server.request ≡ server_endpoint.port;
  so_far : FromWorld l.initial.machine (g.K.Keeper.calls l.initial.keeper) (events_of l.events)
      (λ o. HasHappened o (events_of (take l.i l.events)) (g.K.Keeper.calls l.initial.keeper) (g.K.Keeper.calls l.keeper) l.machine);
}

abbrev pub decreases-loop-i : goal.decreases-loop-i
decreases-loop-i g l = length l.events - l.i
