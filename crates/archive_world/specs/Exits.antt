-- What the functions inside a replay guarantee, by their results.
use Rattle.std.specs.Prelude.{◌≡◌, ◌≢◌, ◌⊎◌, ℕ, true, List, Contains, Option, Some, Result, Ok, Err}
use Rattle.archive_table.specs.Table.{all}
use Rattle.archive_table.specs.Keeper.{Keeping}
use Rattle.archive_world.specs.declared.event_fault.EventFault.{EventFault}
use Rattle.archive_world.specs.declared.event_fault.EventFault.TheVariants.{Bad, Reused, NotKept, NotLoaded, Memory}
use Rattle.archive_world.specs.declared.world_fault.WorldFault.{WorldFault}
use Rattle.archive_world.specs.declared.world_fault.WorldFault.TheVariants as world
use Rattle.archive_model.specs.World.{Event, begin, deliver, client_times_out, server_times_out, stray, restart, unknown_keep, World, Origin, first_world, MayHappen}
use Rattle.archive_theorem.specs.Headline.{HasOwnPorts}
use Rattle.archive_model.specs.Restarts.{LoadsAs}
use Rattle.archive_theorem.proofs.Claim_Invariant.{AreBest}
use Rattle.archive_world.specs.Outcomes.{Outcome}
use Rattle.archive_world.specs.Replays.{FromLoad, HasHappened, IsDue, Makes, Reuses, starts_again, HasRunFrom, FailsBy}

-- the world at which a replay begins with what its keeper loads
abbrev pub BeginsAt : (reported : Option (List Keeping)) → World → Type 0
BeginsAt reported w = FromLoad reported (λ o. w ≡ first_world o)

-- if the server starts again, what the keeper has is loaded as these collections
abbrev pub LoadsAgain : Origin → (reported : Option (List Keeping)) → List Event → Type 0
LoadsAgain o reported events = (e : Event) → Contains events e → starts_again e ≡ true →
    (log : List Keeping) × (reported ≡ Some log) × LoadsAs log o.maps

-- the keeper has a log, and what it has is loaded as what the server has
pub record KeeperHas (reported : Option (List Keeping)) (w : World) : Type 0 where
  pub log : List Keeping
  pub reports : reported ≡ Some log
  pub loads : LoadsAs log w.server.maps
  pub best : AreBest w.taken w.server.maps

-- what an event does; if the server starts again, for a keeper that has what the server has
abbrev pub MakesKept : Event → (reported now : Option (List Keeping)) → (w v : World) → Type 0
MakesKept e reported now w v = (starts_again e ≡ true → KeeperHas reported w) → Makes e reported now w v

-- the server is where it was
abbrev pub StaysThere : (w v : World) → Type 0
StaysThere w v = (v.home ≡ w.home) × (v.server.request ≡ w.server.request)

-- the server cannot load: a keep was made before that
abbrev pub LoadsNone : Event → (reported now : Option (List Keeping)) → World → Type 0
LoadsNone (begin e operation) reported now w = ⊥
LoadsNone (deliver index spare) reported now w = ⊥
LoadsNone (client_times_out e) reported now w = ⊥
LoadsNone (server_times_out port) reported now w = ⊥
LoadsNone (stray d) reported now w = ⊥
LoadsNone restart reported now w = now ≡ reported
LoadsNone (unknown_keep index found) reported now w = (u : World) × MakesKept (unknown_keep index found) reported now w u

-- By the result of a call for an event. If it runs out of memory, the event was not begun, or the server made its step. A
-- restart never runs out of memory by itself: the load fails.
abbrev pub Comes : Result (Unit {0}) EventFault → Event → (reported now : Option (List Keeping)) → (w v : World) → Type 0
Comes (Ok done) e reported now w v = StaysThere w v × MakesKept e reported now w v
Comes (Err Bad) e reported now w v = (now ≡ reported) × (MayHappen e w → IsDue e all w → ⊥)
Comes (Err Reused) e reported now w v = (now ≡ reported) × (HasOwnPorts w → Reuses e w)
Comes (Err NotKept) e reported now w v =
    (index : ℕ) × (e ≡ unknown_keep index true) × ((u : World) × Makes (deliver index 0) reported now w u)
Comes (Err NotLoaded) e reported now w v = LoadsNone e reported now w
Comes (Err Memory) e reported now w v = (e ≢ restart) × ((now ≡ reported) ⊎ ((u : World) × MakesKept e reported now w u))

-- the fault of the event at a place
abbrev pub world_fault_of : EventFault → (index : ℕ) → WorldFault
world_fault_of Bad index = world.BadEvent index
world_fault_of Reused index = world.PortReused index
world_fault_of NotKept index = world.NotKept index
world_fault_of NotLoaded index = world.NotLoaded index
world_fault_of Memory index = world.Memory

-- by the result of a call for a list of events
abbrev pub HappenedOr : Origin → Result (Unit {0}) WorldFault → List Event → (reported now : Option (List Keeping)) → (v : World) → Type 0
HappenedOr o (Ok done) events reported now v = HasHappened o events reported now v
HappenedOr o (Err fault) events reported now v = FailsBy o fault events reported now

-- and by that of a whole replay
abbrev pub ReplayEnds : Origin → Result Outcome WorldFault → List Event → (reported now : Option (List Keeping)) → Type 0
ReplayEnds o (Ok outcome) events reported now = HasRunFrom o events reported now outcome
ReplayEnds o (Err fault) events reported now = FailsBy o fault events reported now

-- so much is said of each run that begins at this world, if the keeper's log is loaded as what the server has there
abbrev pub FromWorld : (first : World) → (reported : Option (List Keeping)) → List Event → (Origin → Type 0) → Type 0
FromWorld first reported events Holds = (o : Origin) → first ≡ first_world o → LoadsAgain o reported events → Holds o
