-- What a replay of events guarantees: that all of them have happened, or which one is the first at fault, and why.
use Rattle.std.specs.Prelude.{◌≡◌, ◌≢◌, ℕ, ◌+◌, ◌≤◌, Bool, true, false, List, [], ◌∷◌, ◌++◌, map, take, length, slice_get, Contains, Option, Some}
use Rattle.tftp_packet.specs.declared.endpoint.Endpoint.{Endpoint}
use Rattle.tws_file.specs.declared.«ruleset».Ruleset.TheVariants.{Lynx, Ms}
use Rattle.archive_table.specs.Table.{Grant, all, unkept, Maps, Taken, IsMerged}
use Rattle.archive_table.specs.Keeper.{Keeping, Loads, IsLoaded, KeepsMaps}
use Rattle.archive_model.specs.World.{Event, begin, deliver, client_times_out, server_times_out, stray, restart, unknown_keep, WorldStep, World, Origin, empty_origin, server_endpoint, first_world, event_happens, happens, run_from, wanted_by, HasMerged, AllMerged, MayHappen, AllMayHappen}
use Rattle.archive_theorem.specs.Headline.{HasOwnPorts, HasOperation, Headline, ClientHeadline, ClientsHeadline}
use Rattle.archive_model.specs.Restarts.{EventKeeps, text_list}
use Rattle.archive_world.specs.declared.world_fault.WorldFault.{WorldFault}
use Rattle.archive_world.specs.declared.world_fault.WorldFault.TheVariants as world
use Rattle.archive_world.specs.Outcomes.{Outcome, outcome_of}

-- Of the lists that a start loads as the same collections, the keeper has this one: a restart does not change its list, and a
-- keep whose outcome is unknown adds only the collection that the next start finds.
abbrev pub AddsOnly : Event → (w v : World) → (before after : List Keeping) → Type 0
AddsOnly (begin e operation) w v before after = Unit {0}
AddsOnly (deliver index spare) w v before after = Unit {0}
AddsOnly (client_times_out e) w v before after = Unit {0}
AddsOnly (server_times_out port) w v before after = Unit {0}
AddsOnly (stray d) w v before after = Unit {0}
AddsOnly restart w v before after = after ≡ before
AddsOnly (unknown_keep index found) w v before after = KeepsMaps w.server.maps v.server.maps (Some before) (Some after)

-- what the keeper has after an event
abbrev pub KeepsOnly : Event → Grant → (w v : World) → (before after : List Keeping) → Type 0
KeepsOnly e grant w v before after = EventKeeps e grant w v before after × AddsOnly e w v before after

-- what the keeper has after these steps, if it has `before` at first
abbrev pub HaveKept : List WorldStep → World → (before last : List Keeping) → Type 0
HaveKept [] w before last = last ≡ before
HaveKept (s ∷ steps) w before last =
    (after : List Keeping) × KeepsOnly s.event s.grant w (happens s w) before after × HaveKept steps (happens s w) after last

-- the file would change a collection
abbrev pub Changes : Taken → Maps → Type 0
Changes t old = (maps : Maps) × IsMerged t.file old maps × (maps ≢ old)

-- what a datagram completes, if anything, would change a collection
abbrev pub WouldChange : (index : ℕ) → World → Type 0
WouldChange index w = (t : Taken) → wanted_by (slice_get w.net index) w ≡ Some t → Changes t w.server.maps

-- A keep is refused, or its outcome unknown, only if the file would have changed a collection.
abbrev pub IsDue : Event → Grant → World → Type 0
IsDue (begin e operation) grant w = Unit {0}
IsDue (deliver index spare) grant w = grant ≡ unkept → WouldChange index w
IsDue (client_times_out e) grant w = Unit {0}
IsDue (server_times_out port) grant w = Unit {0}
IsDue (stray d) grant w = Unit {0}
IsDue restart grant w = Unit {0}
IsDue (unknown_keep index found) grant w = WouldChange index w

abbrev pub AllDue : List WorldStep → World → Type 0
AllDue [] w = Unit {0}
AllDue (s ∷ steps) w = IsDue s.event s.grant w × AllDue steps (happens s w)

-- nothing was sent, and the server has nothing
abbrev pub nothing : Origin
nothing = empty_origin server_endpoint

-- The server has the collections that are loaded from its keeper's texts, which are the first files taken. If the keeper has a
-- log, they are those that it kept last.
pub record BeginsFrom (reported : Option (List Keeping)) (o : Origin) : Type 0 where
  pub lynx : Option (List ℕ)
  pub ms : Option (List ℕ)
  pub has_lynx : Loads Lynx reported lynx
  pub has_ms : Loads Ms reported ms
  pub home : o.home ≡ server_endpoint
  pub texts : o.texts ≡ text_list lynx ++ text_list ms
  pub lynx_is : IsLoaded Lynx lynx o.maps.lynx
  pub ms_is : IsLoaded Ms ms o.maps.ms

-- From these collections, these events have led to this world. Each was allowed to happen, and no port is reused. A keeper
-- that had a log still has it, and in it what the steps have kept.
pub record HasHappened (o : Origin) (events : List Event) (reported now : Option (List Keeping)) (w : World) : Type 0 where
  pub steps : List WorldStep
  pub events_are : map (λ (s : WorldStep). s.event) steps ≡ events
  pub is : w ≡ run_from steps (first_world o)
  pub may : AllMayHappen steps (first_world o)
  pub own : HasOwnPorts w
  pub merged : AllMerged steps (first_world o)
  pub due : AllDue steps (first_world o)
  pub keeps : (before : List Keeping) → reported ≡ Some before →
      (log : List Keeping) × (now ≡ Some log) × HaveKept steps (first_world o) before log

-- what one event does to a world and to a keeper's list, if it may happen and reuses no port
pub record Makes (e : Event) (reported now : Option (List Keeping)) (w v : World) : Type 0 where
  pub grant : Grant
  pub maps : Maps
  pub is : v ≡ event_happens e grant maps w
  pub may : MayHappen e w
  pub own : HasOwnPorts w → HasOwnPorts v
  pub merged : HasMerged (record { event = e; grant = grant; maps = maps }) w
  pub due : IsDue e grant w
  pub keeps : (before : List Keeping) → reported ≡ Some before → (after : List Keeping) × (now ≡ Some after) × KeepsOnly e grant w v before after

-- ---- the end of a replay

-- the server starts again at this event
abbrev pub starts_again : Event → Bool
starts_again (begin e operation) = false
starts_again (deliver index spare) = false
starts_again (client_times_out e) = false
starts_again (server_times_out port) = false
starts_again (stray d) = false
starts_again restart = true
starts_again (unknown_keep index found) = true

-- If the server starts again, the keeper has a log, which is empty at first. Otherwise any keeper will do.
abbrev pub IsReady : (reported : Option (List Keeping)) → List Event → Type 0
IsReady reported events = (e : Event) → Contains events e → starts_again e ≡ true → reported ≡ Some []

-- If the server starts again, the keeper has a log.
abbrev pub HasLog : (reported : Option (List Keeping)) → List Event → Type 0
HasLog reported events = (e : Event) → Contains events e → starts_again e ≡ true → (log : List Keeping) × (reported ≡ Some log)

-- All events have happened, the outcome is that of the world after them, and the headline holds for it.
pub record HasRun (events : List Event) (reported now : Option (List Keeping)) (outcome : Outcome) : Type 0 where
  pub world : World
  pub happened : HasHappened nothing events reported now world
  pub is : outcome ≡ outcome_of world
  pub headline : Headline world

-- The same from these collections, with the headline for each client.
pub record HasRunFrom (o : Origin) (events : List Event) (reported now : Option (List Keeping)) (outcome : Outcome) : Type 0 where
  pub world : World
  pub happened : HasHappened o events reported now world
  pub is : outcome ≡ outcome_of world
  pub headline : ClientsHeadline o world
  pub clients : (e : Endpoint) → HasOperation world.begun e → ClientHeadline world.past e

-- The events before this place have happened, and the one there may not happen after them, or is a keep with an unknown outcome
-- of a file that changes no collection.
pub record IsBadAt (o : Origin) (events : List Event) (reported now : Option (List Keeping)) (i : ℕ) : Type 0 where
  pub event : Event
  pub there : slice_get events i ≡ Some event
  pub world : World
  pub happened : HasHappened o (take i events) reported now world
  pub bad : MayHappen event world → IsDue event all world → ⊥

-- The event may happen, but after it, with what it was granted, a port would have been used twice.
pub record Reuses (e : Event) (w : World) : Type 0 where
  pub may : MayHappen e w
  pub grant : Grant
  pub maps : Maps
  pub merged : HasMerged (record { event = e; grant = grant; maps = maps }) w
  pub reused : HasOwnPorts (event_happens e grant maps w) → ⊥

-- The events before this place have happened, and the one there reuses a port.
pub record IsReusedAt (o : Origin) (events : List Event) (reported now : Option (List Keeping)) (i : ℕ) : Type 0 where
  pub event : Event
  pub there : slice_get events i ≡ Some event
  pub world : World
  pub happened : HasHappened o (take i events) reported now world
  pub reuses : Reuses event world

-- The events before this place have happened, and the one there is a keep that the next start is to find. Instead its
-- datagram was delivered, and the keeper did not keep the collection.
pub record IsNotKeptAt (o : Origin) (events : List Event) (reported now : Option (List Keeping)) (i : ℕ) : Type 0 where
  pub index : ℕ
  pub there : slice_get events i ≡ Some (unknown_keep index true)
  pub world : World
  pub happened : HasHappened o (take i events ++ deliver index 0 ∷ []) reported now world

-- How many events the keeper's list reflects if the server cannot load at this one: a keep comes before the start.
abbrev pub IsReflected : Event → (i count : ℕ) → Type 0
IsReflected (begin e operation) i count = ⊥
IsReflected (deliver index spare) i count = ⊥
IsReflected (client_times_out e) i count = ⊥
IsReflected (server_times_out port) i count = ⊥
IsReflected (stray d) i count = ⊥
IsReflected restart i count = count ≡ i
IsReflected (unknown_keep index found) i count = count ≡ i + 1

-- The events before this place have happened, and at the one there the server starts again.
pub record IsNotLoadedAt (o : Origin) (events : List Event) (reported now : Option (List Keeping)) (i : ℕ) : Type 0 where
  pub event : Event
  pub there : slice_get events i ≡ Some event
  pub count : ℕ
  pub reflected : IsReflected event i count
  pub world : World
  pub happened : HasHappened o (take count events) reported now world

-- The first `count` events have happened, and the keeper has what they have kept.
pub record HasStopped (o : Origin) (events : List Event) (reported now : Option (List Keeping)) : Type 0 where
  pub count : ℕ
  pub within : count ≤ length events
  pub world : World
  pub happened : HasHappened o (take count events) reported now world

-- these events, from these collections, have no run, by this fault
abbrev pub FailsBy : Origin → WorldFault → List Event → (reported now : Option (List Keeping)) → Type 0
FailsBy o (world.BadEvent i) events reported now = IsBadAt o events reported now i
FailsBy o (world.PortReused i) events reported now = IsReusedAt o events reported now i
FailsBy o (world.NotKept i) events reported now = IsNotKeptAt o events reported now i
FailsBy o (world.NotLoaded i) events reported now = IsNotLoadedAt o events reported now i
FailsBy o world.Memory events reported now = HasStopped o events reported now

-- so much is said of a run that begins with what a keeper with this list loads
abbrev pub FromLoad : (reported : Option (List Keeping)) → (Origin → Type 0) → Type 0
FromLoad reported Holds = (o : Origin) × BeginsFrom reported o × Holds o
