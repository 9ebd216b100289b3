-- A file whose keep has an unknown outcome: what the server has recorded of it before it starts again.
use Rattle.std.specs.Prelude.{◌≡◌, ◌≢◌, ◌⊎◌, ◌==◌, ℕ, Bool, true, false, not, List, [], ◌∷◌, ◌++◌, Option, None, Some, Result, Ok, Err}
use Rattle.tftp_packet.specs.Refusal.{refusal_packet}
use Rattle.tftp_packet.specs.declared.refusal.Refusal.TheVariants.{NotKept}
use Rattle.archive_table.specs.declared.step_event.StepEvent.{StepEvent}
use Rattle.archive_table.specs.declared.step_event.StepEvent.TheVariants.{Nothing, OpenedPut, OpenedGet, Refused, Taken, Finished, Failed}
use Rattle.archive_table.specs.Table.{Maps, Taken as Took, Grant, all, no_memory, unkept, grant_of, out_from, table_datagram, IsMerged}
use Rattle.archive_table.specs.Events.{Reported}
use Rattle.archive_table.specs.Keeper.{Keeping, KeepsMaps}
use Rattle.archive_model.specs.World.{World, Datagram, server_endpoint, net_with, maps_found, ends, restarts}
use Rattle.archive_world.specs.declared.event_fault.EventFault.{EventFault}
use Rattle.archive_world.specs.declared.event_fault.EventFault.TheVariants as fault
use Rattle.archive_world.specs.Inside.{ReceivesAtPort}
use Rattle.archive_world.specs.Replays.{Changes}

-- the file that a datagram at a port completes if everything is granted
abbrev pub completed : Datagram → World → Option Took
completed d w = (table_datagram all w.server.maps d.target.port d.source d.bytes w.server).step.taken

-- the world after a file was taken, of which its peer was told that it was not kept
abbrev pub recovers : (port : ℕ) → Took → World → World
recovers port t w =
    record w {
      past = record w.past {
        net = net_with server_endpoint.host w.net (Some (out_from port t.peer (refusal_packet NotKept)));
        taken = w.taken ++ t ∷ [];
        recovered = w.recovered ++ t ∷ [];
      };
    }

-- The server has answered that the file of a datagram was not kept; what is left is the restart.
pub record Ends (found : Bool) (d : Datagram) (before after : Option (List Keeping)) (old new : World) : Type 0 where
  pub file : Took
  pub completes : completed d old ≡ Some file
  -- the collections that the file makes
  pub maps : Maps
  pub merged : IsMerged file.file old.server.maps maps
  pub changes : maps ≢ old.server.maps
  pub maps_is : new.server.maps ≡ maps_found found old.server.maps maps
  pub home : new.home ≡ old.home
  pub request : new.server.request ≡ old.server.request
  pub is : restarts new ≡ ends found file maps d old
  pub keeps : KeepsMaps old.server.maps new.server.maps before after

-- By the result of a call for a datagram at a port of the server: `Bad` if it completes no file that changes a collection.
abbrev pub EndsBy : Result (Unit {0}) EventFault → (found : Bool) → Datagram → (before after : Option (List Keeping)) → (old new : World) → Type 0
EndsBy (Ok done) found d before after old new = Ends found d before after old new
EndsBy (Err fault.Bad) found d before after old new =
    (after ≡ before) × ((t : Took) → completed d old ≡ Some t → Changes t old.server.maps → ⊥)
EndsBy (Err fault.Reused) found d before after old new = ⊥
EndsBy (Err fault.NotKept) found d before after old new = (found ≡ true) × ((u : World) × ReceivesAtPort d before after old u)
EndsBy (Err fault.NotLoaded) found d before after old new = ⊥
EndsBy (Err fault.Memory) found d before after old new = (after ≡ before) ⊎ ((u : World) × Ends found d before after old u)

-- ---- what a step of the table says

-- why a step that has taken no file fails
abbrev pub fault_by : Grant → EventFault
fault_by all = fault.Bad
fault_by no_memory = fault.Memory
fault_by unkept = fault.NotKept

-- a file was taken that has changed a collection
abbrev pub improves : StepEvent → Bool
improves Nothing = false
improves OpenedPut = false
improves (OpenedGet rules) = false
improves (Refused why) = false
improves (Taken merged) = not (merged.better == 0)
improves (Finished bytes) = false
improves (Failed block why) = false

-- a step that has taken a file, or the fault of one that has taken none
abbrev pub TakesNone : Reported → EventFault → Type 0
TakesNone step f = (step.taken ≡ None) × (fault_by (grant_of step.out) ≡ f)

-- a keep that the next start finds, by its result
abbrev pub FoundBy : Result (Unit {0}) EventFault → (port : ℕ) → Reported → (old new : World) → Type 0
FoundBy (Ok done) port step old new =
    (t : Took) × (step.taken ≡ Some t) × (improves step.event ≡ true) × (new ≡ recovers port t old)
FoundBy (Err fault.Bad) port step old new = TakesNone step fault.Bad ⊎ ((t : Took) × (step.taken ≡ Some t) × (improves step.event ≡ false))
FoundBy (Err fault.Reused) port step old new = ⊥
FoundBy (Err fault.NotKept) port step old new = TakesNone step fault.NotKept
FoundBy (Err fault.NotLoaded) port step old new = ⊥
FoundBy (Err fault.Memory) port step old new =
    TakesNone step fault.Memory ⊎ ((t : Took) × (step.taken ≡ Some t) × (improves step.event ≡ true))

-- a keep that the next start does not find, by its result
abbrev pub LostBy : Result (Unit {0}) EventFault → Reported → (old new : World) → Type 0
LostBy (Ok done) step old new =
    TakesNone step fault.NotKept × (new ≡ record old { past = record old.past { net = net_with server_endpoint.host old.net step.out } })
LostBy (Err fault.Bad) step old new = TakesNone step fault.Bad ⊎ ((t : Took) × (step.taken ≡ Some t))
LostBy (Err fault.Reused) step old new = ⊥
LostBy (Err fault.NotKept) step old new = ⊥
LostBy (Err fault.NotLoaded) step old new = ⊥
LostBy (Err fault.Memory) step old new = Unit {0}
