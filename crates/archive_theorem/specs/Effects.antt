-- When operations take effect, as linearizability asks. Each put that is counted as sent, and each get that has fetched,
-- takes effect at one step of the run, after its start and before its end, as if the whole of it happened there: so the
-- operations of all clients whose ports are their own are in one order, that of these steps. Files of others are taken in
-- between.
use Rattle.std.specs.Prelude.{◌≡◌, ◌≢◌, ℕ, ◌≤◌, false, List, [], ◌∷◌, ◌++◌, take, length, Contains}
use Rattle.tftp_packet.specs.declared.endpoint.Endpoint.{Endpoint}
use Rattle.tws_file.specs.declared.«ruleset».Ruleset.{Ruleset}
use Rattle.tws_best.specs.Best.{collection_text, IsBestOver}
use Rattle.archive_table.specs.Table.{Taken, IsMerged, map_of}
use Rattle.archive_client.specs.Client.{Operation, put, get, is_too_long}
use Rattle.archive_model.specs.World.{Begun, begin, to_read, Got, WorldStep, World, happens, run_from}
use Rattle.archive_theorem.specs.Headline.{IsOwn, files_of}

-- this operation has begun at the endpoint
abbrev pub HasBegunWith : World → Endpoint → Operation → Type 0
HasBegunWith w e operation = (b : Begun) × Contains w.begun b × (b.client ≡ e) × (b.operation ≡ operation)

-- The step takes the file of a put that has begun and is not counted as sent yet, and the file joins the collections.
pub record PutsAt (w : World) (s : WorldStep) (e : Endpoint) (file : List ℕ) : Type 0 where
  pub began : HasBegunWith w e (put file)
  pub unsent : Contains w.sent e → ⊥
  pub takes : (happens s w).taken ≡ w.taken ++ record { peer = e; file = file } ∷ []
  pub merges : IsMerged file w.server.maps (happens s w).server.maps

-- The step opens a transfer for a get that has begun and has not fetched yet, of the collection as it is then, and that is
-- what it fetches.
pub record GetsAt (w : World) (s : WorldStep) (e : Endpoint) (rules : Ruleset) (file : List ℕ) : Type 0 where
  pub began : HasBegunWith w e (get rules)
  pub unfetched : (g : Got) → Contains w.got g → g.client ≡ e → ⊥
  pub port : ℕ
  pub opens : (happens s w).opened ≡ w.opened ++ record { peer = e; port = port; asked = to_read rules; taken = length w.taken } ∷ []
  pub file_is : file ≡ collection_text (map_of rules w.server.maps)

-- A put that is counted as sent by these steps, from this first world, takes effect at one of them. As the steps up to its end are a run, it
-- does so before its end; its file is taken once, so there is no other such step.
pub record TakesEffect (w : World) (steps : List WorldStep) (e : Endpoint) : Type 0 where
  pub file : List ℕ
  pub before : List WorldStep
  pub step : WorldStep
  pub after : List WorldStep
  pub split : steps ≡ before ++ step ∷ after
  pub at : PutsAt (run_from before w) step e file

-- the same for a get that has fetched
pub record ReadsAtOnce (w : World) (steps : List WorldStep) (g : Got) : Type 0 where
  pub rules : Ruleset
  pub before : List WorldStep
  pub step : WorldStep
  pub after : List WorldStep
  pub split : steps ≡ before ++ step ∷ after
  pub at : GetsAt (run_from before w) step g.client rules g.file

-- ---- what follows for operations of which one ends before the other begins

-- the collection that was fetched is that over the first `count` files taken
pub record IsFetchedOver (w : World) (g : Got) (count : ℕ) : Type 0 where
  pub rules : Ruleset
  pub began : HasBegunWith w g.client (get rules)
  pub counted : count ≤ length w.taken
  pub best : IsBestOver rules (files_of (take count w.taken)) g.file

-- What a get has fetched that ended before another began is over no more files than what the other has fetched.
abbrev pub FetchesNoLess : World → (before after : List WorldStep) → WorldStep → Type 0
FetchesNoLess w before after s =
    (e : Endpoint) (rules : Ruleset) → s.event ≡ begin e (get rules) → IsOwn (run_from (before ++ s ∷ after) w) e → (g : Got) →
    Contains (run_from before w).got g → IsOwn (run_from before w) g.client → (h : Got) → Contains (run_from (before ++ s ∷ after) w).got h → h.client ≡ e →
    (m : ℕ) × (n : ℕ) × (m ≤ n) × IsFetchedOver (run_from (before ++ s ∷ after) w) g m × IsFetchedOver (run_from (before ++ s ∷ after) w) h n

-- What a get has fetched that ended before a put began has nothing of that put.
abbrev pub FetchesNone : World → (before after : List WorldStep) → WorldStep → Type 0
FetchesNone w before after s =
    (e : Endpoint) (file : List ℕ) → s.event ≡ begin e (put file) → e.host ≢ w.home.host → is_too_long (put file) ≡ false →
    IsOwn (run_from (before ++ s ∷ after) w) e → (g : Got) → Contains (run_from before w).got g → IsOwn (run_from before w) g.client →
    (count : ℕ) × IsFetchedOver (run_from (before ++ s ∷ after) w) g count × ((t : Taken) → Contains (take count (run_from (before ++ s ∷ after) w).taken) t →
    t.peer ≡ e → ⊥)
