-- Every event keeps the invariant, and so every run.
use Rattle.std.proofs.Common.{◌≡◌, ℕ, Bool, true, false, ◌==◌, List, [], ◌∷◌, ◌++◌, slice_get, Option, None, Some, refl, ap, subst}
use Rattle.std.proofs.lemmas.Bool.{eqb-true, eqb-false}
use Rattle.archive_table.specs.Table.{Maps, empty_maps, Grant, Transfer, Taken, TableAnswer, memory_verdict, transfer_at, table_datagram, IsMerged}
use Rattle.archive_client.specs.Client.{Operation, Client, is_too_long}
use Rattle.tftp_packet.specs.declared.endpoint.Endpoint.{Endpoint}
use Rattle.archive_model.specs.World.{Datagram, World, Event, begin, deliver, client_times_out, server_times_out, stray, restart, WorldStep, client_at, has_begun, taken_with, after_transfer, begins_unless, request_comes, server_receives, client_receives, arrives, delivers, client_waits, strays_unless, event_happens, happens, run_from, run, start, HasMerged, AllMerged, AllMayHappen, Origin, RunFrom, last_world, first_world, unknown_keep}
use Rattle.archive_model.proofs.Places.{Has}
use Rattle.archive_theorem.proofs.Claim_Invariant.{Holds, first-holds}
use Rattle.archive_theorem.proofs.Server_Acks.{timeout-holds}
use Rattle.archive_theorem.proofs.Server_Receives.{MergesTaken}
use Rattle.archive_theorem.proofs.Server_Handles.{datagram-holds}
use Rattle.archive_theorem.proofs.Server_Requests.{request-holds}
use Rattle.archive_theorem.proofs.Client_Answers.{client_datagram-holds, client_timeout-holds}
use Rattle.archive_theorem.proofs.Event_Begins.{may_begin, begins-holds}
use Rattle.archive_theorem.proofs.Event_Strays.{strays-holds, restarts-holds}
use Rattle.archive_theorem.proofs.Event_Ends.{ends_at-holds}

-- if a file is taken, it has made the collections after it
abbrev pub Merged : (w v : World) → Type 0
Merged w v = (t : Taken) → v.taken ≡ w.taken ++ t ∷ [] → IsMerged t.file w.server.maps v.server.maps

-- the file that the server's answer takes has made its collections
merges_from : (w : World) (a : TableAnswer) → Merged w (after_transfer a w) → MergesTaken w a
merges_from w a merged t is = merged t (ap (λ (x : Option Taken). taken_with x w.taken) is)

module _ (w : World) (h : Holds w) where
  -- a begin, whether or not it may happen
  begins_row : (ours long : Bool) (e : Endpoint) (operation : Operation) → (e.host == w.home.host) ≡ ours →
      is_too_long operation ≡ long → Holds (begins_unless ours long e operation w)
  begins_row true long e operation at size = h
  begins_row false true e operation at size = h
  begins_row false false e operation at size = begins-holds w h e operation (eqb-false _ _ at) (may_begin operation size)

  -- a request, whether or not the spare port is free
  comes_row : (d : Datagram) → Has w.net d → (used : Bool) (live : Option Transfer) (spare : ℕ) (grant : Grant) →
      transfer_at spare w.server ≡ live → Holds (request_comes used live spare grant d w)
  comes_row d among true live spare grant is = h
  comes_row d among false (Some t) spare grant is = h
  comes_row d among false None spare grant is = request-holds w h d among spare is (memory_verdict grant)

  -- a datagram at the server's host
  server_row : (d : Datagram) → Has w.net d → d.target.host ≡ w.home.host →
      (request : Bool) (spare : ℕ) (grant : Grant) (maps : Maps) → Merged w (server_receives request spare grant maps d w) →
      Holds (server_receives request spare grant maps d w)
  server_row d among ours true spare grant maps merged =
      comes_row d among (spare == w.server.request) (transfer_at spare w.server) spare grant refl
  server_row d among ours false spare grant maps merged =
      datagram-holds w h d among ours grant maps (merges_from w (table_datagram grant maps d.target.port d.source d.bytes w.server) merged)

  -- a datagram at another host, with a client there or not
  receives_row : (d : Datagram) → Has w.net d → (found : Option Client) (grant : Grant) → client_at d.target w ≡ found → Holds (client_receives found grant d w)
  receives_row d among None grant is = h
  receives_row d among (Some c) grant is = client_datagram-holds w h d among c is (memory_verdict grant)

  -- a datagram at any host
  arrives_row : (d : Datagram) → Has w.net d → (ours : Bool) (spare : ℕ) (grant : Grant) (maps : Maps) →
      (d.target.host == w.home.host) ≡ ours → Merged w (arrives ours spare grant maps d w) →
      Holds (arrives ours spare grant maps d w)
  arrives_row d among true spare grant maps at merged =
      server_row d among (eqb-true _ _ at) (d.target.port == w.server.request) spare grant maps merged
  arrives_row d among false spare grant maps at merged = receives_row d among (client_at d.target w) grant refl

  -- a delivery, whether or not something was sent at its place
  delivers_row : (found : Option Datagram) (index spare : ℕ) (grant : Grant) (maps : Maps) → slice_get w.net index ≡ found →
      Merged w (delivers found spare grant maps w) → Holds (delivers found spare grant maps w)
  delivers_row None index spare grant maps is merged = h
  delivers_row (Some d) index spare grant maps is merged =
      arrives_row d (record { position = index; is = is }) (d.target.host == w.home.host) spare grant maps refl merged

  -- a client's time-out, if there is one
  waits_row : (e : Endpoint) (found : Option Client) → client_at e w ≡ found → Holds (client_waits found e w)
  waits_row e None is = h
  waits_row e (Some c) is = client_timeout-holds w h e c is

  -- a stranger's datagram, whether or not it may enter
  strays_row : (ours begun : Bool) (d : Datagram) → (d.source.host == w.home.host) ≡ ours → Holds (strays_unless ours begun d w)
  strays_row true begun d at = h
  strays_row false true d at = h
  strays_row false false d at = strays-holds w h d (eqb-false _ _ at)

  -- any event
  event_row : (event : Event) (grant : Grant) (maps : Maps) → Merged w (event_happens event grant maps w) → Holds (event_happens event grant maps w)
  event_row (begin e operation) grant maps merged =
      begins_row (e.host == w.home.host) (is_too_long operation) e operation refl refl
  event_row (deliver index spare) grant maps merged =
      delivers_row (slice_get w.net index) index spare grant maps refl merged
  event_row (client_times_out e) grant maps merged = waits_row e (client_at e w) refl
  event_row (server_times_out port) grant maps merged = timeout-holds w h port
  event_row (stray d) grant maps merged =
      strays_row (d.source.host == w.home.host) (has_begun d.source w.begun) d refl
  event_row restart grant maps merged = restarts-holds w h
  event_row (unknown_keep index found) grant maps merged = ends_at-holds w h index (slice_get w.net index) refl found maps merged

-- a step keeps the invariant
pub step-holds : (w : World) (s : WorldStep) → Holds w → HasMerged s w → Holds (happens s w)
step-holds w s h merged = event_row w h s.event s.grant s.maps merged

-- any steps keep the invariant
pub run_from-holds : (steps : List WorldStep) (w : World) → Holds w → AllMerged steps w → Holds (run_from steps w)
run_from-holds [] w h merged = h
run_from-holds (s ∷ steps) w h merged = run_from-holds steps (happens s w) (step-holds w s h merged.0) merged.1

-- the invariant holds after each run
pub last-holds : (o : Origin) (r : RunFrom o) → Holds (last_world r)
last-holds o r = run_from-holds r.steps (first_world o) (first-holds o) r.merged

-- the files of a run make the collections, however its steps are written
pub merged-as : (o : Origin) (r : RunFrom o) (steps : List WorldStep) → r.steps ≡ steps → AllMerged steps (first_world o)
merged-as o r steps same = subst (λ (l : List WorldStep). AllMerged l (first_world o)) same r.merged

-- ---- the parts of a run

pub run-append : (xs ys : List WorldStep) (w : World) → run_from (xs ++ ys) w ≡ run_from ys (run_from xs w)
run-append [] ys w = refl
run-append (x ∷ xs) ys w = run-append xs ys (happens x w)

pub may-append : (xs ys : List WorldStep) (w : World) → AllMayHappen xs w → AllMayHappen ys (run_from xs w) → AllMayHappen (xs ++ ys) w
may-append [] ys w first rest = rest
may-append (x ∷ xs) ys w first rest = (first.0, may-append xs ys (happens x w) first.1 rest)

-- if each file taken makes the collections, so do those of the rest of a run
pub merged-rest : (xs ys : List WorldStep) (w : World) → AllMerged (xs ++ ys) w → AllMerged ys (run_from xs w)
merged-rest [] ys w merged = merged
merged-rest (x ∷ xs) ys w merged = merged-rest xs ys (happens x w) merged.1

-- if each file taken makes the collections, so do those of the first part of a run
pub merged-first : (xs ys : List WorldStep) (w : World) → AllMerged (xs ++ ys) w → AllMerged xs w
merged-first [] ys w merged = tt
merged-first (x ∷ xs) ys w merged = (merged.0, merged-first xs ys (happens x w) merged.1)
