-- After the texts that a server had at first, it takes files from other hosts alone.
use Rattle.std.proofs.Common.{◌≡◌, ◌≢◌, ℕ, zero, suc, ◌≤◌, Bool, true, false, ◌==◌, List, [], ◌∷◌, map, length, slice_get, Option, None, Some, Result, Ok, Err, refl, ap, sym, ◌∙◌, subst, arith, ⊎_elim}
use Rattle.tftp_packet.specs.declared.endpoint.Endpoint.{Endpoint}
use Rattle.tftp_ends.specs.declared.recv_fault.RecvFault.{RecvFault}
use Rattle.tftp_ends.specs.Ends.{answer_of, Receiver, receiver_data, receiver_take}
use Rattle.tftp_ends.specs.Input.{Input, nothing, stray, refusal, acked, block}
use Rattle.archive_table.specs.Table.{Table, Maps, Transfer, Taken, End, sending, receiving, Grant, all, no_memory, unkept, memory_verdict, transfer_input, transfer_at, file_come, file_asked, block_answered, data_at, transfer_by_input, datagram_at, table_datagram}
use Rattle.archive_client.specs.Client.{is_too_long}
use Rattle.archive_model.specs.World.{Datagram, Event, begin, deliver, client_times_out, server_times_out, restart, WorldStep, World, Origin, RunFrom, given, first_world, last_world, client_at, has_begun, taken_with, server_receives, arrives, delivers, event_happens, happens, run_from, AllMerged, ends, wanted_of, ends_at, ends_if}
use Rattle.archive_model.specs.World as world
use Rattle.archive_model.proofs.Places.{at-push}
use Rattle.archive_model.proofs.Growing.{step-extends}
use Rattle.archive_theorem.proofs.Claim_Invariant.{Holds, first-holds}
use Rattle.archive_theorem.proofs.Headline_Remains.{ack_leaves, begins_remain, request_remains, client_remains, waits_remain, strays_remain, timeout_leaves}
use Rattle.archive_theorem.proofs.Event_Happens.{step-holds}
use Rattle.archive_theorem.proofs.Server_Peers.{found_from}
use Rattle.archive_model.proofs.Sources.{wanted-completes}

-- each file from this place on was taken from another host
abbrev pub AreFromOthers : (home : Endpoint) (first : ℕ) → List Taken → Type 0
AreFromOthers home first ts = (i : ℕ) (t : Taken) → first ≤ i → slice_get ts i ≡ Some t → t.peer.host ≢ home.host

-- ---- a step

module _ (w : World) (h : Holds w) (first : ℕ) (before : AreFromOthers w.home first w.taken) where
  -- no file is taken
  same_files : {ts : List Taken} → ts ≡ w.taken → AreFromOthers w.home first ts
  same_files {ts} same = subst (AreFromOthers w.home first) (sym same) before

  -- the file that is taken is from another host
  with_file : (reported : Option Taken) → ((u : Taken) → reported ≡ Some u → u.peer.host ≢ w.home.host) →
      AreFromOthers w.home first (taken_with reported w.taken)
  with_file None new i t later at = before i t later at
  with_file (Some u) new i t later at =
      ⊎_elim (before i t later) (λ (is : (i ≡ length w.taken) × (t ≡ u)) ours. new u refl (ap (λ (x : Taken). x.peer.host) (sym is.1) ∙ ours))
      (at-push w.taken u i t at)

  server_from : (request : Bool) (spare : ℕ) (grant : Grant) (maps : Maps) (d : Datagram) →
      AreFromOthers w.home first (server_receives request spare grant maps d w).taken
  server_from true spare grant maps d =
      same_files (request_remains w (spare == w.server.request) (transfer_at spare w.server) spare grant d).0
  server_from false spare grant maps d =
      with_file (table_datagram grant maps d.target.port d.source d.bytes w.server).step.taken
      (found_from w h (transfer_at d.target.port w.server) grant maps d.target.port d.source d.bytes refl)

  arrives_from : (ours : Bool) (spare : ℕ) (grant : Grant) (maps : Maps) (d : Datagram) → AreFromOthers w.home first (arrives ours spare grant maps d w).taken
  arrives_from true spare grant maps d = server_from (d.target.port == w.server.request) spare grant maps d
  arrives_from false spare grant maps d = same_files (client_remains w (client_at d.target w) grant d).0

  delivers_from : (found : Option Datagram) (spare : ℕ) (grant : Grant) (maps : Maps) → AreFromOthers w.home first (delivers found spare grant maps w).taken
  delivers_from None spare grant maps = before
  delivers_from (Some d) spare grant maps = arrives_from (d.target.host == w.home.host) spare grant maps d

  -- so is one that was recovered
  ends_from : (found : Bool) (maps : Maps) (d : Datagram) (t : Taken) →
      (table_datagram all w.server.maps d.target.port d.source d.bytes w.server).step.taken ≡ Some t →
      AreFromOthers w.home first (ends found t maps d w).taken
  ends_from false maps d t is = before
  ends_from true maps d t is =
      with_file (Some t)
      (λ u same. found_from w h (transfer_at d.target.port w.server) all w.server.maps d.target.port d.source d.bytes refl u (is ∙ same))

  ends_if_from : (found : Bool) (maps : Maps) (d : Datagram) (file : Option Taken) → wanted_of (d.target.host == w.home.host) d w ≡ file →
      AreFromOthers w.home first (ends_if file found maps d w).taken
  ends_if_from found maps d None is = before
  ends_if_from found maps d (Some t) is = ends_from found maps d t (wanted-completes w d t is).takes

  ends_at_from : (sent : Option Datagram) (found : Bool) (maps : Maps) → AreFromOthers w.home first (ends_at sent found maps w).taken
  ends_at_from None found maps = before
  ends_at_from (Some d) found maps = ends_if_from found maps d (wanted_of (d.target.host == w.home.host) d w) refl

  -- after any event all files are from other hosts
  event_from : (event : Event) (grant : Grant) (maps : Maps) → AreFromOthers w.home first (event_happens event grant maps w).taken
  event_from (begin e operation) grant maps =
      same_files (begins_remain w (e.host == w.home.host) (is_too_long operation) e operation).0
  event_from (deliver index spare) grant maps = delivers_from (slice_get w.net index) spare grant maps
  event_from (client_times_out e) grant maps = same_files (waits_remain w (client_at e w) e).0
  event_from (server_times_out port) grant maps =
      same_files (ap (λ (x : Option Taken). taken_with x w.taken) (timeout_leaves (transfer_at port w.server) port w.server).0)
  event_from (world.stray d) grant maps =
      same_files (strays_remain w (d.source.host == w.home.host) (has_begun d.source w.begun) d).0
  event_from restart grant maps = before
  event_from (world.unknown_keep index found) grant maps = ends_at_from (slice_get w.net index) found maps

-- and after any steps
run_from_others : (steps : List WorldStep) (w : World) (first : ℕ) → Holds w → AllMerged steps w → AreFromOthers w.home first w.taken →
    AreFromOthers w.home first (run_from steps w).taken
run_from_others [] w first h merged others = others
run_from_others (s ∷ steps) w first h merged others =
    let v = happens s w in
    let home = (step-extends w s).home in
    let now = subst (λ (e : Endpoint). AreFromOthers e first v.taken) (sym home) (event_from w h first others s.event s.grant s.maps) in
    subst (λ (e : Endpoint). AreFromOthers e first (run_from steps v).taken) home
    (run_from_others steps v first (step-holds w s h merged.0) merged.1 now)

-- at first there are only those texts
none_later : (home : Endpoint) (texts : List (List ℕ)) → AreFromOthers home (length texts) (map (given home) texts)
none_later home [] i t later at = absurd cc
none_later home (x ∷ texts) zero t later at = absurd (omega arith)
none_later home (x ∷ texts) (suc i) t later at = none_later home texts i t (omega arith) at

-- after each run all files behind the first texts are from other hosts
pub run-from_others : (o : Origin) (r : RunFrom o) → AreFromOthers o.home (length o.texts) (last_world r).taken
run-from_others o r = run_from_others r.steps (first_world o) (length o.texts) (first-holds o) r.merged (none_later o.home o.texts)
