-- No step changes the port at which the server takes requests.
use Rattle.std.proofs.Common.{◌≡◌, ℕ, Bool, true, false, ◌==◌, List, [], ◌∷◌, slice_get, Option, None, Some, refl, ◌∙◌}
use Rattle.tftp_packet.specs.declared.endpoint.Endpoint.{Endpoint}
use Rattle.archive_table.specs.Table.{Maps, Grant, memory_verdict, Transfer, transfer_at, Taken}
use Rattle.archive_table.proofs.SamePort.{request_same, datagram_same, timeout_same}
use Rattle.archive_client.specs.Client.{Operation, Client, is_too_long}
use Rattle.archive_model.specs.World.{Datagram, Event, begin, deliver, client_times_out, server_times_out, stray, restart, WorldStep, World, client_at, has_begun, begins_unless, request_comes, server_receives, client_receives, arrives, delivers, client_waits, strays_unless, event_happens, happens, run_from, ends_at, unknown_keep, ends_if, wanted_of}

module _ (w : World) where
  begins_same : (ours long : Bool) (e : Endpoint) (operation : Operation) → (begins_unless ours long e operation w).server.request ≡ w.server.request
  begins_same true long e operation = refl
  begins_same false true e operation = refl
  begins_same false false e operation = refl

  comes_same : (used : Bool) (live : Option Transfer) (spare : ℕ) (grant : Grant) (d : Datagram) →
      (request_comes used live spare grant d w).server.request ≡ w.server.request
  comes_same true live spare grant d = refl
  comes_same false (Some t) spare grant d = refl
  comes_same false None spare grant d = request_same (memory_verdict grant) spare d.source d.bytes w.server

  server_same : (request : Bool) (spare : ℕ) (grant : Grant) (maps : Maps) (d : Datagram) →
      (server_receives request spare grant maps d w).server.request ≡ w.server.request
  server_same true spare grant maps d = comes_same (spare == w.server.request) (transfer_at spare w.server) spare grant d
  server_same false spare grant maps d = datagram_same grant maps d.target.port d.source d.bytes w.server

  receives_same : (found : Option Client) (grant : Grant) (d : Datagram) → (client_receives found grant d w).server.request ≡ w.server.request
  receives_same None grant d = refl
  receives_same (Some c) grant d = refl

  arrives_same : (ours : Bool) (spare : ℕ) (grant : Grant) (maps : Maps) (d : Datagram) → (arrives ours spare grant maps d w).server.request ≡ w.server.request
  arrives_same true spare grant maps d = server_same (d.target.port == w.server.request) spare grant maps d
  arrives_same false spare grant maps d = receives_same (client_at d.target w) grant d

  delivers_same : (found : Option Datagram) (spare : ℕ) (grant : Grant) (maps : Maps) → (delivers found spare grant maps w).server.request ≡ w.server.request
  delivers_same None spare grant maps = refl
  delivers_same (Some d) spare grant maps = arrives_same (d.target.host == w.home.host) spare grant maps d

  waits_same : (found : Option Client) (e : Endpoint) → (client_waits found e w).server.request ≡ w.server.request
  waits_same None e = refl
  waits_same (Some c) e = refl

  strays_same : (ours begun : Bool) (d : Datagram) → (strays_unless ours begun d w).server.request ≡ w.server.request
  strays_same true begun d = refl
  strays_same false true d = refl
  strays_same false false d = refl

  ends_same : (file : Option Taken) (found : Bool) (maps : Maps) (d : Datagram) → (ends_if file found maps d w).server.request ≡ w.server.request
  ends_same None found maps d = refl
  ends_same (Some t) found maps d = refl

  ends_at_same : (sent : Option Datagram) (found : Bool) (maps : Maps) → (ends_at sent found maps w).server.request ≡ w.server.request
  ends_at_same None found maps = refl
  ends_at_same (Some d) found maps = ends_same (wanted_of (d.target.host == w.home.host) d w) found maps d

  event_same : (event : Event) (grant : Grant) (maps : Maps) → (event_happens event grant maps w).server.request ≡ w.server.request
  event_same (begin e operation) grant maps = begins_same (e.host == w.home.host) (is_too_long operation) e operation
  event_same (deliver index spare) grant maps = delivers_same (slice_get w.net index) spare grant maps
  event_same (client_times_out e) grant maps = waits_same (client_at e w) e
  event_same (server_times_out port) grant maps = timeout_same port w.server
  event_same (stray d) grant maps = strays_same (d.source.host == w.home.host) (has_begun d.source w.begun) d
  event_same restart grant maps = refl
  event_same (unknown_keep index found) grant maps = ends_at_same (slice_get w.net index) found maps

-- no steps change the server's request port
pub run_same : (steps : List WorldStep) (w : World) → (run_from steps w).server.request ≡ w.server.request
run_same [] w = refl
run_same (s ∷ steps) w = run_same steps (happens s w) ∙ event_same w s.event s.grant s.maps
