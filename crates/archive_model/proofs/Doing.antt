-- What an event does, past all tests whether it may happen: it adds one operation, an answer of the server or of a client,
-- or a stray; it ends all transfers, or it does nothing.
use Rattle.std.proofs.Common.{◌≡◌, ℕ, Bool, true, false, ◌==◌, Option, None, Some, refl, slice_get}
use Rattle.tftp_packet.specs.declared.endpoint.Endpoint.{Endpoint}
use Rattle.archive_table.specs.Table.{Maps, Grant, Transfer, memory_verdict, transfer_at, table_request, table_datagram, table_timeout, Taken}
use Rattle.archive_client.specs.Client.{Operation, Client, client_datagram, client_timeout, is_too_long}
use Rattle.archive_model.specs.World.{Datagram, World, Event, begin, deliver, client_times_out, server_times_out, stray, restart, client_at, has_begun, asked_of, after_request, after_transfer, after_client, begins, begins_unless, request_comes, server_receives, client_receives, arrives, delivers, client_waits, strays_in, strays_unless, restarts, event_happens, unknown_keep, wanted_of, ends_at, ends, ends_if}

-- the world after the event is one of these
pub data Does (w : World) : Event → World → Type 0 where
  nothing : (event : Event) → Does w event w
  begun : (e : Endpoint) (operation : Operation) → Does w (begin e operation) (begins e operation w)
  -- the server, or a client, answers the datagram at this place
  answers : (index spare : ℕ) (grant : Grant) (d : Datagram) → slice_get w.net index ≡ Some d →
      Does w (deliver index spare) (after_request d.source spare (asked_of d.bytes) (table_request (memory_verdict grant) spare d.source d.bytes w.server) w)
  transfers : (index spare : ℕ) (grant : Grant) (maps : Maps) (d : Datagram) → slice_get w.net index ≡ Some d →
      Does w (deliver index spare) (after_transfer (table_datagram grant maps d.target.port d.source d.bytes w.server) w)
  acts : (index spare : ℕ) (grant : Grant) (d : Datagram) (c : Client) → slice_get w.net index ≡ Some d →
      Does w (deliver index spare) (after_client d.target c (client_datagram (memory_verdict grant) d.source d.bytes c) w)
  -- or it times out
  expires : (port : ℕ) → Does w (server_times_out port) (after_transfer (table_timeout port w.server) w)
  waits : (e : Endpoint) (c : Client) → Does w (client_times_out e) (after_client e c (client_timeout c) w)
  strayed : (d : Datagram) → Does w (stray d) (strays_in d w)
  restarted : Does w restart (restarts w)
  -- or it ends, since it does not know whether it has kept a file that this datagram completes
  ended : (index : ℕ) (found : Bool) (maps : Maps) (d : Datagram) (t : Taken) → slice_get w.net index ≡ Some d →
      wanted_of (d.target.host == w.home.host) d w ≡ Some t → Does w (unknown_keep index found) (ends found t maps d w)

module _ (w : World) where
  begins_does : (ours long : Bool) (e : Endpoint) (operation : Operation) → Does w (begin e operation) (begins_unless ours long e operation w)
  begins_does true long e operation = nothing _
  begins_does false true e operation = nothing _
  begins_does false false e operation = begun e operation

  strays_does : (ours had_begun : Bool) (d : Datagram) → Does w (stray d) (strays_unless ours had_begun d w)
  strays_does true had_begun d = nothing _
  strays_does false true d = nothing _
  strays_does false false d = strayed d

  -- by the delivery of the datagram at this place
  module _ (index spare : ℕ) (grant : Grant) (maps : Maps) (d : Datagram) (is : slice_get w.net index ≡ Some d) where
    request_does : (used : Bool) (live : Option Transfer) → Does w (deliver index spare) (request_comes used live spare grant d w)
    request_does true live = nothing _
    request_does false (Some t) = nothing _
    request_does false None = answers index spare grant d is

    server_does : (request : Bool) → Does w (deliver index spare) (server_receives request spare grant maps d w)
    server_does true = request_does (spare == w.server.request) (transfer_at spare w.server)
    server_does false = transfers index spare grant maps d is

    client_does : (found : Option Client) → Does w (deliver index spare) (client_receives found grant d w)
    client_does None = nothing _
    client_does (Some c) = acts index spare grant d c is

    arrives_does : (ours : Bool) → Does w (deliver index spare) (arrives ours spare grant maps d w)
    arrives_does true = server_does (d.target.port == w.server.request)
    arrives_does false = client_does (client_at d.target w)

  delivers_does : (index spare : ℕ) (grant : Grant) (maps : Maps) (found : Option Datagram) → slice_get w.net index ≡ found →
      Does w (deliver index spare) (delivers found spare grant maps w)
  delivers_does index spare grant maps None is = nothing _
  delivers_does index spare grant maps (Some d) is = arrives_does index spare grant maps d is (d.target.host == w.home.host)

  ends_does : (index : ℕ) (found : Bool) (maps : Maps) (d : Datagram) → slice_get w.net index ≡ Some d → (file : Option Taken) →
      wanted_of (d.target.host == w.home.host) d w ≡ file → Does w (unknown_keep index found) (ends_if file found maps d w)
  ends_does index found maps d is None completes = nothing _
  ends_does index found maps d is (Some t) completes = ended index found maps d t is completes

  ends_at_does : (index : ℕ) (found : Bool) (maps : Maps) (sent : Option Datagram) → slice_get w.net index ≡ sent →
      Does w (unknown_keep index found) (ends_at sent found maps w)
  ends_at_does index found maps None is = nothing _
  ends_at_does index found maps (Some d) is = ends_does index found maps d is _ refl

  waits_does : (e : Endpoint) (found : Option Client) → Does w (client_times_out e) (client_waits found e w)
  waits_does e None = nothing _
  waits_does e (Some c) = waits e c

  -- so whatever the event
  pub event-does : (event : Event) (grant : Grant) (maps : Maps) → Does w event (event_happens event grant maps w)
  event-does (begin e operation) grant maps = begins_does (e.host == w.home.host) (is_too_long operation) e operation
  event-does (deliver index spare) grant maps = delivers_does index spare grant maps (slice_get w.net index) refl
  event-does (client_times_out e) grant maps = waits_does e (client_at e w)
  event-does (server_times_out port) grant maps = expires port
  event-does (stray d) grant maps = strays_does (d.source.host == w.home.host) (has_begun d.source w.begun) d
  event-does restart grant maps = restarted
  event-does (unknown_keep index found) grant maps = ends_at_does index found maps (slice_get w.net index) refl
