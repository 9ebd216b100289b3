-- What an event does, with what its tests say: each case that changes the world.
use Rattle.std.proofs.Common.{◌≡◌, ◌≢◌, ℕ, Bool, true, false, ◌==◌, slice_get, Option, None, Some, refl}
use Rattle.std.proofs.lemmas.Bool.{eqb-true, eqb-false}
use Rattle.tftp_packet.specs.declared.endpoint.Endpoint.{Endpoint}
use Rattle.archive_table.specs.Table.{Maps, Grant, Transfer, Taken, memory_verdict, transfer_at, table_request, table_datagram, table_timeout}
use Rattle.archive_client.specs.Client.{Operation, Client, client_datagram, client_timeout, is_too_long}
use Rattle.archive_model.specs.World.{Datagram, World, Event, begin, deliver, client_times_out, server_times_out, stray, restart, unknown_keep, client_at, has_begun, asked_of, after_request, after_transfer, after_client, begins, begins_unless, request_comes, server_receives, client_receives, arrives, delivers, client_waits, strays_in, strays_unless, restarts, ends, ends_if, ends_at, wanted_of, event_happens}
use Rattle.archive_model.proofs.Places.{Has}

-- the world after an event is one of these
pub data Cases (w : World) : World → Type 0 where
  nothing : Cases w w
  begun : (e : Endpoint) (operation : Operation) → e.host ≢ w.home.host → Cases w (begins e operation w)
  answers : (spare : ℕ) (grant : Grant) (d : Datagram) → Has w.net d → spare ≢ w.server.request → transfer_at spare w.server ≡ None →
      Cases w (after_request d.source spare (asked_of d.bytes) (table_request (memory_verdict grant) spare d.source d.bytes w.server) w)
  transfers : (grant : Grant) (maps : Maps) (d : Datagram) → Has w.net d → d.target.host ≡ w.home.host →
      Cases w (after_transfer (table_datagram grant maps d.target.port d.source d.bytes w.server) w)
  acts : (grant : Grant) (d : Datagram) (c : Client) → Has w.net d → client_at d.target w ≡ Some c →
      Cases w (after_client d.target c (client_datagram (memory_verdict grant) d.source d.bytes c) w)
  expires : (port : ℕ) → Cases w (after_transfer (table_timeout port w.server) w)
  waits : (e : Endpoint) (c : Client) → client_at e w ≡ Some c → Cases w (after_client e c (client_timeout c) w)
  strayed : (d : Datagram) → d.source.host ≢ w.home.host → Cases w (strays_in d w)
  restarted : Cases w (restarts w)
  ended : (found : Bool) (maps : Maps) (d : Datagram) (t : Taken) → Has w.net d → wanted_of (d.target.host == w.home.host) d w ≡ Some t →
      Cases w (ends found t maps d w)

module _ (w : World) where
  begins_case : (ours long : Bool) (e : Endpoint) (operation : Operation) → (e.host == w.home.host) ≡ ours → Cases w (begins_unless ours long e operation w)
  begins_case true long e operation at = nothing
  begins_case false true e operation at = nothing
  begins_case false false e operation at = begun e operation (eqb-false _ _ at)

  strays_case : (ours had_begun : Bool) (d : Datagram) → (d.source.host == w.home.host) ≡ ours → Cases w (strays_unless ours had_begun d w)
  strays_case true had_begun d at = nothing
  strays_case false true d at = nothing
  strays_case false false d at = strayed d (eqb-false _ _ at)

  module _ (grant : Grant) (maps : Maps) (d : Datagram) (among : Has w.net d) where
    request_case : (spare : ℕ) (used : Bool) (live : Option Transfer) → (spare == w.server.request) ≡ used → transfer_at spare w.server ≡ live →
        Cases w (request_comes used live spare grant d w)
    request_case spare true live at is = nothing
    request_case spare false (Some t) at is = nothing
    request_case spare false None at is = answers spare grant d among (eqb-false _ _ at) is

    server_case : (request : Bool) (spare : ℕ) → d.target.host ≡ w.home.host → Cases w (server_receives request spare grant maps d w)
    server_case true spare ours = request_case spare (spare == w.server.request) (transfer_at spare w.server) refl refl
    server_case false spare ours = transfers grant maps d among ours

    client_case : (found : Option Client) → client_at d.target w ≡ found → Cases w (client_receives found grant d w)
    client_case None is = nothing
    client_case (Some c) is = acts grant d c among is

    arrives_case : (ours : Bool) (spare : ℕ) → (d.target.host == w.home.host) ≡ ours → Cases w (arrives ours spare grant maps d w)
    arrives_case true spare at = server_case (d.target.port == w.server.request) spare (eqb-true _ _ at)
    arrives_case false spare at = client_case (client_at d.target w) refl

  delivers_case : (index spare : ℕ) (grant : Grant) (maps : Maps) (sent : Option Datagram) → slice_get w.net index ≡ sent →
      Cases w (delivers sent spare grant maps w)
  delivers_case index spare grant maps None is = nothing
  delivers_case index spare grant maps (Some d) is =
      arrives_case grant maps d (record { position = index; is = is }) (d.target.host == w.home.host) spare refl

  waits_case : (e : Endpoint) (found : Option Client) → client_at e w ≡ found → Cases w (client_waits found e w)
  waits_case e None is = nothing
  waits_case e (Some c) is = waits e c is

  ends_case : (found : Bool) (maps : Maps) (d : Datagram) → Has w.net d → (file : Option Taken) →
      wanted_of (d.target.host == w.home.host) d w ≡ file → Cases w (ends_if file found maps d w)
  ends_case found maps d among None completes = nothing
  ends_case found maps d among (Some t) completes = ended found maps d t among completes

  ends_at_case : (index : ℕ) (found : Bool) (maps : Maps) (sent : Option Datagram) → slice_get w.net index ≡ sent → Cases w (ends_at sent found maps w)
  ends_at_case index found maps None is = nothing
  ends_at_case index found maps (Some d) is = ends_case found maps d (record { position = index; is = is }) (wanted_of (d.target.host == w.home.host) d w) refl

  -- whatever the event
  pub event-case : (event : Event) (grant : Grant) (maps : Maps) → Cases w (event_happens event grant maps w)
  event-case (begin e operation) grant maps = begins_case (e.host == w.home.host) (is_too_long operation) e operation refl
  event-case (deliver index spare) grant maps = delivers_case index spare grant maps (slice_get w.net index) refl
  event-case (client_times_out e) grant maps = waits_case e (client_at e w) refl
  event-case (server_times_out port) grant maps = expires port
  event-case (stray d) grant maps = strays_case (d.source.host == w.home.host) (has_begun d.source w.begun) d refl
  event-case restart grant maps = restarted
  event-case (unknown_keep index found) grant maps = ends_at_case index found maps (slice_get w.net index) refl
