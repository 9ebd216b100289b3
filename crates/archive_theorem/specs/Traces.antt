-- Traces: what the server and the clients do, as they report it themselves. A trace names each datagram that arrives,
-- while a run names its place in the network; nothing in a trace is looked up or tested. It is what a running server or
-- client can report.
use Rattle.std.specs.Prelude.{◌≡◌, ℕ, ◌+◌, Bool, true, false, ◌==◌, ◌&&◌, List, [], ◌∷◌, ◌++◌, length, Option, None, Some}
use Rattle.std.specs.Option.{option_map}
use Rattle.std.specs.Str.{bytes_eq}
use Rattle.tftp_packet.specs.declared.endpoint.Endpoint.{Endpoint}
use Rattle.archive_table.specs.Table.{Maps, Grant, Taken, IsMerged, memory_verdict, is_same, table_request, table_datagram, table_timeout}
use Rattle.archive_client.specs.Client.{Operation}
use Rattle.archive_model.specs.World.{Datagram, Event, begin, deliver, client_times_out, server_times_out, stray, restart, unknown_keep, WorldStep, World, Origin, first_world, client_at, after_request, after_transfer, asked_of, begins, client_receives, client_waits, strays_in, restarts, wanted_of, ends_if, run_from, AllMayHappen}

-- what one end does
pub data Deed : Type 0 where
  -- a client starts
  starts : (client : Endpoint) (operation : Operation) → Deed
  -- this datagram arrives at its target; at the request port, with this spare port
  receives : (datagram : Datagram) (spare : ℕ) → Deed
  -- a client, or a port of the server, times out
  client_waits_long : (client : Endpoint) → Deed
  server_waits_long : (port : ℕ) → Deed
  -- the server restarts with the collections that it has kept
  loads : Deed
  -- This datagram completes a file, and it is not known whether the collection that it makes is kept: the server answers that
  -- it is not, and ends. The next start finds that collection, or the one that was kept before.
  ends_in_keep : (datagram : Datagram) (found : Bool) → Deed

-- a deed, and what it was granted, as in a step
pub record Member : Type 0 where
  pub deed : Deed
  pub grant : Grant
  pub maps : Maps

-- ---- the network as the datagrams that were named

abbrev pub is_same_datagram : Datagram → Datagram → Bool
is_same_datagram a b = is_same a.source b.source && (is_same a.target b.target && bytes_eq a.bytes b.bytes)

abbrev pub position_after : (first : Bool) → Option ℕ → Option ℕ
position_after true later = Some 0
position_after false later = option_map (λ n. n + 1) later

-- the first place of a datagram
abbrev pub position_of : Datagram → List Datagram → Option ℕ
position_of d [] = None
position_of d (x ∷ xs) = position_after (is_same_datagram x d) (position_of d xs)

-- a datagram that nobody has sent is a stranger's
abbrev pub named_in : (position : Option ℕ) → Datagram → World → World
named_in (Some position) d w = w
named_in None d w = strays_in d w

-- ---- the world after a deed

abbrev pub server_comes : (request : Bool) → (spare : ℕ) → Grant → Maps → Datagram → World → World
server_comes true spare grant maps d w =
    after_request d.source spare (asked_of d.bytes) (table_request (memory_verdict grant) spare d.source d.bytes w.server) w
server_comes false spare grant maps d w =
    after_transfer (table_datagram grant maps d.target.port d.source d.bytes w.server) w

abbrev pub comes : (ours : Bool) → (spare : ℕ) → Grant → Maps → Datagram → World → World
comes true spare grant maps d w = server_comes (d.target.port == w.server.request) spare grant maps d w
comes false spare grant maps d w = client_receives (client_at d.target w) grant d w

abbrev pub ends_here : (found : Bool) → Maps → Datagram → World → World
ends_here found maps d w = ends_if (wanted_of (d.target.host == w.home.host) d w) found maps d w

abbrev pub after_deed : Deed → Grant → Maps → World → World
after_deed (starts e operation) grant maps w = begins e operation w
after_deed (receives d spare) grant maps w =
    comes (d.target.host == w.home.host) spare grant maps d (named_in (position_of d w.net) d w)
after_deed (client_waits_long e) grant maps w = client_waits (client_at e w) e w
after_deed (server_waits_long port) grant maps w = after_transfer (table_timeout port w.server) w
after_deed loads grant maps w = restarts w
after_deed (ends_in_keep d found) grant maps w = ends_here found maps d (named_in (position_of d w.net) d w)

abbrev pub trace_from : List Member → World → World
trace_from [] w = w
trace_from (m ∷ ms) w = trace_from ms (after_deed m.deed m.grant m.maps w)

-- If the deed takes a file, that file has made the collections after it.
abbrev pub DeedMerged : Member → World → Type 0
DeedMerged m w =
    (t : Taken) → (after_deed m.deed m.grant m.maps w).taken ≡ w.taken ++ t ∷ [] →
    IsMerged t.file w.server.maps (after_deed m.deed m.grant m.maps w).server.maps

abbrev pub AllDeedsMerged : List Member → World → Type 0
AllDeedsMerged [] w = Unit {0}
AllDeedsMerged (m ∷ ms) w = DeedMerged m w × AllDeedsMerged ms (after_deed m.deed m.grant m.maps w)

-- ---- the steps that a trace makes

-- an event at the place of a datagram; one that was not sent enters the network first
abbrev pub at_place : (position : Option ℕ) → Datagram → (event : ℕ → Event) → List Datagram → List Event
at_place (Some position) d event net = event position ∷ []
at_place None d event net = stray d ∷ event (length net) ∷ []

abbrev pub delivery : (position : Option ℕ) → Datagram → (spare : ℕ) → List Datagram → List Event
delivery position d spare net = at_place position d (λ index. deliver index spare) net

abbrev pub events_of : Deed → List Datagram → List Event
events_of (starts e operation) net = begin e operation ∷ []
events_of (receives d spare) net = delivery (position_of d net) d spare net
events_of (client_waits_long e) net = client_times_out e ∷ []
events_of (server_waits_long port) net = server_times_out port ∷ []
events_of loads net = restart ∷ []
events_of (ends_in_keep d found) net = at_place (position_of d net) d (λ index. unknown_keep index found) net

abbrev pub steps_with : Grant → Maps → List Event → List WorldStep
steps_with grant maps [] = []
steps_with grant maps (event ∷ events) = record { event = event; grant = grant; maps = maps } ∷ steps_with grant maps events

abbrev pub member_steps : Member → World → List WorldStep
member_steps m w = steps_with m.grant m.maps (events_of m.deed w.net)

abbrev pub trace_steps : List Member → World → List WorldStep
trace_steps [] w = []
trace_steps (m ∷ ms) w = member_steps m w ++ trace_steps ms (run_from (member_steps m w) w)

-- A trace from an origin whose events may happen, so that each datagram that it names was sent before or is a stranger's,
-- and in which each file that is taken makes the collections after it.
pub record TraceFrom (o : Origin) : Type 0 where
  pub members : List Member
  pub may : AllMayHappen (trace_steps members (first_world o)) (first_world o)
  pub merged : AllDeedsMerged members (first_world o)

-- the world at its end
abbrev pub trace_end : {o : Origin} → TraceFrom o → World
trace_end {o} t = trace_from t.members (first_world o)
