-- The server, its clients and the network between them, and what each event does to them. A step of the server is that
-- of archive_table, a step of a client that of archive_client.
use Rattle.std.specs.Prelude.{◌≡◌, ◌≢◌, ℕ, Bool, true, false, ◌==◌, cond, List, [], ◌∷◌, ◌++◌, map, length, slice_get, Option, None, Some, Result, Ok, Err}
use Rattle.std.proofs.Common.{refl}
use Rattle.std.specs.Map.{lookup, set_value}
use Rattle.tftp_packet.specs.declared.endpoint.Endpoint.{Endpoint}
use Rattle.tftp_packet.specs.declared.out.Out.{Out}
use Rattle.tftp_packet.specs.declared.packet_fault.PacketFault.{PacketFault}
use Rattle.tftp_packet.specs.Packet.{Packet, read, write, data_block, ack, error}
use Rattle.tftp_packet.specs.Decode.{decode_bytes}
use Rattle.tws_file.specs.declared.«ruleset».Ruleset.{Ruleset}
use Rattle.tws_file.specs.declared.«ruleset».Ruleset.TheVariants.{Lynx, Ms}
use Rattle.tws_best.specs.Best.{IsCollectionOf}
use Rattle.tws_best.proofs.Sets.{no_texts}
use Rattle.archive_table.specs.Table.{Table, Maps, empty_maps, Transfer, Taken, Grant, all, unkept, memory_verdict, is_same, transfer_at, table_request, table_datagram, table_timeout, IsMerged}
use Rattle.tws_file.specs.Names.{ruleset_named}
use Rattle.archive_table.specs.Table as table
use Rattle.archive_client.specs.declared.state.State.{State}
use Rattle.archive_client.specs.declared.state.State.TheVariants as state
use Rattle.archive_client.specs.Client.{Operation, put, get, is_too_long, Client, request_out, client_start, client_datagram, client_timeout, state_of, phase_file}
use Rattle.archive_client.specs.Client as client

-- ---- what a world is

-- a datagram with its source and target
pub record Datagram : Type 0 where
  pub source : Endpoint
  pub target : Endpoint
  pub bytes : List ℕ

-- an operation that has begun
pub record Begun : Type 0 where
  pub client : Endpoint
  pub operation : Operation
  -- how many files the server had taken by then
  pub taken : ℕ

-- what a transfer was opened for
pub data Asked : Type 0 where
  to_write : Asked
  to_read : (rules : Ruleset) → Asked

-- a transfer that the server has opened
pub record Opening : Type 0 where
  pub peer : Endpoint
  pub port : ℕ
  pub asked : Asked
  -- how many files the server had taken by then
  pub taken : ℕ

-- a file that a client has fetched whole
pub record Got : Type 0 where
  pub client : Endpoint
  pub file : List ℕ

-- What has happened, each list in order. It only grows: no event takes anything back.
pub record Past : Type 0 where
  -- where it happened: the server's host, and the port at which it takes requests; this stays
  pub home : Endpoint
  -- all datagrams that were ever sent; none leaves the network
  pub net : List Datagram
  -- the operations that have begun
  pub begun : List Begun
  -- the files that the server has taken, each with its peer
  pub taken : List Taken
  -- those of them whose peers were told that they were not kept: it was not known, and the next start found the collection
  pub recovered : List Taken
  -- the clients that count their files as sent
  pub sent : List Endpoint
  pub got : List Got
  -- the transfers that were opened
  pub opened : List Opening
  -- the strangers' datagrams
  pub strays : List Datagram

-- a list that begins with another
pub record IsPrefix {A : Type 0} (old new : List A) : Type 0 where
  pub rest : List A
  pub is : new ≡ old ++ rest

-- All that has happened by some moment is still there later.
pub record Extends (past later : Past) : Type 0 where
  pub home : later.home ≡ past.home
  pub net : IsPrefix past.net later.net
  pub begun : IsPrefix past.begun later.begun
  pub taken : IsPrefix past.taken later.taken
  pub recovered : IsPrefix past.recovered later.recovered
  pub sent : IsPrefix past.sent later.sent
  pub got : IsPrefix past.got later.got
  pub opened : IsPrefix past.opened later.opened
  pub strays : IsPrefix past.strays later.strays

pub record World : Type 0 where
  pub server : Table
  -- the newest first
  pub clients : List (Endpoint × Client)
  -- `w.taken` is `w.past.taken`, and so are the other lists written
  pub past : Past
  pub open past use *

-- What may happen next. A loss is a datagram that is never delivered.
pub data Event : Type 0 where
  -- an operation begins at an endpoint
  begin : (client : Endpoint) (operation : Operation) → Event
  -- the datagram at this place of the network arrives at its target; any may arrive again, and in any order. If the
  -- target is the server's request port, this spare port is free for a transfer
  deliver : (index spare : ℕ) → Event
  -- a client times out
  client_times_out : (client : Endpoint) → Event
  -- this port of the server times out
  server_times_out : (port : ℕ) → Event
  -- a stranger's datagram enters the network
  stray : (datagram : Datagram) → Event
  -- the server restarts, with the collections that it has kept
  restart : Event
  -- The datagram at this place completes a file, and it is not known whether the collection that it makes is kept. The server
  -- answers that it is not, and ends; the next start finds the new collection, or the one that was kept before.
  unknown_keep : (index : ℕ) (found : Bool) → Event

-- an event, and what the network does not control
pub record WorldStep : Type 0 where
  pub event : Event
  -- what the step is granted: memory, and that a changed collection is kept
  pub grant : Grant
  -- if the step takes a file, the collections after it
  pub maps : Maps

-- ---- the first world

-- The collections of a server are the best over these texts.
pub record AreOver (texts : List (List ℕ)) (maps : Maps) : Type 0 where
  pub lynx : IsCollectionOf Lynx texts maps.lynx
  pub ms : IsCollectionOf Ms texts maps.ms

-- How a run begins: the server's endpoint, which may be any, and the collections that it has, as a real server has those of
-- its folder. They are the best over some texts, such as their own two.
pub record Origin : Type 0 where
  pub home : Endpoint
  pub texts : List (List ℕ)
  pub maps : Maps
  pub over : AreOver texts maps

-- a text that the server had at first, as if it had taken it from itself
abbrev pub given : (home : Endpoint) (text : List ℕ) → Taken
given home text = record { peer = home; file = text }

-- Nothing was sent, and the server has its first collections. Their texts count as the first files taken.
abbrev pub first_world : Origin → World
first_world o =
    record {
      server = record { request = o.home.port; maps = o.maps; live = [] };
      clients = [];
      past = record {
        home = o.home;
        net = [];
        begun = [];
        taken = map (given o.home) o.texts;
        recovered = [];
        sent = [];
        got = [];
        opened = [];
        strays = [];
      };
    }

-- a server that has nothing
abbrev pub empty_origin : (home : Endpoint) → Origin
empty_origin home =
    record {
      home = home;
      texts = [];
      maps = empty_maps;
      over = record { lynx = no_texts Lynx empty_maps.lynx refl refl; ms = no_texts Ms empty_maps.ms refl refl };
    }

-- the server's endpoint in samples and replays
abbrev pub server_endpoint : Endpoint
server_endpoint = record { host = 1; port = 6969 }

-- nothing was sent, and the server there has nothing
abbrev pub start : World
start = first_world (empty_origin server_endpoint)

-- ---- clients by their endpoints

abbrev pub client_at : Endpoint → World → Option Client
client_at e w = lookup (is_same e) w.clients

abbrev pub has_begun : Endpoint → List Begun → Bool
has_begun e [] = false
has_begun e (b ∷ bs) = cond (is_same e b.client) true (has_begun e bs)

-- ---- the world after a step

abbrev pub datagram_of : (host : ℕ) → Out → Datagram
datagram_of host out =
    record { source = record { host = host; port = out.from_port }; target = out.to; bytes = out.dgram }

-- adds to the network what a host sends
abbrev pub net_with : (host : ℕ) → List Datagram → Option Out → List Datagram
net_with host net None = net
net_with host net (Some out) = net ++ datagram_of host out ∷ []

abbrev pub opened_with : (opened : Bool) → Opening → List Opening → List Opening
opened_with true o os = os ++ o ∷ []
opened_with false o os = os

abbrev pub taken_with : Option Taken → List Taken → List Taken
taken_with None ts = ts
taken_with (Some t) ts = ts ++ t ∷ []

-- after the server's answer to a request; a request takes no file
abbrev pub after_request : (peer : Endpoint) (port : ℕ) → Asked → table.TableAnswer → World → World
after_request peer port asked a w =
    record w {
      server = a.server;
      past = record w.past {
        net = net_with w.home.host w.net a.step.out;
        opened = opened_with a.step.opened (record { peer = peer; port = port; asked = asked; taken = length w.taken }) w.opened;
      };
    }

-- after any other answer of the server; only a request opens a transfer
abbrev pub after_transfer : table.TableAnswer → World → World
after_transfer a w =
    record w {
      server = a.server;
      past = record w.past {
        net = net_with w.home.host w.net a.step.out;
        taken = taken_with a.step.taken w.taken;
      };
    }

-- whether a client that was in the first state now counts its file as sent, and likewise as fetched
abbrev pub newly_sent : (was now : State) → Bool
newly_sent state.Running state.Running = false
newly_sent state.Running state.Sent = true
newly_sent state.Running state.Got = false
newly_sent state.Running (state.Failed why) = false
newly_sent state.Sent now = false
newly_sent state.Got now = false
newly_sent (state.Failed why) now = false

abbrev pub newly_got : (was now : State) → Bool
newly_got state.Running state.Running = false
newly_got state.Running state.Sent = false
newly_got state.Running state.Got = true
newly_got state.Running (state.Failed why) = false
newly_got state.Sent now = false
newly_got state.Got now = false
newly_got (state.Failed why) now = false

abbrev pub sent_with : (newly : Bool) → Endpoint → List Endpoint → List Endpoint
sent_with true e es = es ++ e ∷ []
sent_with false e es = es

abbrev pub got_with : (newly : Bool) → Endpoint → Option (List ℕ) → List Got → List Got
got_with true e (Some file) gs = gs ++ record { client = e; file = file } ∷ []
got_with true e None gs = gs
got_with false e file gs = gs

-- after the answer of the client at an endpoint, which was `c` before
abbrev pub after_client : Endpoint → Client → client.ClientAnswer → World → World
after_client e c a w =
    record w {
      clients = set_value (is_same e) w.clients a.client;
      past = record w.past {
        net = net_with e.host w.net a.out;
        sent = sent_with (newly_sent (state_of c) (state_of a.client)) e w.sent;
        got = got_with (newly_got (state_of c) (state_of a.client)) e (phase_file a.client.phase) w.got;
      };
    }

-- ---- the start of an operation

-- a new client that sends its request
abbrev pub begins : Endpoint → Operation → World → World
begins e operation w =
    record w {
      clients = (e, client_start e.port w.home operation) ∷ w.clients;
      past = record w.past {
        net = net_with e.host w.net (Some (request_out operation (client_start e.port w.home operation)));
        begun = w.begun ++ record { client = e; operation = operation; taken = length w.taken } ∷ [];
      };
    }

-- No operation begins on the server's host, and none with a file that is too long.
abbrev pub begins_unless : (ours long : Bool) → Endpoint → Operation → World → World
begins_unless true long e operation w = w
begins_unless false true e operation w = w
begins_unless false false e operation w = begins e operation w

-- ---- a delivery

-- what a request to read this name asks for; for an unknown name no transfer is opened
abbrev pub asked_named : Option Ruleset → Asked
asked_named (Some rules) = to_read rules
asked_named None = to_write

-- what a request asks for; no other packet opens a transfer
abbrev pub asked_packet : Packet → Asked
asked_packet (read name mode) = asked_named (ruleset_named name)
asked_packet (write name mode) = to_write
asked_packet (data_block n body) = to_write
asked_packet (ack n) = to_write
asked_packet (error code text) = to_write

abbrev pub asked_decoded : Result Packet PacketFault → Asked
asked_decoded (Ok packet) = asked_packet packet
asked_decoded (Err e) = to_write

abbrev pub asked_of : (bytes : List ℕ) → Asked
asked_of bytes = asked_decoded (decode_bytes bytes)

-- The request port is not spare, nor is a port with a transfer.
abbrev pub request_comes : (used : Bool) → Option Transfer → (spare : ℕ) → Grant → Datagram → World → World
request_comes true live spare grant d w = w
request_comes false (Some t) spare grant d w = w
request_comes false None spare grant d w =
    after_request d.source spare (asked_of d.bytes) (table_request (memory_verdict grant) spare d.source d.bytes w.server) w

-- a datagram arrives at the server's host: whether at the request port
abbrev pub server_receives : (request : Bool) → (spare : ℕ) → Grant → Maps → Datagram → World → World
server_receives true spare grant maps d w =
    request_comes (spare == w.server.request) (transfer_at spare w.server) spare grant d w
server_receives false spare grant maps d w =
    after_transfer (table_datagram grant maps d.target.port d.source d.bytes w.server) w

-- a datagram for an endpoint without a client changes nothing
abbrev pub client_receives : Option Client → Grant → Datagram → World → World
client_receives None grant d w = w
client_receives (Some c) grant d w =
    after_client d.target c (client_datagram (memory_verdict grant) d.source d.bytes c) w

-- whether it arrives at the server's host
abbrev pub arrives : (ours : Bool) → (spare : ℕ) → Grant → Maps → Datagram → World → World
arrives true spare grant maps d w = server_receives (d.target.port == w.server.request) spare grant maps d w
arrives false spare grant maps d w = client_receives (client_at d.target w) grant d w

-- a place at which nothing was sent changes nothing
abbrev pub delivers : Option Datagram → (spare : ℕ) → Grant → Maps → World → World
delivers None spare grant maps w = w
delivers (Some d) spare grant maps w = arrives (d.target.host == w.home.host) spare grant maps d w

-- ---- a keep whose outcome is unknown

-- the file that a datagram completes if all is granted: at the request port none
abbrev pub wanted_at : (request : Bool) → Datagram → World → Option Taken
wanted_at true d w = None
wanted_at false d w = (table_datagram all w.server.maps d.target.port d.source d.bytes w.server).step.taken

-- whether it arrives at the server's host
abbrev pub wanted_of : (ours : Bool) → Datagram → World → Option Taken
wanted_of true d w = wanted_at (d.target.port == w.server.request) d w
wanted_of false d w = None

abbrev pub wanted_by : Option Datagram → World → Option Taken
wanted_by None w = None
wanted_by (Some d) w = wanted_of (d.target.host == w.home.host) d w

-- whether the next start finds the collection that the file makes
abbrev pub maps_found : (found : Bool) → (old new : Maps) → Maps
maps_found true old new = new
maps_found false old new = old

abbrev pub taken_if : (found : Bool) → Taken → List Taken → List Taken
taken_if true t ts = ts ++ t ∷ []
taken_if false t ts = ts

-- The server has answered as if the file was not kept, and has started again.
abbrev pub ends : (found : Bool) → Taken → Maps → Datagram → World → World
ends found t maps d w =
    record w {
      server = record { request = w.server.request; maps = maps_found found w.server.maps maps; live = [] };
      past = record w.past {
        net = net_with w.home.host w.net (table_datagram unkept maps d.target.port d.source d.bytes w.server).step.out;
        taken = taken_if found t w.taken;
        recovered = taken_if found t w.recovered;
      };
    }

-- a datagram that completes no file asks for no keep
abbrev pub ends_if : Option Taken → (found : Bool) → Maps → Datagram → World → World
ends_if None found maps d w = w
ends_if (Some t) found maps d w = ends found t maps d w

abbrev pub ends_at : Option Datagram → (found : Bool) → Maps → World → World
ends_at None found maps w = w
ends_at (Some d) found maps w = ends_if (wanted_of (d.target.host == w.home.host) d w) found maps d w

-- ---- the other events

abbrev pub client_waits : Option Client → Endpoint → World → World
client_waits None e w = w
client_waits (Some c) e w = after_client e c (client_timeout c) w

abbrev pub strays_in : Datagram → World → World
strays_in d w =
    record w { past = record w.past { net = w.net ++ d ∷ []; strays = w.strays ++ d ∷ [] } }

-- A stray comes neither from the server's host nor from an endpoint with an operation.
abbrev pub strays_unless : (ours begun : Bool) → Datagram → World → World
strays_unless true begun d w = w
strays_unless false true d w = w
strays_unless false false d w = strays_in d w

-- All transfers are gone. A changed collection was kept before it replaced the old one, so the collections that were
-- kept are the current ones.
abbrev pub restarts : World → World
restarts w = record w { server = record w.server { live = [] } }

-- ---- a run

-- An event that may not happen changes nothing.
abbrev pub event_happens : Event → Grant → Maps → World → World
event_happens (begin e operation) grant maps w =
    begins_unless (e.host == w.home.host) (is_too_long operation) e operation w
event_happens (deliver index spare) grant maps w = delivers (slice_get w.net index) spare grant maps w
event_happens (client_times_out e) grant maps w = client_waits (client_at e w) e w
event_happens (server_times_out port) grant maps w = after_transfer (table_timeout port w.server) w
event_happens (stray d) grant maps w =
    strays_unless (d.source.host == w.home.host) (has_begun d.source w.begun) d w
event_happens restart grant maps w = restarts w
event_happens (unknown_keep index found) grant maps w = ends_at (slice_get w.net index) found maps w

abbrev pub happens : WorldStep → World → World
happens s w = event_happens s.event s.grant s.maps w

abbrev pub run_from : List WorldStep → World → World
run_from [] w = w
run_from (s ∷ steps) w = run_from steps (happens s w)

abbrev pub run : List WorldStep → World
run steps = run_from steps start

-- If the step takes a file, that file has made the collections after it.
abbrev pub HasMerged : WorldStep → World → Type 0
HasMerged s w =
    (t : Taken) → (happens s w).taken ≡ w.taken ++ t ∷ [] → IsMerged t.file w.server.maps (happens s w).server.maps

abbrev pub AllMerged : List WorldStep → World → Type 0
AllMerged [] w = Unit {0}
AllMerged (s ∷ steps) w = HasMerged s w × AllMerged steps (happens s w)

-- a run from an origin, in which each file that is taken makes the collections after it
pub record RunFrom (o : Origin) : Type 0 where
  pub steps : List WorldStep
  pub merged : AllMerged steps (first_world o)

-- the world at its end
abbrev pub last_world : {o : Origin} → RunFrom o → World
last_world {o} r = run_from r.steps (first_world o)

-- the events and grants of these steps; the collections follow from them
abbrev pub asked_by : List WorldStep → List (Event × Grant)
asked_by steps = map (λ (s : WorldStep). (s.event, s.grant)) steps

-- ---- which events may happen

-- no transfer is at the port, and it is not the request port
pub record IsFree (spare : ℕ) (w : World) : Type 0 where
  pub other : spare ≢ w.server.request
  pub free : transfer_at spare w.server ≡ None

-- a datagram was sent, and if it goes to the request port, the spare port is free
pub record MayDeliver (index spare : ℕ) (w : World) : Type 0 where
  pub datagram : Datagram
  pub is : slice_get w.net index ≡ Some datagram
  pub spare_is : datagram.target ≡ record { host = w.home.host; port = w.server.request } → IsFree spare w

-- a datagram was sent that completes a file
pub record MayEnd (index : ℕ) (w : World) : Type 0 where
  pub datagram : Datagram
  pub is : slice_get w.net index ≡ Some datagram
  pub file : Taken
  pub completes : wanted_of (datagram.target.host == w.home.host) datagram w ≡ Some file

-- A time-out of a port without a transfer may happen, and changes nothing.
abbrev pub MayHappen : Event → World → Type 0
MayHappen (begin e operation) w = (e.host ≢ w.home.host) × (is_too_long operation ≡ false)
MayHappen (deliver index spare) w = MayDeliver index spare w
MayHappen (client_times_out e) w = has_begun e w.begun ≡ true
MayHappen (server_times_out port) w = Unit {0}
MayHappen (stray d) w = (d.source.host ≢ w.home.host) × (has_begun d.source w.begun ≡ false)
MayHappen restart w = Unit {0}
MayHappen (unknown_keep index found) w = MayEnd index w

abbrev pub AllMayHappen : List WorldStep → World → Type 0
AllMayHappen [] w = Unit {0}
AllMayHappen (s ∷ steps) w = MayHappen s.event w × AllMayHappen steps (happens s w)
