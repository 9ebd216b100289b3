-- A put of a file without bytes, and a get from a server that has nothing, in an archive whose server makes turns.
use Rattle.std.proofs.Common.{◌≡◌, ℕ, zero, suc, true, List, [], ◌∷◌, ◌++◌, slice_get, Option, Some, Ok, is_some, refl, ap, sym, ◌∙◌, inl}
use Rattle.tftp_packet.specs.declared.endpoint.Endpoint.{Endpoint}
use Rattle.tftp_packet.specs.Packet.{encode, ack, data_block}
use Rattle.tftp_packet.specs.Decode.{decode_bytes}
use Rattle.tftp_packet.specs.Blocks.{block_of}
use Rattle.tftp_ends.specs.Ends.{granted}
use Rattle.tws_file.specs.declared.«ruleset».Ruleset.TheVariants.{Lynx}
use Rattle.tws_best.specs.Best.{collection_text}
use Rattle.archive_table.specs.Keeper.{Keeping}
use Rattle.archive_table.specs.Table.{Table, Merges, all, port_above, empty_maps}
use Rattle.archive_table.proofs.Grants.{keeps_all}
use Rattle.archive_client.specs.declared.state.State.TheVariants as state
use Rattle.archive_client.specs.Client.{Operation, put, get, client_start, request_out, state_of, file_or_client}
use Rattle.archive_wire.specs.declared.limits.TheConstants.{QUIET_TURNS}
use Rattle.archive_wire.specs.Wire.{Entry, Replies, datagram}
use Rattle.archive_server.specs.declared.mode.Mode.{Mode}
use Rattle.archive_server.specs.declared.mode.Mode.TheVariants.{Turn}
use Rattle.archive_server.specs.declared.next.Next.{Next}
use Rattle.archive_server.specs.Timers.{timers_after, late_ports}
use Rattle.archive_server.specs.Turn.{IsTurnIn, Answers, Server, IsTurn, Visited, KeepsAsked, next_asks, next_admits, next_visit, turn_next, walk_after, noted, open_policies}
use Rattle.archive_runs.specs.Run.{Run, RunAnswers, run_turn, begin_opened}
use Rattle.archive_model.specs.World.{Datagram, Origin, empty_origin, server_endpoint}
use Rattle.archive_theorem.specs.Traces.{Member, starts}
use Rattle.archive_theorem.specs.Headline.{HasOwnPorts}
use Rattle.archive_model.specs.Restarts.{LoadsAs}
use Rattle.archive_model.proofs.Places.{Has-contains, Has-from_contains}
use Rattle.archive_theorem.proofs.Port_Sample.{own-by}
use Rattle.archive_theorem.proofs.Sample_Put.{empty_merged}
use Rattle.archive_running.specs.Members.{come_to, visit_members, late_members, client_members, does}
use Rattle.archive_running.specs.Archive.{Archive, idle, Brings, server_in, after_server, after_begin, after_client_turn, Moves, server_turns, client_begins, client_turns, reported, more, ArchiveRun, world_of, CanReach}

-- ---- one turn

one_there : (x d : Datagram) (i : ℕ) → slice_get (x ∷ []) i ≡ Some d → d ≡ x
one_there x d zero e = cc
one_there x d (suc i) e = absurd cc

-- one datagram arrives, which is at this place of those that were sent
pub brings_at : (host : ℕ) (calls : List Entry) (a : Archive) (x : Datagram) (n : ℕ) → come_to host calls ≡ x ∷ [] →
    slice_get a.net n ≡ Some x → Brings host calls a
brings_at host calls a x n come at d among =
    let has = Has-from_contains (come_to host calls) d among in
    let same = one_there x d has.position (ap (λ (l : List Datagram). slice_get l has.position) (sym come) ∙ has.is) in
    inl (Has-contains a.net d (record { position = n; is = at ∙ ap Some (sym same) }))

-- one pass in which no port times out
abbrev pub a_visit : (mode : Mode) (next : Next) (table : Table) (answers : Answers) (kept now : Option (List Keeping)) →
    Merges (next_visit next answers table).taken table.maps (next_visit next answers table).server.maps →
    KeepsAsked (next_asks next answers table) table.maps (next_visit next answers table).server.maps kept now →
    [] ≡ late_ports mode (next_visit next answers table).change (timers_after mode (next_visit next answers table).change [])
    (next_visit next answers table).server →
    answers.admitted ≡ next_admits mode next [] answers.receipt table →
    IsTurnIn mode next table (walk_after mode (next_visit next answers table) [] []).server []
    (walk_after mode (next_visit next answers table) [] []).timers (is_some (next_visit next answers table).taken)
    ((next_visit next answers table).calls ++ (walk_after mode (next_visit next answers table) [] []).calls) kept now
a_visit mode next table answers kept now merges keeps late let_in =
    record {
      answers = answers;
      admitted = let_in;
      late = [];
      late_are = late;
      table = refl;
      timers_are = refl;
      calls_are = refl;
      taken_is = refl;
      merges = merges;
      keeps = keeps;
    }

-- a server that has visited the request port last, and in whose turn no port times out
abbrev before : Archive → Server
before a = server_in 0 [] open_policies a

-- its visit, with these answers
abbrev visited : Archive → Answers → Visited
visited a answers = next_visit (turn_next (before a)) answers a.server

-- the server after that turn
abbrev after : Archive → Answers → Server
after a answers =
    record {
      table = (walk_after Turn (visited a answers) [] []).server;
      last = noted (port_above 0 a.server);
      timers = (walk_after Turn (visited a answers) [] []).timers;
      policies = open_policies;
    }

-- the calls of the wire in it
abbrev calls_of : Archive → Answers → List Entry
calls_of a answers = (visited a answers).calls ++ (walk_after Turn (visited a answers) [] []).calls

-- a server that has nothing, at the endpoint of the samples
abbrev pub from_nothing : Origin
from_nothing = empty_origin server_endpoint

-- a keeper with an empty log has its collections
pub none-loads : LoadsAs [] from_nothing.maps
none-loads = record { lynx = refl; ms = refl }

-- a keeper with an empty log
abbrev nothing_kept : Option (List Keeping)
nothing_kept = Some []

-- the visit is a turn, if no port times out after it
abbrev a_turn : (a : Archive) (answers : Answers) → Merges (visited a answers).taken a.server.maps (visited a answers).server.maps →
    KeepsAsked (next_asks (turn_next (before a)) answers a.server) a.server.maps (visited a answers).server.maps nothing_kept nothing_kept →
    [] ≡ late_ports Turn (visited a answers).change (timers_after Turn (visited a answers).change []) (visited a answers).server →
    answers.admitted ≡ next_admits Turn (turn_next (before a)) [] answers.receipt a.server →
    IsTurn (before a) (after a answers) (is_some (visited a answers).taken) (calls_of a answers) nothing_kept nothing_kept
a_turn a answers merges keeps late let_in =
    record {
      visits = a_visit Turn (turn_next (before a)) a.server answers nothing_kept nothing_kept merges keeps late let_in;
      last = refl;
      policies = refl;
    }

-- the archive after that turn
abbrev turned : Archive → Answers → Archive
turned a answers =
    after_server (after a answers).table (visited a answers).taken (calls_of a answers) nothing_kept a

-- the members of that turn
abbrev server_members : Archive → Answers → List Member
server_members a answers = visit_members a.home.host (turn_next (before a)) answers a.server ++ late_members []

-- ---- both ends

-- the client's endpoint
abbrev here : Endpoint
here = record { host = 2; port = 5000 }

-- the port at which the server opens a transfer for it
abbrev there : Endpoint
there = record { host = server_endpoint.host; port = 4000 }

-- each send and each close succeeds
abbrev done : Replies
done = record { sent = true; closed = true }

-- a visit that receives these bytes, with everything granted
abbrev receives_from : Endpoint → List ℕ → Answers
receives_from from bytes =
    record {
      receipt = datagram from bytes;
      admitted = true;
      spare = Some 4000;
      verdict = granted;
      grant = all;
      maps = empty_maps;
      replies = done;
    }

-- a turn of the client that receives these bytes from the transfer's port
abbrev answered : List ℕ → RunAnswers
answered bytes = record { receipt = datagram there bytes; verdict = granted; sent = true }

-- ---- an operation begins, and the server opens a transfer for it

-- the client after its request was sent
abbrev asking : Operation → Run
asking operation =
    record { client = client_start 5000 server_endpoint operation; port = 5000; left = QUIET_TURNS }

-- the archive after that
abbrev begun : Operation → Archive
begun operation =
    after_begin 2 operation (asking operation) (begin_opened (Some 5000) server_endpoint operation done).calls (idle from_nothing nothing_kept)

abbrev begin_members : Operation → List Member
begin_members operation = does (starts here operation) ∷ []

-- the visit that receives the request
abbrev request : Operation → Answers
request operation = receives_from here (request_out operation (asking operation).client).dgram

-- the archive after the server has opened a transfer
abbrev opened : Operation → Archive
opened operation = turned (begun operation) (request operation)

abbrev opened_members : Operation → List Member
opened_members operation =
    [] ++ begin_members operation ++ server_members (begun operation) (request operation)

-- ---- the client receives the answer

-- the client after the first answer
abbrev bound : Operation → List ℕ → Run
bound operation bytes = (run_turn (answered bytes) (asking operation)).run

-- the archive after that
abbrev received : Operation → List ℕ → Archive
received operation bytes =
    after_client_turn 2 (asking operation) (bound operation bytes) (run_turn (answered bytes) (asking operation)).calls (opened operation)

abbrev received_members : Operation → List ℕ → List Member
received_members operation bytes =
    opened_members operation ++ client_members (answered bytes) 2 (asking operation)

-- ---- a put

-- a put of a file without bytes
abbrev empty : Operation
empty = put []

-- the ACK of its request
abbrev first_ack : List ℕ
first_ack = encode (ack 0)

-- the ACK of its only block
abbrev last_ack : List ℕ
last_ack = encode (ack 1)

-- the visit that receives that block
abbrev last_block : Answers
last_block = receives_from here (encode (data_block 1 []))

-- the archive after the file is taken
abbrev taken : Archive
taken = turned (received empty first_ack) last_block

-- the client after its last ACK
abbrev over : Run
over = (run_turn (answered last_ack) (bound empty first_ack)).run

-- the archive after that
abbrev acked : Archive
acked =
    after_client_turn 2 (bound empty first_ack) over (run_turn (answered last_ack) (bound empty first_ack)).calls taken

-- the put begins
begins_put : Moves (idle from_nothing nothing_kept) (begun empty) (begin_members empty)
begins_put = client_begins (idle from_nothing nothing_kept) 2 empty (Some 5000) done (asking empty) (λ e. cc) refl

-- the server opens a transfer for it
opens_put : Moves (begun empty) (opened empty) (server_members (begun empty) (request empty))
unfolding encode decode_bytes block_of
opens_put =
    let a = begun empty in
    let answers = request empty in
    server_turns a 0 [] open_policies (after a answers) _ (calls_of a answers) nothing_kept (a_turn a answers refl refl refl refl)
    (brings_at server_endpoint.host (calls_of a answers) a _ 0 refl refl)

-- the client binds to the port and sends its block
binds_put : Moves (opened empty) (received empty first_ack) (client_members (answered first_ack) 2 (asking empty))
unfolding encode decode_bytes block_of
binds_put =
    let calls = (run_turn (answered first_ack) (asking empty)).calls in
    client_turns (opened empty) 2 (asking empty) (bound empty first_ack) calls
    (record { answers = answered first_ack; run = refl; calls_are = refl }) (λ e. cc) refl
    (brings_at 2 calls (opened empty) _ 1 refl refl)

-- the server takes the file
takes : Moves (received empty first_ack) taken (server_members (received empty first_ack) last_block)
unfolding encode decode_bytes block_of
takes =
    let a = received empty first_ack in
    server_turns a 0 [] open_policies (after a last_block) _ (calls_of a last_block) nothing_kept
    (a_turn a last_block empty_merged
    (keeps_all all (Some (record { peer = here; file = [] })) empty_maps empty_maps nothing_kept nothing_kept refl refl refl) refl refl)
    (brings_at server_endpoint.host (calls_of a last_block) a _ 2 refl refl)

-- the client counts the file as sent
ends_put : Moves taken acked (client_members (answered last_ack) 2 (bound empty first_ack))
unfolding encode decode_bytes block_of
ends_put =
    let calls = (run_turn (answered last_ack) (bound empty first_ack)).calls in
    client_turns taken 2 (bound empty first_ack) over calls (record { answers = answered last_ack; run = refl; calls_are = refl }) (λ e. cc) refl
    (brings_at 2 calls taken _ 3 refl refl)

-- the members of these moves
abbrev put_members : List Member
put_members =
    received_members empty first_ack ++ server_members (received empty first_ack) last_block ++ client_members (answered last_ack) 2 (bound empty first_ack)

-- so the archive has made this run
abbrev put_run : ArchiveRun from_nothing
put_run =
    record {
      archive = acked;
      members = put_members;
      reaches = more (more (more (more (more (reported [] none-loads) begins_put) opens_put) binds_put) takes) ends_put;
    }

-- no port is reused
put_own : HasOwnPorts (world_of put_run)
unfolding encode decode_bytes block_of
put_own = own-by (world_of put_run) refl refl refl

-- so an archive can reach a client that counts its file as sent
pub sends : CanReach (λ c. state_of c ≡ state.Sent)
unfolding encode decode_bytes block_of
sends =
    record {
      run = put_run;
      own = put_own;
      endpoint = here;
      client = over.client;
      there = refl;
      holds = refl;
    }

-- ---- a get

-- a get of the Lynx collection
abbrev lynx : Operation
lynx = get Lynx

-- the text of a collection without solutions
abbrev empty_text : List ℕ
empty_text = collection_text empty_maps.lynx

-- the DATA that has all of it
abbrev whole : List ℕ
whole = encode (data_block 1 empty_text)

-- the get begins
begins_get : Moves (idle from_nothing nothing_kept) (begun lynx) (begin_members lynx)
begins_get = client_begins (idle from_nothing nothing_kept) 2 lynx (Some 5000) done (asking lynx) (λ e. cc) refl

-- the server opens a transfer for it
opens_get : Moves (begun lynx) (opened lynx) (server_members (begun lynx) (request lynx))
unfolding encode decode_bytes block_of
opens_get =
    let a = begun lynx in
    let answers = request lynx in
    server_turns a 0 [] open_policies (after a answers) _ (calls_of a answers) nothing_kept (a_turn a answers refl refl refl refl)
    (brings_at server_endpoint.host (calls_of a answers) a _ 0 refl refl)

-- the client receives the whole file
gets : Moves (opened lynx) (received lynx whole) (client_members (answered whole) 2 (asking lynx))
unfolding encode decode_bytes block_of
gets =
    let calls = (run_turn (answered whole) (asking lynx)).calls in
    client_turns (opened lynx) 2 (asking lynx) (bound lynx whole) calls (record { answers = answered whole; run = refl; calls_are = refl }) (λ e. cc) refl
    (brings_at 2 calls (opened lynx) _ 1 refl refl)

-- so the archive has made this run
abbrev get_run : ArchiveRun from_nothing
get_run =
    record {
      archive = received lynx whole;
      members = received_members lynx whole;
      reaches = more (more (more (reported [] none-loads) begins_get) opens_get) gets;
    }

-- no port is reused
get_own : HasOwnPorts (world_of get_run)
unfolding encode decode_bytes block_of
get_own = own-by (world_of get_run) refl refl refl

-- so an archive can reach a client that has fetched a file
pub fetches : CanReach (λ c. (file : List ℕ) × (file_or_client c ≡ Ok file))
unfolding encode decode_bytes block_of
fetches =
    record {
      run = get_run;
      own = get_own;
      endpoint = here;
      client = (bound lynx whole).client;
      there = refl;
      holds = (empty_text, refl);
    }
