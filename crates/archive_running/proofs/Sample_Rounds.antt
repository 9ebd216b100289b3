-- A run of the archive in rounds: a put of a file with a solution, a restart, and a get of what was taken.
use Rattle.std.proofs.Common.{◌≡◌, ◌≢◌, ℕ, true, List, [], ◌∷◌, ◌++◌, length, Option, None, Some, Ok, is_some, refl, ap, inl, inr, arith}
use Rattle.tftp_packet.specs.declared.endpoint.Endpoint.{Endpoint}
use Rattle.tftp_packet.specs.Packet.{encode, ack, data_block}
use Rattle.tftp_packet.specs.Decode.{decode_bytes}
use Rattle.tftp_packet.specs.Blocks.{block_of}
use Rattle.tftp_ends.specs.Ends.{granted}
use Rattle.tws_file.specs.declared.«ruleset».Ruleset.TheVariants.{Lynx}
use Rattle.tws_best.specs.Best.{Collected}
use Rattle.archive_table.specs.Keeper.{Keeping, keeping}
use Rattle.archive_table.specs.Table.{Merges, all, empty_maps}
use Rattle.archive_client.specs.Client.{Operation, put, get, client_start, is_over, request_out}
use Rattle.archive_wire.specs.declared.limits.TheConstants.{QUIET_TURNS}
use Rattle.archive_wire.specs.Wire.{Entry, waited, Grows, datagram}
use Rattle.archive_server.specs.declared.mode.Mode.{Mode}
use Rattle.archive_server.specs.declared.mode.Mode.TheVariants.{Round}
use Rattle.archive_server.specs.Timers.{timers_after, late_ports, earliest}
use Rattle.archive_server.specs.Turn.{Answers, Server, IsRound, Visited, Walk, KeepsAsked, next_asks, next_admits, next_visit, ready_next, walk_after, noted_or, open_policies}
use Rattle.archive_runs.specs.Run.{Run, RunAnswers, IsRunTurn, run_turn, Runs, begin_opened, Begins, RunsPut}
use Rattle.archive_runs.specs.Run as runs
use Rattle.archive_model.specs.World.{server_endpoint}
use Rattle.archive_theorem.specs.Samples.{sample_file, sample_maps}
use Rattle.archive_theorem.specs.Traces.{Member, starts, loads}
use Rattle.archive_theorem.specs.Headline.{IsOwn, HasOwnPorts}
use Rattle.archive_theorem.proofs.Keeper_Loads.{loads_itself}
use Rattle.archive_model.proofs.Places.{Has-contains}
use Rattle.archive_theorem.proofs.Port_Sample.{own-by}
use Rattle.archive_theorem.proofs.Port_Endpoints.{own-if}
use Rattle.archive_theorem.proofs.Sample_Files.{sample_collected_100, hundred-first}
use Rattle.archive_running.specs.Members.{visit_members, late_members, client_members, does}
use Rattle.archive_running.specs.Archive.{Archive, idle, server_in, after_server, after_begin, after_client_turn, after_restart, LoadsKept, Moves, server_rounds, server_restarts, client_begins, client_turns, Reaches, reported, more, ArchiveRun, world_of, IsByRounds, CanRestart}
use Rattle.archive_running.specs.Calls.{Moment, world_at, then, begun_at, RunTurnsHappen, PutCanHappen}
use Rattle.archive_running.specs.Calls as calls
use Rattle.archive_running.proofs.Sample_Turns.{from_nothing, none-loads, brings_at, a_visit}

-- ---- one round, in which no port times out

abbrev before : Archive → Server
before a = server_in 0 [] open_policies a

abbrev mode : Mode
mode = Round 0 None open_policies

abbrev pub visited : (port : ℕ) → Archive → Answers → Visited
visited port a answers = next_visit (ready_next (Some port) a.server) answers a.server

abbrev pub ended : (port : ℕ) → Archive → Answers → Walk
ended port a answers = walk_after mode (visited port a answers) [] []

abbrev pub after : (port : ℕ) → Archive → Answers → Server
after port a answers =
    record { table = (ended port a answers).server; last = noted_or 0 (Some port); timers = (ended port a answers).timers; policies = open_policies }

abbrev pub calls_of : (port : ℕ) → Archive → Answers → List Entry
calls_of port a answers = waited 0 (earliest []) (Some port) 0 None ∷ ((visited port a answers).calls ++ (ended port a answers).calls)

abbrev pub a_round : (port : ℕ) (a : Archive) (answers : Answers) (now : Option (List Keeping)) →
    Merges (visited port a answers).taken a.server.maps (visited port a answers).server.maps →
    KeepsAsked (next_asks (ready_next (Some port) a.server) answers a.server) a.server.maps (visited port a answers).server.maps a.kept now →
    [] ≡ late_ports mode (visited port a answers).change (timers_after mode (visited port a answers).change []) (visited port a answers).server →
    answers.admitted ≡ next_admits mode (ready_next (Some port) a.server) [] answers.receipt a.server →
    IsRound (before a) (after port a answers) (is_some (visited port a answers).taken) (calls_of port a answers) a.kept now
a_round port a answers now merges keeps late let_in =
    record {
      ready = Some port;
      time = 0;
      settled = None;
      others = (visited port a answers).calls ++ (ended port a answers).calls;
      visits = a_visit mode (ready_next (Some port) a.server) a.server answers a.kept now merges keeps late let_in;
      calls_are = refl;
      last = refl;
      policies = refl;
    }

abbrev pub rounded : (port : ℕ) → Archive → Answers → (now : Option (List Keeping)) → Archive
rounded port a answers now =
    after_server (after port a answers).table (visited port a answers).taken (calls_of port a answers) now a

abbrev pub round_members : (port : ℕ) → Archive → Answers → List Member
round_members port a answers = visit_members a.home.host (ready_next (Some port) a.server) answers a.server ++ late_members []

-- ---- both ends

abbrev pub client : (host : ℕ) → Endpoint
client host = record { host = host; port = 5000 }

abbrev pub port_of : (port : ℕ) → Endpoint
port_of port = record { host = server_endpoint.host; port = port }

abbrev receives_from : Endpoint → (spare : ℕ) → List ℕ → Answers
receives_from from spare bytes =
    record {
      receipt = datagram from bytes;
      admitted = true;
      spare = Some spare;
      verdict = granted;
      grant = all;
      maps = sample_maps 100;
      replies = record { sent = true; closed = true };
    }

abbrev answered : (port : ℕ) → List ℕ → RunAnswers
answered port bytes = record { receipt = datagram (port_of port) bytes; verdict = granted; sent = true }

abbrev pub asking : Operation → Run
asking operation =
    record { client = client_start 5000 server_endpoint operation; port = 5000; left = QUIET_TURNS }

abbrev pub begun : (host : ℕ) → Operation → Archive → Archive
begun host operation a =
    after_begin host operation (asking operation)
    (begin_opened (Some 5000) a.home operation (record { sent = true; closed = true })).calls a

abbrev pub request : (host spare : ℕ) → Operation → Answers
request host spare operation = receives_from (client host) spare (request_out operation (asking operation).client).dgram

abbrev pub client_turned : (host : ℕ) → Run → RunAnswers → Archive → Archive
client_turned host r answers a = after_client_turn host r (run_turn answers r).run (run_turn answers r).calls a

pub begins : (host : ℕ) (operation : Operation) (a : Archive) → host ≢ a.home.host →
    (begin_opened (Some 5000) a.home operation (record { sent = true; closed = true })).result ≡ Ok (asking operation) →
    Moves a (begun host operation a) (does (starts (client host) operation) ∷ [])
begins host operation a away is =
    client_begins a host operation (Some 5000) (record { sent = true; closed = true }) (asking operation) away is

-- ---- the put

abbrev pub hundred : Operation
hundred = put (sample_file 100)

abbrev pub nothing_kept : Option (List Keeping)
nothing_kept = Some []

abbrev pub kept : Option (List Keeping)
kept = Some (keeping Lynx (sample_file 100) true ∷ [])

abbrev pub first : Archive
first = begun 2 hundred (idle from_nothing nothing_kept)

abbrev pub opened : Archive
opened = rounded 6969 first (request 2 4000 hundred) nothing_kept

abbrev pub first_ack : RunAnswers
first_ack = answered 4000 (encode (ack 0))

abbrev pub bound : Archive
bound = client_turned 2 (asking hundred) first_ack opened

abbrev pub block : Answers
block = receives_from (client 2) 0 (encode (data_block 1 (sample_file 100)))

abbrev taken : Archive
taken = rounded 4000 bound block kept

abbrev pub sending : Run
sending = (run_turn first_ack (asking hundred)).run

abbrev last_ack : RunAnswers
last_ack = answered 4000 (encode (ack 1))

abbrev pub acked : Archive
acked = client_turned 2 sending last_ack taken

opens_put : Moves first opened (round_members 6969 first (request 2 4000 hundred))
unfolding encode decode_bytes block_of
opens_put =
    let answers = request 2 4000 hundred in
    server_rounds first 0 [] open_policies (after 6969 first answers) _ (calls_of 6969 first answers) nothing_kept
    (a_round 6969 first answers nothing_kept refl refl refl refl)
    (brings_at server_endpoint.host (calls_of 6969 first answers) first _ 0 refl refl)

binds_put : Moves opened bound (client_members first_ack 2 (asking hundred))
unfolding encode decode_bytes block_of
binds_put =
    let calls = (run_turn first_ack (asking hundred)).calls in
    client_turns opened 2 (asking hundred) sending calls (record { answers = first_ack; run = refl; calls_are = refl }) (λ e. cc) refl
    (brings_at 2 calls opened _ 1 refl refl)

pub changes : (sample_maps 100).lynx ≢ empty_maps.lynx
changes e = let entries : (sample_maps 100).lynx.entries ≡ [] = ap (λ (c : Collected). c.entries) e in absurd cc

takes : Moves bound taken (round_members 4000 bound block)
unfolding encode decode_bytes block_of
takes =
    server_rounds bound 0 [] open_policies (after 4000 bound block) _ (calls_of 4000 bound block) kept
    (a_round 4000 bound block kept hundred-first (inl (refl, inr (changes, refl))) refl refl)
    (brings_at server_endpoint.host (calls_of 4000 bound block) bound _ 2 refl refl)

ends_put : Moves taken acked (client_members last_ack 2 sending)
unfolding encode decode_bytes block_of
ends_put =
    let calls = (run_turn last_ack sending).calls in
    client_turns taken 2 sending (run_turn last_ack sending).run calls
    (record { answers = last_ack; run = refl; calls_are = refl }) (λ e. cc) refl
    (brings_at 2 calls taken _ 3 refl refl)

abbrev pub put_members : List Member
put_members =
    [] ++ (does (starts (client 2) hundred) ∷ []) ++ round_members 6969 first (request 2 4000 hundred) ++ client_members first_ack 2 (asking hundred)
    ++ round_members 4000 bound block ++ client_members last_ack 2 sending

-- until the block is sent
abbrev pub bound_members : List Member
bound_members =
    [] ++ (does (starts (client 2) hundred) ∷ []) ++ round_members 6969 first (request 2 4000 hundred) ++ client_members first_ack 2 (asking hundred)

pub bound-reaches : Reaches from_nothing bound bound_members
unfolding encode decode_bytes block_of
bound-reaches =
    let begins_put = begins 2 hundred (idle from_nothing nothing_kept) (λ e. cc) refl in
    more (more (more (reported [] none-loads) begins_put) opens_put) binds_put

pub put-reaches : Reaches from_nothing acked put_members
unfolding encode decode_bytes block_of
put-reaches = more (more bound-reaches takes) ends_put

-- ---- the put as a whole call

abbrev begin_calls : List Entry
begin_calls = (begin_opened (Some 5000) server_endpoint hundred (record { sent = true; closed = true })).calls

abbrev first_calls : List Entry
first_calls = (run_turn first_ack (asking hundred)).calls

abbrev last_calls : List Entry
last_calls = (run_turn last_ack sending).calls

abbrev pub over : Run
over = (run_turn last_ack sending).run

same_some : {A : Type 0} (x y : A) → Some x ≡ Some y → y ≡ x
same_some x y e = cc

grows-by : (old added : List Entry) → Grows (Some old) (Some (old ++ added)) added
grows-by old added = record { reported = λ log is. same_some (old ++ added) log is }

put_runs : Runs IsRunTurn is_over 2 (asking hundred) over ([] ++ first_calls ++ last_calls)
unfolding encode decode_bytes block_of
put_runs =
    runs.more
    (runs.more (runs.none (asking hundred)) refl (record { answers = first_ack; run = refl; calls_are = refl }))
    refl (record { answers = last_ack; run = refl; calls_are = refl })

abbrev put_begins : Begins server_endpoint hundred (Ok (asking hundred)) (Some []) (Some begin_calls)
put_begins =
    record { port = Some 5000; replies = record { sent = true; closed = true }; result_is = refl; grows = grows-by [] begin_calls }

put_call : RunsPut server_endpoint (sample_file 100) 2 (Ok (length (sample_file 100))) (Some [])
    (Some (begin_calls ++ ([] ++ first_calls ++ last_calls)))
unfolding encode decode_bytes block_of
put_call =
    record {
      begun = Ok (asking hundred);
      mid = Some begin_calls;
      begins = put_begins;
      ends = record {
        last = over;
        made = record {
          calls = [] ++ first_calls ++ last_calls;
          runs = record { made = 2; few = omega arith; runs = put_runs; ends = inl refl };
          grows = grows-by begin_calls ([] ++ first_calls ++ last_calls);
        };
        result_is = refl;
      };
    }

abbrev at_first : Moment
at_first = record { archive = idle from_nothing nothing_kept; members = [] }

abbrev at_begun : Moment
at_begun = begun_at server_endpoint 2 hundred (asking hundred) put_begins at_first

abbrev at_opened : Moment
at_opened = then opened (round_members 6969 first (request 2 4000 hundred)) at_begun

abbrev at_bound : Moment
at_bound = then bound (client_members first_ack 2 (asking hundred)) at_opened

abbrev at_taken : Moment
at_taken = then taken (round_members 4000 bound block) at_bound

abbrev at_acked : Moment
at_acked = then acked (client_members last_ack 2 sending) at_taken

put_turns : RunTurnsHappen 2 put_runs at_begun at_acked
unfolding encode decode_bytes block_of put_runs
put_turns =
    record {
      moment = at_taken;
      before = record {
        moment = at_opened;
        before = calls.others (calls.still at_begun) opens_put refl;
        brings = brings_at 2 first_calls opened _ 1 refl refl;
        others = calls.others (calls.still at_bound) takes refl;
      };
      brings = brings_at 2 last_calls taken _ 3 refl refl;
      others = calls.still at_acked;
    }

put_owns : IsOwn (world_at from_nothing at_acked) (client 2)
unfolding encode decode_bytes block_of
put_owns = own-if (world_at from_nothing at_acked) (client 2) refl

pub put-can : PutCanHappen (sample_file 100)
unfolding encode decode_bytes block_of put_call
put-can =
    record {
      host = 2;
      away = λ e. cc;
      turns = 2;
      len = length (sample_file 100);
      before = [];
      after = begin_calls ++ ([] ++ first_calls ++ last_calls);
      call = put_call;
      first = at_first;
      last = at_acked;
      reached = reported [] none-loads;
      happens = put_turns;
      run = asking hundred;
      has_begun = refl;
      own = put_owns;
    }

-- ---- the restart

loaded : LoadsKept kept kept (sample_maps 100) (sample_maps 100)
loaded =
    (λ rules. refl, (Some (sample_file 100), refl, loads_itself Lynx (sample_maps 100).lynx sample_collected_100 refl), (None, refl, refl))

abbrev restarted : Archive
restarted = after_restart (sample_maps 100) kept acked

restarts : Moves acked restarted (does loads ∷ [])
unfolding encode decode_bytes block_of
restarts = server_restarts acked (sample_maps 100) kept loaded

-- ---- the get

abbrev pub lynx : Operation
lynx = get Lynx

abbrev second : Archive
second = begun 3 lynx restarted

abbrev served : Archive
served = rounded 6969 second (request 3 4001 lynx) kept

abbrev whole : RunAnswers
whole = answered 4001 (encode (data_block 1 (sample_file 100)))

abbrev fetched : Archive
fetched = client_turned 3 (asking lynx) whole served

opens_get : Moves second served (round_members 6969 second (request 3 4001 lynx))
unfolding encode decode_bytes block_of
opens_get =
    let answers = request 3 4001 lynx in
    server_rounds second 0 [] open_policies (after 6969 second answers) _ (calls_of 6969 second answers) kept (a_round 6969 second answers kept refl refl refl refl)
    (brings_at server_endpoint.host (calls_of 6969 second answers) second _ 4 refl refl)

gets : Moves served fetched (client_members whole 3 (asking lynx))
unfolding encode decode_bytes block_of
gets =
    let calls = (run_turn whole (asking lynx)).calls in
    client_turns served 3 (asking lynx) (run_turn whole (asking lynx)).run calls (record { answers = whole; run = refl; calls_are = refl }) (λ e. cc) refl
    (brings_at 3 calls served _ 5 refl refl)

abbrev all_members : List Member
all_members =
    put_members ++ (does loads ∷ []) ++ (does (starts (client 3) lynx) ∷ []) ++ round_members 6969 second (request 3 4001 lynx)
    ++ client_members whole 3 (asking lynx)

reaches : Reaches from_nothing fetched all_members
unfolding encode decode_bytes block_of
reaches =
    let get_begins = begins 3 lynx restarted (λ e. cc) refl in
    more (more (more (more put-reaches restarts) get_begins) opens_get) gets

abbrev whole_run : ArchiveRun from_nothing
whole_run = record { archive = fetched; members = all_members; reaches = reaches }

own : HasOwnPorts (world_of whole_run)
unfolding encode decode_bytes block_of
own = own-by (world_of whole_run) refl refl refl

-- each of its moves is a round, or not the server's
by_rounds : IsByRounds reaches
unfolding encode decode_bytes block_of reaches put-reaches bound-reaches begins opens_put binds_put takes ends_put restarts opens_get gets
by_rounds = (((((((((tt, tt), tt), tt), tt), tt), tt), tt), tt), tt)

pub serves-on : CanRestart (sample_file 100)
unfolding encode decode_bytes block_of
serves-on =
    record {
      run = whole_run;
      rounds = by_rounds;
      restarts = Has-contains all_members (does loads) (record { position = 5; is = refl });
      own = own;
      putter = client 2;
      sent = ((run_turn last_ack sending).run.client, refl, refl);
      taken = refl;
      getter = client 3;
      got = ((run_turn whole (asking lynx)).run.client, refl, refl);
    }
