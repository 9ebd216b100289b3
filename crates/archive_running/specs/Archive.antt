-- The running archive: a server and its clients, each over a wire with a ghost log of its calls, and the network that
-- joins these wires. Each move is taken at the moment at which its `receive` returns, and one that receives nothing at
-- its first call; so what a move receives was sent by earlier moves.
use Rattle.std.specs.Prelude.{◌≡◌, ◌≢◌, ◌⊎◌, ℕ, Bool, List, [], ◌∷◌, ◌++◌, map, length, Contains, Option, None, Some, Ok}
use Rattle.std.specs.Map.{lookup, set_value}
use Rattle.std.specs.Io.KnownBytes.{Appends}
use Rattle.tftp_packet.specs.declared.endpoint.Endpoint.{Endpoint}
use Rattle.tftp_packet.specs.declared.cause.Cause.TheVariants.{Refused}
use Rattle.tws_file.specs.declared.«ruleset».Ruleset.TheVariants.{Lynx, Ms}
use Rattle.archive_table.specs.Table.{Table, Maps, Taken, all, unkept, is_same, table_datagram, IsMerged}
use Rattle.archive_table.specs.Keeper.{Keeping, LoadedFrom, KeepsMaps}
use Rattle.archive_client.specs.declared.state.State.TheVariants as state
use Rattle.archive_client.specs.Client.{Client, Operation, state_of, file_or_client}
use Rattle.archive_wire.specs.Wire.{Entry, Replies, datagram}
use Rattle.archive_server.specs.declared.timer.Timer.{Timer}
use Rattle.archive_server.specs.declared.mode.Mode.{Mode}
use Rattle.archive_server.specs.declared.next.Next.TheVariants.{Transfer}
use Rattle.archive_server.specs.declared.policies.Policies.{Policies}
use Rattle.archive_server.specs.Turn.{Server, IsTurnIn, IsTurn, IsRound, next_visit, turn_next, ready_next}
use Rattle.archive_runs.specs.Run.{Run, begin_opened, IsRunTurn}
use Rattle.archive_runs.specs.declared.pace.Pace.{Pace}
use Rattle.archive_runs.specs.Rounds.{IsRunRound}
use Rattle.archive_model.specs.World.{Datagram, Begun, World, Origin, first_world, empty_origin, server_endpoint, given, taken_with}
use Rattle.archive_theorem.specs.Headline.{HasOwnPorts, IsFinishedGet}
use Rattle.archive_model.specs.Restarts.{LoadsAs, AreAlike}
use Rattle.archive_theorem.specs.Traces.{starts, loads, Member, trace_from}
use Rattle.archive_running.specs.Members.{arrival, sent_in_calls, come_to, does, others_of, end_member, visit_members, late_members, client_members, round_members}

-- ---- what runs

pub record Archive : Type 0 where
  -- where it is: the server's host, and the port at which it takes requests; this stays
  pub home : Endpoint
  pub server : Table
  -- each client with its endpoint, the newest first
  pub clients : List (Endpoint × Client)
  -- the operations that have begun, in order, each with how many files had been taken by then
  pub begun : List Begun
  -- the files that the server has taken, in order
  pub taken : List Taken
  -- all that the wires were given to send, in order
  pub net : List Datagram
  -- the keeper's log, if it has one
  pub kept : Option (List Keeping)

-- how it begins: the server of this origin, and no client; the origin's texts count as the first files taken
abbrev pub idle : Origin → (kept : Option (List Keeping)) → Archive
idle o kept =
    record {
      home = o.home;
      server = record { request = o.home.port; maps = o.maps; live = [] };
      clients = [];
      begun = [];
      taken = map (given o.home) o.texts;
      net = [];
      kept = kept;
    }

-- ---- what the network brings

-- A stranger's datagram: its source is not on the server's host, and no operation has begun there.
pub record IsStrangers (d : Datagram) (a : Archive) : Type 0 where
  pub away : d.source.host ≢ a.home.host
  pub unbegun : lookup (is_same d.source) a.clients ≡ None

-- Each datagram that these calls receive on this host was sent to it before, or is a stranger's.
abbrev pub Brings : (host : ℕ) → List Entry → Archive → Type 0
Brings host calls a = (d : Datagram) → Contains (come_to host calls) d → Contains a.net d ⊎ IsStrangers d a

-- ---- the archive after a move

abbrev pub after_server : Table → Option Taken → (calls : List Entry) → (kept : Option (List Keeping)) → Archive → Archive
after_server s took calls kept a =
    record {
      home = a.home;
      server = s;
      clients = a.clients;
      begun = a.begun;
      taken = taken_with took a.taken;
      net = a.net ++ sent_in_calls a.home.host calls;
      kept = kept;
    }

abbrev pub own_endpoint : (host : ℕ) → Run → Endpoint
own_endpoint host r = record { host = host; port = r.port }

abbrev pub after_begin : (host : ℕ) → Operation → Run → (calls : List Entry) → Archive → Archive
after_begin host operation r calls a =
    record {
      home = a.home;
      server = a.server;
      clients = (own_endpoint host r, r.client) ∷ a.clients;
      begun = a.begun ++ record { client = own_endpoint host r; operation = operation; taken = length a.taken } ∷ [];
      taken = a.taken;
      net = a.net ++ sent_in_calls host calls;
      kept = a.kept;
    }

abbrev pub after_client_turn : (host : ℕ) → (old new : Run) → (calls : List Entry) → Archive → Archive
after_client_turn host old new calls a =
    record {
      home = a.home;
      server = a.server;
      clients = set_value (is_same (own_endpoint host old)) a.clients new.client;
      begun = a.begun;
      taken = a.taken;
      net = a.net ++ sent_in_calls host calls;
      kept = a.kept;
    }

abbrev pub after_restart : Maps → (kept : Option (List Keeping)) → Archive → Archive
after_restart maps kept a =
    record {
      home = a.home;
      server = record { request = a.server.request; maps = maps; live = [] };
      clients = a.clients;
      begun = a.begun;
      taken = a.taken;
      net = a.net;
      kept = kept;
    }

-- after a turn or round in which the server could not know whether it has kept this file, which it has, and the next start
abbrev pub after_end : Taken → Maps → (calls : List Entry) → (kept : Option (List Keeping)) → Archive → Archive
after_end t maps calls kept a =
    record {
      home = a.home;
      server = record { request = a.server.request; maps = maps; live = [] };
      clients = a.clients;
      begun = a.begun;
      taken = a.taken ++ t ∷ [];
      net = a.net ++ sent_in_calls a.home.host calls;
      kept = kept;
    }

-- What a restart loads: what the keeper has. This may be a new keeper, which has the same for each ruleset. For a
-- keeper without a log it is a premise that it has the current collections.
abbrev pub LoadsKept : (before now : Option (List Keeping)) → (old new : Maps) → Type 0
LoadsKept None now old new = (now ≡ None) × (new ≡ old)
LoadsKept (Some log) None old new = ⊥
LoadsKept (Some log) (Some reported) old new =
    AreAlike log reported × LoadedFrom Lynx (Some reported) new.lynx × LoadedFrom Ms (Some reported) new.ms

-- The same where a keep of this file had its effect though the server could not know it: what is loaded has the file.
abbrev pub LoadsWith : (file : List ℕ) → (before now : Option (List Keeping)) → (old new : Maps) → Type 0
LoadsWith file None now old new = (now ≡ None) × IsMerged file old new
LoadsWith file (Some log) None old new = ⊥
LoadsWith file (Some log) (Some reported) old new =
    (maps : Maps) × (mid : List Keeping) × IsMerged file old maps × KeepsMaps old maps (Some log) (Some mid) × AreAlike mid reported
    × LoadedFrom Lynx (Some reported) new.lynx × LoadedFrom Ms (Some reported) new.ms

-- ---- how it moves

-- the archive's server, with the port that it visited last, its timers, and how many transfers one host may have
abbrev pub server_in : (last : ℕ) (timers : List Timer) (policies : Policies) → Archive → Server
server_in last timers policies a = record { table = a.server; last = last; timers = timers; policies = policies }

-- One move: a turn or round of the server or of a client, a begin, or a restart; with its members of the trace. A begin that
-- fails sends nothing and leaves no client, so it is not a move.
pub data Moves : (old new : Archive) → List Member → Type 0 where
  -- the server makes a turn; the port that it visited last, its timers and its limit may be any
  server_turns : (a : Archive) (last : ℕ) (timers : List Timer) (policies : Policies) (new : Server) (took : Bool) (calls : List Entry)
      (now : Option (List Keeping)) (t : IsTurn (server_in last timers policies a) new took calls a.kept now) →
      Brings a.home.host calls a →
      Moves a (after_server new.table (next_visit (turn_next (server_in last timers policies a)) t.visits.answers a.server).taken calls now a)
      (visit_members a.home.host (turn_next (server_in last timers policies a)) t.visits.answers a.server ++ late_members t.visits.late)
  -- the server makes a round
  server_rounds : (a : Archive) (last : ℕ) (timers : List Timer) (policies : Policies) (new : Server) (took : Bool) (calls : List Entry)
      (now : Option (List Keeping)) (t : IsRound (server_in last timers policies a) new took calls a.kept now) →
      Brings a.home.host calls a →
      Moves a (after_server new.table (next_visit (ready_next t.ready a.server) t.visits.answers a.server).taken calls now a)
      (visit_members a.home.host (ready_next t.ready a.server) t.visits.answers a.server ++ late_members t.visits.late)
  server_restarts : (a : Archive) (maps : Maps) (now : Option (List Keeping)) → LoadsKept a.kept now a.server.maps maps →
      Moves a (after_restart maps now a) (does loads ∷ [])
  -- The server makes a turn or round in which it is not told whether a file was kept, answers that it was not, and ends; but it
  -- was, and the next start finds it. If it was not, that is a turn or round, and then a restart.
  server_ends : (a : Archive) (mode : Mode) (port : ℕ) (from : Endpoint) (bytes : List ℕ) (timers left : List Timer) (new : Table) (took : Bool)
      (calls : List Entry) (now later : Option (List Keeping))
      (p : IsTurnIn mode (Transfer port) a.server new timers left took calls a.kept now) (t : Taken) (maps : Maps) →
      p.answers.receipt ≡ datagram from bytes → p.answers.grant ≡ unkept →
      (table_datagram all a.server.maps port from bytes a.server).step.taken ≡ Some t → Brings a.home.host calls a →
      LoadsWith t.file a.kept later a.server.maps maps →
      Moves a (after_end t maps calls later a)
      (late_members (others_of port p.late) ++ end_member (arrival a.home.host port from bytes) maps ∷ [])
  -- an operation begins on another host than the server's
  client_begins : (a : Archive) (host : ℕ) (operation : Operation) (port : Option ℕ) (replies : Replies) (r : Run) →
      host ≢ a.home.host → (begin_opened port a.home operation replies).result ≡ Ok r →
      Moves a (after_begin host operation r (begin_opened port a.home operation replies).calls a)
      (does (starts (own_endpoint host r) operation) ∷ [])
  client_turns : (a : Archive) (host : ℕ) (old new : Run) (calls : List Entry) (t : IsRunTurn old new calls) → host ≢ a.home.host →
      lookup (is_same (own_endpoint host old)) a.clients ≡ Some old.client → Brings host calls a →
      Moves a (after_client_turn host old new calls a) (client_members t.answers host old)
  -- a client makes a round, also one that dallies; when it times out is up to its clock
  client_rounds : (a : Archive) (host : ℕ) (pace : Pace) (old new : Run) (calls : List Entry) (t : IsRunRound pace old new calls) →
      host ≢ a.home.host → lookup (is_same (own_endpoint host old)) a.clients ≡ Some old.client → Brings host calls a →
      Moves a (after_client_turn host old new calls a) (round_members pace t.answers host old)

-- From the server of this origin the archive reaches this state by one move after another, and these are their members. At
-- first a keeper with a ghost log has what is loaded as the origin's collections: their own texts, or any others.
pub data Reaches (o : Origin) : Archive → List Member → Type 0 where
  reported : (log : List Keeping) → LoadsAs log o.maps → Reaches o (idle o (Some log)) []
  unreported : Reaches o (idle o None) []
  more : {a b : Archive} {members added : List Member} → Reaches o a members → Moves a b added → Reaches o b (members ++ added)

-- a run of the archive: what it has reached
pub record ArchiveRun (o : Origin) : Type 0 where
  pub archive : Archive
  pub members : List Member
  pub reaches : Reaches o archive members

-- the world of the theorem after it
abbrev pub world_of : {o : Origin} → ArchiveRun o → World
world_of {o} r = trace_from r.members (first_world o)

-- ---- what is promised

-- The world has the same endpoint, server, clients, operations and files, and every datagram that was sent; and it lists
-- what each client counts as sent or has fetched. Any other datagram of it is a stranger's.
pub record Mirrors (a : Archive) (w : World) : Type 0 where
  pub home : w.home ≡ a.home
  pub server : w.server ≡ a.server
  pub clients : w.clients ≡ a.clients
  pub begun : w.begun ≡ a.begun
  pub taken : w.taken ≡ a.taken
  pub net : (d : Datagram) → Contains a.net d → Contains w.net d
  pub others : (d : Datagram) → Contains w.net d → Contains a.net d ⊎ Contains w.strays d
  pub sent : (e : Endpoint) (c : Client) → lookup (is_same e) a.clients ≡ Some c → state_of c ≡ state.Sent → Contains w.sent e
  pub got : (e : Endpoint) (c : Client) (file : List ℕ) → lookup (is_same e) a.clients ≡ Some c → file_or_client c ≡ Ok file →
      Contains w.got (record { client = e; file = file })

-- What a get that returned Ok has written: the whole file that its client has got, which is a finished get.
pub record WritesFinished (e : Endpoint) (c : Client) (len : ℕ) (w : World) (written now : Option (List ℕ)) : Type 0 where
  pub file : List ℕ
  pub is_got : file_or_client c ≡ Ok file
  pub size : len ≡ length file
  pub appends : Appends written now file
  pub finished : IsFinishedGet w.past (record { client = e; file = file })

-- ---- samples

-- an archive that has nothing at first can reach a client for which `P` holds, without reusing a port
pub record CanReach (P : Client → Type 0) : Type 0 where
  pub run : ArchiveRun (empty_origin server_endpoint)
  pub own : HasOwnPorts (world_of run)
  pub endpoint : Endpoint
  pub client : Client
  pub there : lookup (is_same endpoint) run.archive.clients ≡ Some client
  pub holds : P client

-- the server makes rounds, and no turns
abbrev pub IsNoTurn : {old new : Archive} {added : List Member} → Moves old new added → Type 0
IsNoTurn (server_turns a last timers policies new took calls now t brings) = ⊥
IsNoTurn (server_rounds a last timers policies new took calls now t brings) = Unit {0}
IsNoTurn (server_restarts a maps now loaded) = Unit {0}
IsNoTurn (server_ends a mode port from bytes timers left new took calls now later p t maps came refused wanted brings finds) = ⊥
IsNoTurn (client_begins a host operation port replies r away begun) = Unit {0}
IsNoTurn (client_turns a host old new calls t away there brings) = Unit {0}
IsNoTurn (client_rounds a host pace old new calls t away there brings) = Unit {0}

abbrev pub IsByRounds : {o : Origin} {a : Archive} {members : List Member} → Reaches o a members → Type 0
IsByRounds (reported log has) = Unit {0}
IsByRounds unreported = Unit {0}
IsByRounds (more before move) = IsByRounds before × IsNoTurn move

-- An archive that has nothing at first and serves in rounds can take a file and restart, and a get then has fetched that
-- file, without reusing a port.
pub record CanRestart (file : List ℕ) : Type 0 where
  pub run : ArchiveRun (empty_origin server_endpoint)
  pub rounds : IsByRounds run.reaches
  pub restarts : Contains run.members (does loads)
  pub own : HasOwnPorts (world_of run)
  pub putter : Endpoint
  pub sent : (c : Client) × (lookup (is_same putter) run.archive.clients ≡ Some c) × (state_of c ≡ state.Sent)
  pub taken : run.archive.taken ≡ record { peer = putter; file = file } ∷ []
  pub getter : Endpoint
  pub got : (c : Client) × (lookup (is_same getter) run.archive.clients ≡ Some c) × (file_or_client c ≡ Ok file)

-- An archive that has nothing at first can end in a keep of this file, answer its put that it was not kept, and find it at the
-- next start; a get then has fetched it.
pub record CanEnd (file : List ℕ) : Type 0 where
  pub run : ArchiveRun (empty_origin server_endpoint)
  pub datagram : Datagram
  pub maps : Maps
  pub ends : Contains run.members (end_member datagram maps)
  pub own : HasOwnPorts (world_of run)
  pub putter : Endpoint
  pub refused : (c : Client) × (code : ℕ) × (lookup (is_same putter) run.archive.clients ≡ Some c) × (state_of c ≡ state.Failed (Refused code))
  pub taken : run.archive.taken ≡ record { peer = putter; file = file } ∷ []
  pub recovered : (world_of run).recovered ≡ run.archive.taken
  pub getter : Endpoint
  pub got : (c : Client) × (lookup (is_same getter) run.archive.clients ≡ Some c) × (file_or_client c ≡ Ok file)
