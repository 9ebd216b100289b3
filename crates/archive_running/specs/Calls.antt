-- Whole calls in the running archive: the turns or rounds that the contracts of `serve_turns`, `serve_rounds`, `run_put`,
-- `run_get`, `put_in_rounds`, `get_in_rounds` and `Run::dally` list, each at a moment of its own, while others move in
-- between.
use Rattle.std.specs.Prelude.{◌≡◌, ◌≢◌, ℕ, Bool, List, ◌∷◌, [], ◌++◌, length, Contains, Option, Some, Result, Ok, Err}
use Rattle.std.specs.Map.{lookup}
use Rattle.tftp_packet.specs.declared.endpoint.Endpoint.{Endpoint}
use Rattle.tws_file.specs.declared.«ruleset».Ruleset.{Ruleset}
use Rattle.archive_table.specs.Table.{Table, is_same}
use Rattle.archive_table.specs.Keeper.{Keeping}
use Rattle.archive_client.specs.Client.{Client, Operation, put, get, is_over}
use Rattle.archive_runs.specs.declared.run_fault.RunFault.{RunFault}
use Rattle.archive_wire.specs.Wire.{Entry}
use Rattle.archive_server.specs.Turn.{Server, TurnOrRound, IsTurn, IsRound, next_visit, turn_next, ready_next, ServesTurns, none, more}
use Rattle.archive_runs.specs.declared.pace.Pace.{Pace}
use Rattle.archive_runs.specs.Run.{Run, RunStep, IsRunTurn, MakesRunTurns, Runs, begin_opened, Begins, PutAfter, GetAfter, RunsPut}
use Rattle.archive_runs.specs.Run as run
use Rattle.archive_runs.specs.Rounds.{asking, IsRunRound, has_ended, MakesRunRounds, Dallies, GetInRoundsAfter}
use Rattle.archive_runs.specs.Rounds as round
use Rattle.archive_model.specs.World.{World, Origin, empty_origin, first_world, server_endpoint, client_at}
use Rattle.archive_theorem.specs.Headline.{IsOwn, SentOnce}
use Rattle.archive_theorem.specs.Traces.{Member, starts, trace_from}
use Rattle.archive_running.specs.Members.{does, visit_members, late_members, client_members, round_members}
use Rattle.archive_running.specs.Archive.{Archive, Brings, after_server, own_endpoint, after_begin, after_client_turn, Moves, Reaches, WritesFinished}

-- a state of the archive, and the members of the trace that led to it
pub record Moment : Type 0 where
  pub archive : Archive
  pub members : List Member

-- the archive has come to this moment, from the server of this origin
abbrev pub IsReached : Origin → Moment → Type 0
IsReached o m = Reaches o m.archive m.members

-- the world of the theorem at this moment
abbrev pub world_at : Origin → Moment → World
world_at o m = trace_from m.members (first_world o)

-- the moment after one move
abbrev pub then : Archive → (added : List Member) → Moment → Moment
then a added m = record { archive = a; members = m.members ++ added }

-- There its server has this table, and the keeper this log.
abbrev pub ServesAt : Origin → Table → (kept : Option (List Keeping)) → Moment → Type 0
ServesAt o table kept m = IsReached o m × (m.archive.server ≡ table) × (m.archive.kept ≡ kept)

-- Others move, and each move leaves what `Leaves` says.
pub data Meanwhile (Leaves : (old new : Archive) → Type 0) : (first last : Moment) → Type 0 where
  still : (m : Moment) → Meanwhile Leaves m m
  others : {first m : Moment} {a : Archive} {added : List Member} → Meanwhile Leaves first m → Moves m.archive a added →
      Leaves m.archive a → Meanwhile Leaves first (then a added m)

-- ---- a call of the server

-- the server and its keeper stay as they are
abbrev pub LeavesServer : (old new : Archive) → Type 0
LeavesServer old new = (new.server ≡ old.server) × (new.kept ≡ old.kept)

-- the moment after a turn or round
abbrev pub AfterTurnOrRound : TurnOrRound → Type 0
AfterTurnOrRound Is =
    (old new : Server) (took : Bool) (calls : List Entry) (kept now : Option (List Keeping)) → Is old new took calls kept now → Moment → Moment

abbrev pub after_turn : AfterTurnOrRound IsTurn
after_turn old new took calls kept now t m =
    then (after_server new.table (next_visit (turn_next old) t.visits.answers old.table).taken calls now m.archive)
    (visit_members m.archive.home.host (turn_next old) t.visits.answers old.table ++ late_members t.visits.late) m

abbrev pub after_round : AfterTurnOrRound IsRound
after_round old new took calls kept now t m =
    then (after_server new.table (next_visit (ready_next t.ready old.table) t.visits.answers old.table).taken calls now m.archive)
    (visit_members m.archive.home.host (ready_next t.ready old.table) t.visits.answers old.table ++ late_members t.visits.late) m

-- One more turn or round: it receives only what was sent before it or is a stranger's, and then others move.
pub record PassHappens (Before : Moment → Type 0) (calls : List Entry) (after : Moment → Moment) (last : Moment) : Type 0 where
  pub moment : Moment
  pub before : Before moment
  pub brings : Brings moment.archive.home.host calls moment.archive
  pub others : Meanwhile LeavesServer (after moment) last

-- These turns or rounds happen, one after another, from the first moment to the last.
abbrev pub ManyHappen : (Is : TurnOrRound) → AfterTurnOrRound Is →
    {count : ℕ} {old new : Server} {taken : ℕ} {calls : List Entry} {kept now : Option (List Keeping)} →
    ServesTurns Is count old new taken calls kept now → (first last : Moment) → Type 0
ManyHappen Is after (none s kept) first last = Meanwhile LeavesServer first last
ManyHappen Is after (more {mid = mid} {new = new} {added = added} {between = between} {now = now} took turns made) first last =
    PassHappens (ManyHappen Is after turns first) added (after mid new took added between now made) last

-- ---- a call of a client

-- the client at this endpoint stays as it is
abbrev pub LeavesClient : Endpoint → (old new : Archive) → Type 0
LeavesClient e old new = lookup (is_same e) new.clients ≡ lookup (is_same e) old.clients

-- what a turn or round of a client is in the world
abbrev pub RunMembers : RunStep → Type 0
RunMembers Is = (host : ℕ) (old new : Run) (calls : List Entry) → Is old new calls → List Member

abbrev pub turn_members : RunMembers IsRunTurn
turn_members host old new calls t = client_members t.answers host old

abbrev pub paced_members : (pace : Pace) → RunMembers (IsRunRound pace)
paced_members pace host old new calls t = round_members pace t.answers host old

-- one more turn or round of the client, and then others move
pub record RunStepHappens (Before : Moment → Type 0) (host : ℕ) (old new : Run) (calls : List Entry) (added : List Member) (last : Moment) : Type 0 where
  pub moment : Moment
  pub before : Before moment
  pub brings : Brings host calls moment.archive
  pub others : Meanwhile (LeavesClient (own_endpoint host old))
      (then (after_client_turn host old new calls moment.archive) added moment) last

-- These turns or rounds of the client happen, one after another.
abbrev pub RunsHappen : (Is : RunStep) → RunMembers Is → {ended : Client → Bool} → (host : ℕ) →
    {count : ℕ} {old new : Run} {calls : List Entry} → Runs Is ended count old new calls → (first last : Moment) → Type 0
RunsHappen Is members host (run.none r) first last = Meanwhile (LeavesClient (own_endpoint host r)) first last
RunsHappen Is members host (run.more {mid = mid} {new = new} {added = added} runs running t) first last =
    RunStepHappens (RunsHappen Is members host runs first) host mid new added (members host mid new added t) last

abbrev pub RunTurnsHappen : (host : ℕ) → {turns : ℕ} {old new : Run} {calls : List Entry} →
    Runs IsRunTurn is_over turns old new calls → (first last : Moment) → Type 0
RunTurnsHappen host runs first last = RunsHappen IsRunTurn turn_members host runs first last

abbrev pub RunRoundsHappen : (host : ℕ) → {rounds : ℕ} {old new : Run} {calls : List Entry} →
    Runs (IsRunRound asking) has_ended rounds old new calls → (first last : Moment) → Type 0
RunRoundsHappen host runs first last = RunsHappen (IsRunRound asking) (paced_members asking) host runs first last

-- So do the rounds of a client that dallies.
abbrev pub DalliesHappen : (pace : Pace) (host : ℕ) → {late : Bool} {count : ℕ} {old new : Run} {calls : List Entry} →
    Dallies pace late count old new calls → (first last : Moment) → Type 0
DalliesHappen pace host (round.none r) first last = Meanwhile (LeavesClient (own_endpoint host r)) first last
DalliesHappen pace host (round.more {mid = mid} {new = new} {added = added} late dallies t late_is) first last =
    RunStepHappens (DalliesHappen pace host dallies first) host mid new added (paced_members pace host mid new added t) last

-- the archive has come to this moment, and has this client
abbrev pub ClientAt : Origin → (host : ℕ) → Run → Moment → Type 0
ClientAt o host r m = IsReached o m × (lookup (is_same (own_endpoint host r)) m.archive.clients ≡ Some r.client)

-- the moment after the start of a client
abbrev pub after_begun : (host : ℕ) → Operation → Run → (calls : List Entry) → Moment → Moment
after_begun host operation r calls m =
    then (after_begin host operation r calls m.archive) (does (starts (own_endpoint host r) operation) ∷ []) m

-- the same for an operation at the server there
abbrev pub begun_at : (home : Endpoint) (host : ℕ) (operation : Operation) (r : Run) {before mid : Option (List Entry)} →
    Begins home operation (Ok r) before mid → Moment → Moment
begun_at home host operation r begins m = after_begun host operation r (begin_opened begins.port home operation begins.replies).calls m

-- A call that has begun makes its turns; one that has not makes none.
abbrev pub PutHappens : (home : Endpoint) (host : ℕ) (file : List ℕ) (turns : ℕ) (result : Result ℕ RunFault)
    (before mid after : Option (List Entry)) (begun : Result Run RunFault) →
    Begins home (put file) begun before mid → PutAfter (MakesRunTurns turns) begun (length file) result mid after → (first last : Moment) → Type 0
PutHappens home host file turns result before mid after (Ok r) begins ends first last =
    RunTurnsHappen host ends.made.runs.runs (begun_at home host (put file) r begins first) last
PutHappens home host file turns result before mid after (Err e) begins ends first last = last ≡ first

-- the same for a get
abbrev pub GetHappens : (home : Endpoint) (host : ℕ) (rules : Ruleset) (turns : ℕ) (result : Result ℕ RunFault)
    (before mid after : Option (List Entry)) (written now : Option (List ℕ)) (begun : Result Run RunFault) →
    Begins home (get rules) begun before mid → GetAfter begun turns result mid after written now → (first last : Moment) → Type 0
GetHappens home host rules turns result before mid after written now (Ok r) begins ends first last =
    RunTurnsHappen host ends.made.runs.runs (begun_at home host (get rules) r begins first) last
GetHappens home host rules turns result before mid after written now (Err e) begins ends first last = last ≡ first

-- The same for a put and a get by rounds. A look at the clock before the first round is no move.
abbrev pub PutInRoundsHappens : (home : Endpoint) (host : ℕ) (file : List ℕ) (rounds : ℕ) (result : Result ℕ RunFault)
    (before mid after : Option (List Entry)) (begun : Result Run RunFault) →
    Begins home (put file) begun before mid → PutAfter (MakesRunRounds rounds) begun (length file) result mid after → (first last : Moment) → Type 0
PutInRoundsHappens home host file rounds result before mid after (Ok r) begins ends first last =
    RunRoundsHappen host ends.made.made.runs.runs (begun_at home host (put file) r begins first) last
PutInRoundsHappens home host file rounds result before mid after (Err e) begins ends first last = last ≡ first

abbrev pub GetInRoundsHappens : (home : Endpoint) (host : ℕ) (rules : Ruleset) (rounds : ℕ) (result : Result (ℕ × Run) RunFault)
    (before mid after : Option (List Entry)) (written now : Option (List ℕ)) (begun : Result Run RunFault) →
    Begins home (get rules) begun before mid → GetInRoundsAfter rounds begun result mid after written now → (first last : Moment) → Type 0
GetInRoundsHappens home host rules rounds result before mid after written now (Ok r) begins ends first last =
    RunRoundsHappen host ends.made.made.runs.runs (begun_at home host (get rules) r begins first) last
GetInRoundsHappens home host rules rounds result before mid after written now (Err e) begins ends first last = last ≡ first

-- ---- what is promised of a call that returned Ok

-- It began at a port of its own, and its client counts the file as sent; if the ports of that endpoint are its own, the file
-- was taken exactly once from there.
pub record PutWasTaken (host : ℕ) (file : List ℕ) (begun : Result Run RunFault) (w : World) : Type 0 where
  pub run : Run
  pub has_begun : begun ≡ Ok run
  pub sent : Contains w.sent (own_endpoint host run)
  pub taken : IsOwn w (own_endpoint host run) → (s : SentOnce w.past (own_endpoint host run)) × (s.file ≡ file)

-- The same of a get: what it has written is a finished get of this ruleset.
pub record GetWasWritten (host : ℕ) (rules : Ruleset) (begun : Result Run RunFault) (len : ℕ) (w : World) (written now : Option (List ℕ)) : Type 0 where
  pub run : Run
  pub has_begun : begun ≡ Ok run
  -- the client that has fetched it
  pub client : Client
  pub there : client_at (own_endpoint host run) w ≡ Some client
  pub finished : IsOwn w (own_endpoint host run) →
      (f : WritesFinished (own_endpoint host run) client len w written now) × (f.finished.rules ≡ rules)

-- ---- a sample

-- A put of this file can happen as a whole call and return Ok, in an archive that has nothing at first, from an endpoint
-- whose ports are its own.
pub record PutCanHappen (file : List ℕ) : Type 0 where
  pub host : ℕ
  pub away : host ≢ server_endpoint.host
  pub turns : ℕ
  pub len : ℕ
  pub before : List Entry
  pub after : List Entry
  pub call : RunsPut server_endpoint file turns (Ok len) (Some before) (Some after)
  pub first : Moment
  pub last : Moment
  pub reached : IsReached (empty_origin server_endpoint) first
  pub happens : PutHappens server_endpoint host file turns (Ok len) (Some before) call.mid (Some after) call.begun call.begins call.ends first last
  pub run : Run
  pub has_begun : call.begun ≡ Ok run
  pub own : IsOwn (world_at (empty_origin server_endpoint) last) (own_endpoint host run)
