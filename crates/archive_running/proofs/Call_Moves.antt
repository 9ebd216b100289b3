-- Whole calls of a server or a client are moves of the archive, turn by turn or round by round.
use Rattle.std.proofs.Common.{◌≡◌, ◌≢◌, ℕ, Bool, true, false, cond, nat_le, List, [], ◌∷◌, ◌++◌, length, Contains, Option, Some, Result, Ok, Err, IfOk, refl, ap, sym, ◌∙◌, subst}
use Rattle.std.specs.Map.{lookup}
use Rattle.tftp_packet.specs.declared.endpoint.Endpoint.{Endpoint}
use Rattle.tws_file.specs.declared.«ruleset».Ruleset.{Ruleset}
use Rattle.archive_table.specs.Table.{Table, is_same}
use Rattle.archive_table.specs.Keeper.{Keeping}
use Rattle.archive_client.specs.Client.{Client, Operation, put, get, state_of}
use Rattle.archive_runs.specs.declared.run_fault.RunFault.{RunFault}
use Rattle.archive_wire.specs.Wire.{Entry, Replies, Receipt, datagram, nothing, fault}
use Rattle.archive_server.specs.Turn.{Server, TurnOrRound, IsTurn, IsRound, next_visit, turn_next, ready_next, ServesTurns}
use Rattle.archive_server.specs.Turn as turns
use Rattle.archive_runs.specs.Run.{Run, RunAnswers, run_waited, run_received, run_turn, IsRunTurn, MakesRunTurns, Runs, RunStep, begin_opened, Begins, PutAfter, GetAfter, put_result, WritesGot}
use Rattle.archive_runs.specs.Run as runs
use Rattle.archive_runs.specs.declared.pace.Pace.{Pace}
use Rattle.archive_runs.specs.Rounds.{asking, dallying, RoundAnswers, round_received, is_late, is_ready, round_goes, IsRunRound, has_ended, MakesRunRounds, Dallies, MakesDally, len_of, GetInRoundsAfter}
use Rattle.archive_runs.specs.Rounds as rounds
use Rattle.tftp_ends.specs.Ends.{Verdict}
use Rattle.archive_model.specs.World.{Begun, Origin}
use Rattle.archive_theorem.specs.Headline.{IsOwn}
use Rattle.archive_theorem.specs.Traces.{Member, starts}
use Rattle.archive_model.proofs.Places.{Has, Has-prefix, Has-from_contains, Has-last, IsPrefix-push}
use Rattle.archive_theorem.proofs.Claim_Owns.{one_operation, same_put, same_get}
use Rattle.archive_model.proofs.Endpoints.{exact_endpoint, same_endpoint}
use Rattle.archive_theorem.proofs.Keyed.{lookup-written}
use Rattle.archive_running.specs.Members.{does, visit_members, late_members}
use Rattle.archive_running.specs.Archive.{Archive, Brings, after_server, own_endpoint, after_begin, after_client_turn, Moves, server_turns, server_rounds, server_restarts, server_ends, client_begins, client_rounds, client_turns, Reaches, ArchiveRun}
use Rattle.archive_running.specs.Archive as archive
use Rattle.archive_running.specs.Calls.{Moment, IsReached, ServesAt, world_at, Meanwhile, still, others, LeavesServer, AfterTurnOrRound, after_turn, after_round, ManyHappen, LeavesClient, RunMembers, turn_members, paced_members, RunStepHappens, RunsHappen, DalliesHappen, ClientAt, begun_at, PutHappens, GetHappens, PutInRoundsHappens, GetInRoundsHappens, PutWasTaken, GetWasWritten}
use Rattle.archive_running.proofs.Run_Moves.{put_sent, run-mirrors, run-sent, run-fetched}

-- ---- others move

meanwhile-reached : (o : Origin) {Leaves : Archive → Archive → Type 0} {first last : Moment} →
    Meanwhile Leaves first last → IsReached o first → IsReached o last
meanwhile-reached o (still m) reached = reached
meanwhile-reached o (others before move leaves) reached = archive.more (meanwhile-reached o before reached) move

-- the server stays where it is
home-stays : {a b : Archive} {added : List Member} → Moves a b added → b.home ≡ a.home
home-stays (server_turns a last timers policies new took calls now t brings) = refl
home-stays (server_rounds a last timers policies new took calls now t brings) = refl
home-stays (server_restarts a maps now loaded) = refl
home-stays (server_ends a mode port from bytes timers left new took calls now later p t maps came refused wanted brings finds) = refl
home-stays (client_begins a host operation port replies r away is) = refl
home-stays (client_turns a host old new calls t away is brings) = refl
home-stays (client_rounds a host pace old new calls t away is brings) = refl

reached-home : (o : Origin) {a : Archive} {members : List Member} → Reaches o a members → a.home ≡ o.home
reached-home o (archive.reported log has) = refl
reached-home o archive.unreported = refl
reached-home o (archive.more before move) = home-stays move ∙ reached-home o before

server-left : {first last : Moment} → Meanwhile LeavesServer first last → LeavesServer first.archive last.archive
server-left (still m) = (refl, refl)
server-left (others before move leaves) =
    let rest = server-left before in
    (leaves.0 ∙ rest.0, leaves.1 ∙ rest.1)

client-left : (e : Endpoint) {first last : Moment} → Meanwhile (LeavesClient e) first last → LeavesClient e first.archive last.archive
client-left e (still m) = refl
client-left e (others before move leaves) = leaves ∙ client-left e before

-- what has begun stays
begun-stays : {a b : Archive} {added : List Member} → Moves a b added → (x : Begun) → Has a.begun x → Has b.begun x
begun-stays (server_turns a last timers policies new took calls now t brings) x has = has
begun-stays (server_rounds a last timers policies new took calls now t brings) x has = has
begun-stays (server_restarts a maps now loaded) x has = has
begun-stays (server_ends a mode port from bytes timers left new took calls now later p t maps came refused wanted brings finds) x has = has
begun-stays (client_begins a host operation port replies r away is) x has = Has-prefix a.begun _ x (IsPrefix-push a.begun _) has
begun-stays (client_turns a host old new calls t away is brings) x has = has
begun-stays (client_rounds a host pace old new calls t away is brings) x has = has

meanwhile-begun : {Leaves : Archive → Archive → Type 0} {first last : Moment} → Meanwhile Leaves first last →
    (x : Begun) → Has first.archive.begun x → Has last.archive.begun x
meanwhile-begun (still m) x has = has
meanwhile-begun (others before move leaves) x has = begun-stays move x (meanwhile-begun before x has)

-- ---- the server

-- an archive that differs in what the server and its keeper have
abbrev with_server : Archive → Table → Option (List Keeping) → Archive
with_server a s k = record { home = a.home; server = s; clients = a.clients; begun = a.begun; taken = a.taken; net = a.net; kept = k }

turn-moves : {old new : Server} {took : Bool} {calls : List Entry} {kept now : Option (List Keeping)}
    (t : IsTurn old new took calls kept now) (a : Archive) →
    a.server ≡ old.table → a.kept ≡ kept → Brings a.home.host calls a →
    Moves a (after_server new.table (next_visit (turn_next old) t.visits.answers old.table).taken calls now a)
    (visit_members a.home.host (turn_next old) t.visits.answers old.table ++ late_members t.visits.late)
turn-moves {old} {new} {took} {calls} {kept} {now} t a server keeper brings =
    let visit = next_visit (turn_next old) t.visits.answers old.table in
    let added = visit_members a.home.host (turn_next old) t.visits.answers old.table ++ late_members t.visits.late in
    let Moved : Table → Option (List Keeping) → Type 0 =
    λ s k. Brings a.home.host calls (with_server a s k) → Moves (with_server a s k) (after_server new.table visit.taken calls now a) added in
    let here : Moved old.table kept =
    λ b. server_turns (with_server a old.table kept) old.last old.timers old.policies new took calls now t b in
    let kept_there : Moved old.table a.kept = subst (Moved old.table) (sym keeper) here in
    subst (λ (s : Table). Moved s a.kept) (sym server) kept_there brings

round-moves : {old new : Server} {took : Bool} {calls : List Entry} {kept now : Option (List Keeping)}
    (t : IsRound old new took calls kept now) (a : Archive) →
    a.server ≡ old.table → a.kept ≡ kept → Brings a.home.host calls a →
    Moves a (after_server new.table (next_visit (ready_next t.ready old.table) t.visits.answers old.table).taken calls now a)
    (visit_members a.home.host (ready_next t.ready old.table) t.visits.answers old.table ++ late_members t.visits.late)
round-moves {old} {new} {took} {calls} {kept} {now} t a server keeper brings =
    let visit = next_visit (ready_next t.ready old.table) t.visits.answers old.table in
    let added = visit_members a.home.host (ready_next t.ready old.table) t.visits.answers old.table ++ late_members t.visits.late in
    let Moved : Table → Option (List Keeping) → Type 0 =
    λ s k. Brings a.home.host calls (with_server a s k) → Moves (with_server a s k) (after_server new.table visit.taken calls now a) added in
    let here : Moved old.table kept =
    λ b. server_rounds (with_server a old.table kept) old.last old.timers old.policies new took calls now t b in
    let kept_there : Moved old.table a.kept = subst (Moved old.table) (sym keeper) here in
    subst (λ (s : Table). Moved s a.kept) (sym server) kept_there brings

module _ (o : Origin) where
  serves-meanwhile : (table : Table) (kept : Option (List Keeping)) {first last : Moment} → Meanwhile LeavesServer first last →
      ServesAt o table kept first → ServesAt o table kept last
  serves-meanwhile table kept waits there =
      let same = server-left waits in
      (meanwhile-reached o waits there.0, same.0 ∙ there.1, same.1 ∙ there.2)

  module _ (Is : TurnOrRound) (after : AfterTurnOrRound Is)
      (one : (old new : Server) (took : Bool) (calls : List Entry) (kept now : Option (List Keeping))
      (t : Is old new took calls kept now) (m : Moment) →
      Brings m.archive.home.host calls m.archive → ServesAt o old.table kept m → ServesAt o new.table now
      (after old new took calls kept now t m)) where
    many-serve : {count : ℕ} {old new : Server} {taken : ℕ} {calls : List Entry} {kept now : Option (List Keeping)}
        (all : ServesTurns Is count old new taken calls kept now) {first last : Moment} →
        ManyHappen Is after all first last → ServesAt o old.table kept first → ServesAt o new.table now last
    many-serve (turns.none s kept) waits there = serves-meanwhile s.table kept waits there
    many-serve (turns.more {mid = mid} {new = new} {added = added} {between = between} {now = now} took earlier made) h there =
        serves-meanwhile new.table now h.others (one mid new took added between now made h.moment h.brings (many-serve earlier h.before there))

  turn-serves : (old new : Server) (took : Bool) (calls : List Entry) (kept now : Option (List Keeping))
      (t : IsTurn old new took calls kept now) (m : Moment) →
      Brings m.archive.home.host calls m.archive → ServesAt o old.table kept m → ServesAt o new.table now
      (after_turn old new took calls kept now t m)
  turn-serves old new took calls kept now t m brings there =
      (archive.more there.0 (turn-moves t m.archive there.1 there.2 brings), refl, refl)

  round-serves : (old new : Server) (took : Bool) (calls : List Entry) (kept now : Option (List Keeping))
      (t : IsRound old new took calls kept now) (m : Moment) →
      Brings m.archive.home.host calls m.archive → ServesAt o old.table kept m → ServesAt o new.table now
      (after_round old new took calls kept now t m)
  round-serves old new took calls kept now t m brings there =
      (archive.more there.0 (round-moves t m.archive there.1 there.2 brings), refl, refl)

  pub turns-serve : {count : ℕ} {old new : Server} {taken : ℕ} {calls : List Entry} {kept now : Option (List Keeping)}
      (all : ServesTurns IsTurn count old new taken calls kept now) {first last : Moment} →
      ManyHappen IsTurn after_turn all first last → ServesAt o old.table kept first → ServesAt o new.table now last
  turns-serve = many-serve IsTurn after_turn turn-serves

  pub rounds-serve : {count : ℕ} {old new : Server} {taken : ℕ} {calls : List Entry} {kept now : Option (List Keeping)}
      (all : ServesTurns IsRound count old new taken calls kept now) {first last : Moment} →
      ManyHappen IsRound after_round all first last → ServesAt o old.table kept first → ServesAt o new.table now last
  rounds-serve = many-serve IsRound after_round round-serves

-- ---- a client

waited-port : (last : Bool) (r : Run) (ok : Bool) → (run_waited last r ok).run.port ≡ r.port
waited-port true r ok = refl
waited-port false r ok = refl

received-port : (receipt : Receipt) (verdict : Verdict) (ok : Bool) (r : Run) → (run_received receipt verdict ok r).run.port ≡ r.port
received-port (datagram from bytes) verdict ok r = refl
received-port nothing verdict ok r = waited-port (nat_le r.left 1) r ok
received-port fault verdict ok r = waited-port (nat_le r.left 1) r ok

turn-port : {old new : Run} {calls : List Entry} → IsRunTurn old new calls → new.port ≡ old.port
turn-port {old} t = ap (λ (r : Run). r.port) t.run ∙ received-port t.answers.receipt t.answers.verdict t.answers.sent old

round_received-port : (receipt : Receipt) (pace : Pace) (time : ℕ) (verdict : Verdict) (ok : Bool) (r : Run) →
    (round_received receipt pace time verdict ok r).run.port ≡ r.port
round_received-port (datagram from bytes) pace time verdict ok r = refl
round_received-port nothing pace time verdict ok r = refl
round_received-port fault pace time verdict ok r = refl

round_goes-port : (late here : Bool) (pace : Pace) (a : RoundAnswers) (r : Run) → (round_goes late here pace a r).run.port ≡ r.port
round_goes-port true here pace a r = refl
round_goes-port false true pace a r = round_received-port a.receipt pace a.time a.verdict a.sent r
round_goes-port false false pace a r = refl

round-port : (pace : Pace) {old new : Run} {calls : List Entry} → IsRunRound pace old new calls → new.port ≡ old.port
round-port pace {old} t =
    ap (λ (r : Run). r.port) t.run ∙ round_goes-port (is_late pace old t.answers) (is_ready old.port t.answers.ready) pace t.answers old

-- what is asked of a turn or round of a client: it keeps the port, and is a move
record IsMove (Is : RunStep) (members : RunMembers Is) : Type 0 where
  port : (old new : Run) (calls : List Entry) → Is old new calls → new.port ≡ old.port
  moves : (a : Archive) (host : ℕ) (old new : Run) (calls : List Entry) (t : Is old new calls) → host ≢ a.home.host →
      lookup (is_same (own_endpoint host old)) a.clients ≡ Some old.client → Brings host calls a →
      Moves a (after_client_turn host old new calls a) (members host old new calls t)

turn-move : IsMove IsRunTurn turn_members
turn-move = record {
  port = λ old new calls t. turn-port t;
  moves = λ a host old new calls t away there brings. client_turns a host old new calls t away there brings;
}

round-move : (pace : Pace) → IsMove (IsRunRound pace) (paced_members pace)
round-move pace = record {
  port = λ old new calls t. round-port pace t;
  moves = λ a host old new calls t away there brings. client_rounds a host pace old new calls t away there brings;
}

module _ (Is : RunStep) (members : RunMembers Is) (move : IsMove Is members) (ended : Client → Bool) where
  runs-port : {made : ℕ} {old new : Run} {calls : List Entry} → Runs Is ended made old new calls → new.port ≡ old.port
  runs-port (runs.none r) = refl
  runs-port (runs.more {mid = mid} {new = new} {added = added} earlier running t) = move.port mid new added t ∙ runs-port earlier

  runs-begun : (host : ℕ) {made : ℕ} {old new : Run} {calls : List Entry} (all : Runs Is ended made old new calls) (first last : Moment) →
      RunsHappen Is members host all first last → (x : Begun) → Has first.archive.begun x → Has last.archive.begun x
  runs-begun host (runs.none r) first last waits x has = meanwhile-begun waits x has
  runs-begun host (runs.more earlier running t) first last h x has =
      meanwhile-begun h.others x (runs-begun host earlier first h.moment h.before x has)

module _ (o : Origin) (host : ℕ) (away : host ≢ o.home.host) where
  -- it is on another host than the archive's server
  elsewhere : {a : Archive} {members : List Member} → Reaches o a members → host ≢ a.home.host
  elsewhere reaches ours = away (ours ∙ ap (λ (e : Endpoint). e.host) (reached-home o reaches))

  client-meanwhile : (r : Run) {first last : Moment} → Meanwhile (LeavesClient (own_endpoint host r)) first last →
      ClientAt o host r first → ClientAt o host r last
  client-meanwhile r waits there =
      (meanwhile-reached o waits there.0, client-left (own_endpoint host r) waits ∙ there.1)

  -- one more turn or round, and then others
  step-has : (Is : RunStep) (members : RunMembers Is) (move : IsMove Is members) {Before : Moment → Type 0} {mid new : Run} {added : List Entry}
      (t : Is mid new added) {end : Moment}
      (h : RunStepHappens Before host mid new added (members host mid new added t) end) → ClientAt o host mid h.moment → ClientAt o host new end
  step-has Is members move {mid = mid} {new = new} {added = added} t {end = end} h then =
      let e = own_endpoint host mid in
      let next = archive.more then.0 (move.moves h.moment.archive host mid new added t (elsewhere then.0) then.1 h.brings) in
      let written = lookup-written is_same exact_endpoint h.moment.archive.clients e mid.client new.client then.1 in
      let last = client-left e h.others ∙ written in (
        meanwhile-reached o h.others next,
        ap (λ (port : ℕ). lookup (is_same (record { host = host; port = port })) end.archive.clients) (move.port mid new added t) ∙ last,
      )

  runs-have : (Is : RunStep) (members : RunMembers Is) (move : IsMove Is members) {ended : Client → Bool} {made : ℕ} {old new : Run}
      {calls : List Entry} (all : Runs Is ended made old new calls) {first last : Moment} →
      RunsHappen Is members host all first last → ClientAt o host old first → ClientAt o host new last
  runs-have Is members move (runs.none r) waits there = client-meanwhile r waits there
  runs-have Is members move (runs.more earlier running t) h there =
      step-has Is members move t h (runs-have Is members move earlier h.before there)

  dallies-have : (pace : Pace) {late : Bool} {made : ℕ} {old new : Run} {calls : List Entry} (all : Dallies pace late made old new calls)
      {first last : Moment} →
      DalliesHappen pace host all first last → ClientAt o host old first → ClientAt o host new last
  dallies-have pace (rounds.none r) waits there = client-meanwhile r waits there
  dallies-have pace (rounds.more late earlier t late_is) h there =
      step-has (IsRunRound pace) (paced_members pace) (round-move pace) t h (dallies-have pace earlier h.before there)

  -- the move of a begin at the server there
  abbrev BeginMoves : (operation : Operation) (r : Run) (port : Option ℕ) (replies : Replies) → Archive → Endpoint → Type 0
  BeginMoves operation r port replies a home =
      (begin_opened port home operation replies).result ≡ Ok r →
      Moves a (after_begin host operation r (begin_opened port home operation replies).calls a) (does (starts (own_endpoint host r) operation) ∷ [])

  begun-has : (operation : Operation) (r : Run) {before mid : Option (List Entry)} (b : Begins o.home operation (Ok r) before mid)
      (first : Moment) → IsReached o first → ClientAt o host r (begun_at o.home host operation r b first)
  begun-has operation r b first reached =
      let e = own_endpoint host r in
      let here : BeginMoves operation r b.port b.replies first.archive first.archive.home =
      λ is. client_begins first.archive host operation b.port b.replies r (elsewhere reached) is in
      let there = subst (BeginMoves operation r b.port b.replies first.archive) (reached-home o reached) here in (
        archive.more reached (there (sym b.result_is)),
        ap (λ (t : Bool). cond t (Some r.client) (lookup (is_same e) first.archive.clients)) (same_endpoint e),
      )

  -- ---- a call that has begun

  module _ (before mid after : Option (List Entry)) (first last : Moment) (reached : IsReached o first) where
    -- the run to the end
    abbrev run_to : IsReached o last → ArchiveRun o
    run_to there = record { archive = last.archive; members = last.members; reaches = there }

    abbrev begun_by : Run → Operation → Begun
    begun_by r operation = record { client = own_endpoint host r; operation = operation; taken = length first.archive.taken }

    -- at the end the client is where it began
    record IsEnd (r : Run) (operation : Operation) (c : Client) : Type 0 where
      there : IsReached o last
      client : lookup (is_same (own_endpoint host r)) last.archive.clients ≡ Some c
      begun : Has last.archive.begun (begun_by r operation)

    -- its turns or rounds begin with the same client at the same port
    ends-there : (Is : RunStep) (members : RunMembers Is) (move : IsMove Is members) {ended : Client → Bool} {made : ℕ} {s new : Run} {calls : List Entry}
        (operation : Operation) (r : Run) (b : Begins o.home operation (Ok r) before mid) → s.client ≡ r.client → s.port ≡ r.port →
        (all : Runs Is ended made s new calls) →
        RunsHappen Is members host all (begun_at o.home host operation r b first) last →
        IsEnd r operation new.client
    ends-there Is members move {ended} {made} {s} {new} operation r b client port all h =
        let start = begun_at o.home host operation r b first in
        let At : ℕ → Moment → Client → Type 0 = λ p m c. lookup (is_same (record { host = host; port = p })) m.archive.clients ≡ Some c in
        let begins = begun-has operation r b first reached in
        let begins_there : At s.port start s.client = subst (λ (p : ℕ). At p start s.client) (sym port) (subst (At r.port start) (sym client) begins.1) in
        let ends = runs-have Is members move all h (begins.0, begins_there) in record {
          there = ends.0;
          client = subst (λ (p : ℕ). At p last new.client) (runs-port Is members move ended all ∙ port) ends.1;
          begun = runs-begun Is members move ended host all start last h (begun_by r operation) (Has-last first.archive.begun (begun_by r operation));
        }

    -- the operation at an endpoint whose ports are its own is the one that began there
    one-begun : (r : Run) (operation : Operation) (c : Client) → IsEnd r operation c → IsOwn (world_at o last) (own_endpoint host r) →
        (b : Begun) → Contains (world_at o last).begun b → b.client ≡ own_endpoint host r → b.operation ≡ operation
    one-begun r operation c end own b among client =
        let w = world_at o last in
        let x = begun_by r operation in
        let mirrors = run-mirrors o (run_to end.there) in
        let mine : Has w.begun x = subst (λ (l : List Begun). Has l x) (sym mirrors.begun) end.begun in
        ap (λ (y : Begun). y.operation) (one_operation w.past (own_endpoint host r) own b x (Has-from_contains w.begun b among) mine client refl)

    put-taken : (file : List ℕ) (r : Run) (c : Client) → IsEnd r (put file) c → (n : ℕ) → put_result (state_of c) (length file) ≡ Ok n →
        PutWasTaken host file (Ok r) (world_at o last)
    put-taken file r c end n ok = record {
      run = r;
      has_begun = refl;
      sent = (run-mirrors o (run_to end.there)).sent (own_endpoint host r) c end.client (put_sent (state_of c) (length file) n ok);
      taken = λ own.
          let sent = run-sent o (run_to end.there) (own_endpoint host r) own c (length file) n end.client ok in
          let same = one-begun r (put file) c end own sent.began.0 sent.began.1 sent.began.2 in
          (sent, same_put sent.file file (sym sent.began.3 ∙ same));
    }

    get-written : (rules : Ruleset) (written now : Option (List ℕ)) (r : Run) (c : Client) → IsEnd r (get rules) c → (len : ℕ) →
        WritesGot c (Ok len) written now →
        GetWasWritten host rules (Ok r) len (world_at o last) written now
    get-written rules written now r c end len got = record {
      run = r;
      has_begun = refl;
      client = c;
      there = ap (λ (cs : List (Endpoint × Client)). lookup (is_same (own_endpoint host r)) cs) (run-mirrors o (run_to end.there)).clients ∙ end.client;
      finished = λ own.
          let fetched = run-fetched o (run_to end.there) (own_endpoint host r) own c len written now end.client got in
          let get_is = fetched.finished in
          let same = one-begun r (get rules) c end own get_is.began get_is.has_begun get_is.by in
          (fetched, same_get get_is.rules rules (sym get_is.operation ∙ same));
    }

    -- ---- a put

    pub put-happens : (file : List ℕ) (turns : ℕ) (result : Result ℕ RunFault) (begun : Result Run RunFault)
        (b : Begins o.home (put file) begun before mid)
        (ends : PutAfter (MakesRunTurns turns) begun (length file) result mid after) →
        PutHappens o.home host file turns result before mid after begun b ends first last →
        IsReached o last × ((n : ℕ) → result ≡ Ok n → PutWasTaken host file begun (world_at o last))
    put-happens file turns result (Ok r) b ends h =
        let end = ends-there IsRunTurn turn_members turn-move (put file) r b refl refl ends.made.runs.runs h in
        (end.there, λ n ok. put-taken file r ends.last.client end n (sym ends.result_is ∙ ok))
    put-happens file turns result (Err f) b ends h =
        (subst (IsReached o) (sym h) reached, λ n ok. let clash : Err f ≡ Ok n = sym ends.0 ∙ ok in absurd cc)

    pub put_in_rounds-happens : (file : List ℕ) (rounds : ℕ) (result : Result ℕ RunFault) (begun : Result Run RunFault)
        (b : Begins o.home (put file) begun before mid)
        (ends : PutAfter (MakesRunRounds rounds) begun (length file) result mid after) →
        PutInRoundsHappens o.home host file rounds result before mid after begun b ends first last →
        IsReached o last × ((n : ℕ) → result ≡ Ok n → PutWasTaken host file begun (world_at o last))
    put_in_rounds-happens file rounds result (Ok r) b ends h =
        let started = ends.made.starts.run in
        let end = ends-there (IsRunRound asking) (paced_members asking) (round-move asking) (put file) r b
        (ap (λ (s : Run). s.client) started) (ap (λ (s : Run). s.port) started) ends.made.made.runs.runs h in
        (end.there, λ n ok. put-taken file r ends.last.client end n (sym ends.result_is ∙ ok))
    put_in_rounds-happens file rounds result (Err f) b ends h =
        (subst (IsReached o) (sym h) reached, λ n ok. let clash : Err f ≡ Ok n = sym ends.0 ∙ ok in absurd cc)

    -- ---- a get

    pub get-happens : (rules : Ruleset) (turns : ℕ) (result : Result ℕ RunFault) (written now : Option (List ℕ))
        (begun : Result Run RunFault) (b : Begins o.home (get rules) begun before mid)
        (ends : GetAfter begun turns result mid after written now) →
        GetHappens o.home host rules turns result before mid after written now begun b ends first last →
        IsReached o last × ((len : ℕ) → result ≡ Ok len → GetWasWritten host rules begun len (world_at o last) written now)
    get-happens rules turns result written now (Ok r) b ends h =
        let end = ends-there IsRunTurn turn_members turn-move (get rules) r b refl refl ends.made.runs.runs h in
        let got : (len : ℕ) → result ≡ Ok len → WritesGot ends.last.client (Ok len) written now =
        λ len ok. subst (λ (x : Result ℕ RunFault). WritesGot ends.last.client x written now) ok ends.got in
        (end.there, λ len ok. get-written rules written now r ends.last.client end len (got len ok))
    get-happens rules turns result written now (Err f) b ends h =
        (subst (IsReached o) (sym h) reached, λ len ok. let clash : Err f ≡ Ok len = sym ends.0 ∙ ok in absurd cc)

    -- the run that it returns is the client's as it is then
    ended_run : (r last : Run) (result : Result (ℕ × Run) RunFault) → IfOk result (λ (got : ℕ × Run). got.1 ≡ last) → (len : ℕ) →
        result ≡ Ok (len, r) → r ≡ last
    ended_run r last (Ok got) stays len ok = let same : Ok got ≡ Ok (len, r) = ok in let is : got.1 ≡ r = cc in sym is ∙ stays
    ended_run r last (Err e) stays len ok = absurd cc

    pub get_in_rounds-happens : (rules : Ruleset) (rounds : ℕ) (result : Result (ℕ × Run) RunFault) (written now : Option (List ℕ))
        (begun : Result Run RunFault) (b : Begins o.home (get rules) begun before mid)
        (ends : GetInRoundsAfter rounds begun result mid after written now) →
        GetInRoundsHappens o.home host rules rounds result before mid after written now begun b ends first last →
        IsReached o last × ((len : ℕ) (r : Run) → result ≡ Ok (len, r) →
        GetWasWritten host rules begun len (world_at o last) written now × ClientAt o host r last)
    get_in_rounds-happens rules rounds result written now (Ok r) b ends h =
        let started = ends.made.starts.run in
        let all = ends.made.made.runs.runs in
        let client = ap (λ (s : Run). s.client) started in
        let port = ap (λ (s : Run). s.port) started in
        let end = ends-there (IsRunRound asking) (paced_members asking) (round-move asking) (get rules) r b client port all h in (
          end.there,
          λ len now_run ok.
              let is = ended_run now_run ends.last result ends.stays len ok in
              let ports : ends.last.port ≡ r.port = runs-port (IsRunRound asking) (paced_members asking) (round-move asking) has_ended all ∙ port in
              let At : ℕ → Type 0 = λ p. lookup (is_same (record { host = host; port = p })) last.archive.clients ≡ Some ends.last.client in (
                get-written rules written now r ends.last.client end len
                    (subst (λ (x : Result (ℕ × Run) RunFault). WritesGot ends.last.client (len_of x) written now) ok ends.got),
                subst (λ (s : Run). ClientAt o host s last) (sym is) (end.there, subst At (sym ports) end.client),
              ),
        )
    get_in_rounds-happens rules rounds result written now (Err f) b ends h =
        (subst (IsReached o) (sym h) reached, λ len r ok. let clash : Err f ≡ Ok (len, r) = sym ends.0 ∙ ok in absurd cc)

  -- a get dallies
  pub dally-happens : (rounds : ℕ) (old new : Run) (before after : Option (List Entry)) (d : MakesDally rounds old new before after)
      (first last : Moment) → DalliesHappen (dallying d.time) host d.made.dallies.dallies first last → ClientAt o host old first → ClientAt o host new last
  dally-happens rounds old new before after d first last h there =
      let started : ClientAt o host d.started first =
      subst (λ (s : Run). ClientAt o host s first) (sym d.starts.run) there in
      dallies-have (dallying d.time) d.made.dallies.dallies h started
