-- A run of the archive is a trace, and what follows from that.
use Rattle.std.proofs.Common.{◌≡◌, ◌≢◌, ◌⊎◌, ℕ, Bool, true, false, nat_le, List, [], ◌∷◌, ◌++◌, Contains, Option, None, Some, Result, Ok, Err, refl, sym, subst, inl, inr, append-nil}
use Rattle.std.specs.Map.{lookup}
use Rattle.std.proofs.lemmas.List.Elements.{All-nil}
use Rattle.std.proofs.lemmas.Map.Steps.{set_value_same}
use Rattle.tftp_packet.specs.declared.endpoint.Endpoint.{Endpoint}
use Rattle.tftp_ends.specs.Ends.{Verdict}
use Rattle.tws_file.specs.declared.«ruleset».Ruleset.TheVariants.{Lynx, Ms}
use Rattle.archive_table.specs.Table.{Table, Maps, Taken, at_port, is_same, IsMerged}
use Rattle.archive_table.specs.Keeper.{Keeping}
use Rattle.archive_client.specs.declared.state.State.{State}
use Rattle.archive_client.specs.declared.state.State.TheVariants as state
use Rattle.archive_client.specs.Client.{Operation, Client, client_start, client_datagram, client_timeout, state_of, file_or_client, is_too_long}
use Rattle.archive_wire.specs.declared.limits.TheConstants.{QUIET_TURNS}
use Rattle.archive_wire.specs.Wire.{Entry, Replies, Receipt, datagram, nothing, fault}
use Rattle.archive_runs.specs.Run.{Run, IsRunTurn, run_received, run_waited, begin_sized, begin_opened, put_result, WritesFetched, WritesGot}
use Rattle.archive_runs.specs.declared.pace.Pace.{Pace}
use Rattle.archive_runs.specs.Rounds.{RoundAnswers, round_received, round_goes, run_round, is_late, is_ready, IsRunRound}
use Rattle.archive_model.specs.World.{Datagram, World, Origin, empty_origin, first_world, run_from, AllMayHappen, AllMerged}
use Rattle.archive_theorem.specs.Headline.{IsOwn, HasOwnPorts, ClientsHeadline, Headline, SentOnce, IsFinishedGet}
use Rattle.archive_theorem.specs.Traces.{Member, starts, loads, trace_from, trace_steps, TraceFrom}
use Rattle.archive_model.proofs.Places.{Has-contains, Has-from_contains}
use Rattle.archive_theorem.proofs.Claim_Invariant.{AreBest, Holds, exact_port, first-best}
use Rattle.archive_theorem.proofs.Keyed as keyed
use Rattle.archive_theorem.proofs.Server_Merges.{best-taken}
use Rattle.archive_theorem.proofs.Event_Happens.{last-holds}
use Rattle.tws_best.proofs.Collections.{best-collected}
use Rattle.archive_theorem.proofs.Headline_Collections.{run_from-best}
use Rattle.archive_theorem.proofs.Keeper_Runs.{own-ruleset}
use Rattle.archive_theorem.proofs.Trace_Runs.{trace-makes, trace_merged, trace-clients, trace-headline}
use Rattle.archive_running.specs.Members.{sent_in_calls, come_to, does, received_members, quiet_members, client_members, arrived_members, goes_members, round_members}
use Rattle.archive_running.specs.Archive.{Archive, idle, IsStrangers, Brings, own_endpoint, after_begin, after_client_turn, after_restart, after_end, LoadsKept, LoadsWith, Moves, server_turns, server_rounds, server_restarts, server_ends, client_begins, client_turns, client_rounds, Reaches, reported, unreported, more, ArchiveRun, world_of, Mirrors, WritesFinished}
use Rattle.archive_running.proofs.Member_Fits.{all-may, all-merged}
use Rattle.archive_running.proofs.World_Shows.{Shows, with_client, shows-mirrors}
use Rattle.archive_running.proofs.Member_Makes.{Makes, IsBrought, begin-makes, client-makes, waits-makes, restart-makes}
use Rattle.archive_running.proofs.Keeper_Restarts.{KeptIn, HaveTexts, turn-kept, restart-same, restart-with}
use Rattle.archive_running.proofs.Keeper_Unknown.{end-makes}
use Rattle.archive_running.proofs.Server_Visits.{Brought, makes-then, sent-sendings, turn-makes, round-makes}

-- ---- a turn of a client

-- a turn in which the client does nothing
shows-idle : (a : Archive) (w : World) (e : Endpoint) (c : Client) → lookup (is_same e) a.clients ≡ Some c → Shows a w → Shows (with_client e c [] a) w
shows-idle a w e c is h =
    let make : List (Endpoint × Client) → List Datagram → Archive =
    λ cs l. record { home = a.home; server = a.server; clients = cs; begun = a.begun; taken = a.taken; net = l; kept = a.kept } in
    let net = subst (λ (l : List Datagram). Shows (make a.clients l) w) (sym (append-nil a.net)) h in
    subst (λ (cs : List (Endpoint × Client)). Shows (make cs (a.net ++ [])) w) (sym (set_value_same (is_same e) a.clients c is)) net

module _ (a : Archive) (w : World) (h : Shows a w) (host : ℕ) (r : Run) (away : host ≢ a.home.host)
    (is : lookup (is_same (own_endpoint host r)) a.clients ≡ Some r.client) where
  -- a quiet turn is a time-out of the world, or nothing
  waited_made : (last : Bool) (ok : Bool) →
      let ran = run_waited last r ok in
      Makes (with_client (own_endpoint host r) ran.run.client (sent_in_calls host ran.calls) a) (quiet_members last host r) w
  waited_made true ok =
      subst (λ (l : List Datagram). Makes (with_client (own_endpoint host r) (client_timeout r.client).client l a) (quiet_members true host r) w)
      (sym (sent-sendings host (client_timeout r.client).out ok))
      (waits-makes a w h (own_endpoint host r) r.client away is)
  waited_made false ok = record { fit = tt; shows = shows-idle a w (own_endpoint host r) r.client is h }

  -- by what is received: the turn is a delivery, a time-out or nothing
  received_made : (receipt : Receipt) (verdict : Verdict) (ok : Bool) →
      let ran = run_received receipt verdict ok r in
      Brought host ran.calls a → Makes (with_client (own_endpoint host r) ran.run.client (sent_in_calls host ran.calls) a)
      (received_members receipt verdict host r) w
  received_made (datagram from bytes) verdict ok brought =
      let x = client_datagram verdict from bytes r.client in
      subst (λ (l : List Datagram). Makes (with_client (own_endpoint host r) x.client l a) (received_members (datagram from bytes) verdict host r) w)
      (sym (sent-sendings host x.out ok))
      (client-makes a w h (own_endpoint host r) r.client away is from bytes verdict (brought _ (record { position = 0; is = refl })))
  received_made nothing verdict ok brought = waited_made (nat_le r.left 1) ok
  received_made fault verdict ok brought = waited_made (nat_le r.left 1) ok

  -- so any turn of the client makes its members
  run_made : (new : Run) (calls : List Entry) (t : IsRunTurn r new calls) → Brought host calls a →
      Makes (after_client_turn host r new calls a) (client_members t.answers host r) w
  run_made new calls t brought =
      let ran = run_received t.answers.receipt t.answers.verdict t.answers.sent r in
      let made = received_made t.answers.receipt t.answers.verdict t.answers.sent (subst (λ (l : List Entry). Brought host l a) t.calls_are brought) in
      let members = client_members t.answers host r in
      let sent =
      subst (λ (l : List Entry). Makes (with_client (own_endpoint host r) ran.run.client (sent_in_calls host l) a) members w) (sym t.calls_are) made in
      subst (λ (x : Run). Makes (with_client (own_endpoint host r) x.client (sent_in_calls host calls) a) members w) (sym t.run) sent

-- ---- a round of a client

module _ (a : Archive) (w : World) (h : Shows a w) (host : ℕ) (r : Run) (away : host ≢ a.home.host)
    (is : lookup (is_same (own_endpoint host r)) a.clients ≡ Some r.client) (pace : Pace) where
  -- what a client does with what it receives in a round makes its members
  arrived_made : (receipt : Receipt) (verdict : Verdict) (time : ℕ) (ok : Bool) →
      let ran = round_received receipt pace time verdict ok r in
      Brought host ran.calls a → Makes (with_client (own_endpoint host r) ran.run.client (sent_in_calls host ran.calls) a)
      (arrived_members receipt verdict host r) w
  arrived_made (datagram from bytes) verdict time ok brought =
      let x = client_datagram verdict from bytes r.client in
      subst (λ (l : List Datagram). Makes (with_client (own_endpoint host r) x.client l a) (arrived_members (datagram from bytes) verdict host r) w)
      (sym (sent-sendings host x.out ok))
      (client-makes a w h (own_endpoint host r) r.client away is from bytes verdict (brought _ (record { position = 0; is = refl })))
  arrived_made nothing verdict time ok brought = record { fit = tt; shows = shows-idle a w (own_endpoint host r) r.client is h }
  arrived_made fault verdict time ok brought = record { fit = tt; shows = shows-idle a w (own_endpoint host r) r.client is h }

  -- and so does a time-out of a round, or nothing
  goes_made : (late here : Bool) (x : RoundAnswers) →
      let ran = round_goes late here pace x r in
      Brought host ran.calls a → Makes (with_client (own_endpoint host r) ran.run.client (sent_in_calls host ran.calls) a)
      (goes_members late here x host r) w
  goes_made true here x brought =
      subst (λ (l : List Datagram). Makes (with_client (own_endpoint host r) (client_timeout r.client).client l a) (goes_members true here x host r) w)
      (sym (sent-sendings host (client_timeout r.client).out x.sent))
      (waits-makes a w h (own_endpoint host r) r.client away is)
  goes_made false true x brought = arrived_made x.receipt x.verdict x.time x.sent brought
  goes_made false false x brought = record { fit = tt; shows = shows-idle a w (own_endpoint host r) r.client is h }

  -- so any round of the client makes its members
  round_made : (new : Run) (calls : List Entry) (t : IsRunRound pace r new calls) → Brought host calls a →
      Makes (after_client_turn host r new calls a) (round_members pace t.answers host r) w
  round_made new calls t brought =
      let ran = run_round pace t.answers r in
      let made =
      goes_made (is_late pace r t.answers) (is_ready r.port t.answers.ready) t.answers
      (subst (λ (l : List Entry). Brought host l a) t.calls_are brought) in
      let members = round_members pace t.answers host r in
      let sent =
      subst (λ (l : List Entry). Makes (with_client (own_endpoint host r) ran.run.client (sent_in_calls host l) a) members w) (sym t.calls_are) made in
      subst (λ (x : Run). Makes (with_client (own_endpoint host r) x.client (sent_in_calls host calls) a) members w) (sym t.run) sent

-- ---- a begin

module _ (a : Archive) (w : World) (h : Shows a w) (host : ℕ) (operation : Operation) (replies : Replies) (r : Run)
    (away : host ≢ a.home.host) where
  -- with a port that was opened, whether or not the file is too long
  sized_made : (long : Bool) (port : ℕ) → is_too_long operation ≡ long →
      (begin_sized long a.home operation port replies).result ≡ Ok r →
      Makes (after_begin host operation r (begin_sized long a.home operation port replies).calls a)
      (does (starts (own_endpoint host r) operation) ∷ []) w
  sized_made true port is e = absurd cc
  sized_made false port is e =
      let begun = begin_sized false a.home operation port replies in
      let first : Run = record { client = client_start port a.home operation; port = port; left = QUIET_TURNS } in
      let same : first ≡ r = cc in
      subst (λ (x : Run). Makes (after_begin host operation x begun.calls a) (does (starts (own_endpoint host x) operation) ∷ []) w) same
      (begin-makes a w h (record { host = host; port = port }) operation away is)

  -- any begin that succeeds
  begin_made : (port : Option ℕ) → (begin_opened port a.home operation replies).result ≡ Ok r →
      Makes (after_begin host operation r (begin_opened port a.home operation replies).calls a) (does (starts (own_endpoint host r) operation) ∷ []) w
  begin_made (Some port) e = sized_made (is_too_long operation) port refl e
  begin_made None e = absurd cc

-- ---- a run

-- what the network brings, by places among the datagrams sent
by_places : (host : ℕ) (calls : List Entry) (a : Archive) → Brings host calls a → Brought host calls a
by_places host calls a brings d has = by (brings d (Has-contains (come_to host calls) d has))
  where
    by : Contains a.net d ⊎ IsStrangers d a → IsBrought d a
    by (inl old) = inl (Has-from_contains a.net d old)
    by (inr stranger) = inr stranger

-- a put returns Ok only if its client counts the file as sent
pub put_sent : (s : State) (len n : ℕ) → put_result s len ≡ Ok n → s ≡ state.Sent
put_sent state.Running len n e = absurd cc
put_sent state.Sent len n e = refl
put_sent state.Got len n e = absurd cc
put_sent (state.Failed why) len n e = absurd cc

-- collections that are the best over files can be written as texts
texts_over : (taken : List Taken) (maps : Maps) → AreBest taken maps → HaveTexts maps
texts_over taken maps best =
    record {
      rules = own-ruleset taken maps best;
      lynx = best-collected Lynx _ maps.lynx best.lynx;
      ms = best-collected Ms _ maps.ms best.ms;
    }

-- ---- from the server of an origin

module _ (o : Origin) where
  -- the world at first
  abbrev first : World
  first = first_world o

  -- so far: the members are the world's, and the keeper has what the server has
  record Made (a : Archive) (members : List Member) : Type 0 where
    makes : Makes a members first
    kept : KeptIn a.kept a.server.maps

  -- each file that the steps of the trace take makes the collections after it
  steps_merged : (a : Archive) (members : List Member) → Makes a members first → AllMerged (trace_steps members first) first
  steps_merged a members makes =
      trace_merged members first (all-may members first makes.fit) (all-merged members first makes.fit)

  -- so the server's collections are the best over the files taken
  are_best : (a : Archive) (members : List Member) → Makes a members first → AreBest (trace_from members first).taken a.server.maps
  are_best a members makes =
      let steps = trace_steps members first in
      let best = run_from-best steps first (steps_merged a members makes) (first-best o) in
      let made : run_from steps first ≡ trace_from members first = trace-makes members first (all-may members first makes.fit) in
      let traced = subst (λ (w : World). AreBest w.taken w.server.maps) made best in
      subst (λ (s : Table). AreBest (trace_from members first).taken s.maps) makes.shows.server traced

  -- so each can be written as a text of its own ruleset
  texts_of : (a : Archive) (members : List Member) → Makes a members first → HaveTexts a.server.maps
  texts_of a members makes = texts_over (trace_from members first).taken a.server.maps (are_best a members makes)

  -- a move of the server
  served : (a b : Archive) (members added : List Member) → Made a members → Makes b added (trace_from members first) →
      (HaveTexts b.server.maps → KeptIn b.kept b.server.maps) → Made b (members ++ added)
  served a b members added before makes kept =
      let whole = makes-then b members added a first before.makes makes in
      record { makes = whole; kept = kept (texts_of b (members ++ added) whole) }

  -- a move of a client
  asked : (a b : Archive) (members added : List Member) → Made a members → b.server ≡ a.server → b.kept ≡ a.kept →
      Makes b added (trace_from members first) → Made b (members ++ added)
  asked a b members added before server kept makes =
      record {
        makes = makes-then b members added a first before.makes makes;
        kept = subst (λ (log : Option (List Keeping)). KeptIn log b.server.maps) (sym kept)
            (subst (λ (s : Table). KeptIn a.kept s.maps) (sym server) before.kept);
      }

  -- a restart, which loads what the keeper has
  restarted : (a : Archive) (members : List Member) (maps : Maps) (now : Option (List Keeping)) → LoadsKept a.kept now a.server.maps maps →
      Made a members → Made (after_restart maps now a) (members ++ does loads ∷ [])
  restarted a members maps now has before =
      let same = restart-same a.kept now a.server.maps maps has before.kept in
      let makes = restart-makes a (trace_from members first) before.makes.shows now in
      let whole : Made (after_restart a.server.maps now a) (members ++ does loads ∷ []) =
      record { makes = makes-then _ members _ a first before.makes makes; kept = same.1 } in
      subst (λ (m : Maps). Made (after_restart m now a) (members ++ does loads ∷ [])) (sym same.0) whole

  -- the world keeps the transfers of its server apart
  holds_of : (a : Archive) (members : List Member) → Makes a members first → Holds (trace_from members first)
  holds_of a members makes =
      let steps = trace_steps members first in
      subst Holds (trace-makes members first (all-may members first makes.fit))
      (last-holds o (record { steps = steps; merged = steps_merged a members makes }))

  -- an end in a keep, which the next start finds
  ended : (a : Archive) (members : List Member) (t : Taken) (maps : Maps) (calls : List Entry) (later : Option (List Keeping)) (added : List Member) →
      LoadsWith t.file a.kept later a.server.maps maps → Made a members →
      (IsMerged t.file a.server.maps maps → Makes (after_end t maps calls later a) added (trace_from members first)) →
      Made (after_end t maps calls later a) (members ++ added)
  ended a members t maps calls later added finds before makes =
      let best = are_best a members before.makes in
      let texts : (m : Maps) → IsMerged t.file a.server.maps m → HaveTexts m =
      λ m merged. texts_over _ m (best-taken (trace_from members first).taken t a.server.maps m best merged) in
      let has = restart-with t.file a.kept later a.server.maps maps finds before.kept texts in
      record { makes = makes-then _ members added a first before.makes (makes has.0); kept = has.1 }

  -- any move
  moved : {a b : Archive} {members added : List Member} → Made a members → Moves a b added → Made b (members ++ added)
  moved {members} before (server_turns a last timers policies new took calls now t brings) =
      served a _ members _ before
      (turn-makes a (trace_from members first) last timers policies new took calls now t before.makes.shows (by_places a.home.host calls a brings))
      (λ texts. turn-kept _ _ a.server new.table _ _ took calls a.kept now t.visits texts before.kept)
  moved {members} before (server_rounds a last timers policies new took calls now t brings) =
      served a _ members _ before
      (round-makes a (trace_from members first) last timers policies new took calls now t before.makes.shows (by_places a.home.host calls a brings))
      (λ texts. turn-kept _ _ a.server new.table _ _ took _ a.kept now t.visits texts before.kept)
  moved {members} before (server_restarts a maps now has) = restarted a members maps now has before
  moved {members} before (server_ends a mode port from bytes timers left new took calls now later p t maps came refused wanted brings finds) =
      let w = trace_from members first in
      let h = holds_of a members before.makes in
      let apart = subst (λ (s : Table). keyed.IsApart at_port exact_port s.live) before.makes.shows.server h.apart in
      ended a members t maps calls later _ finds before
      (end-makes a w before.makes.shows apart mode port from bytes timers left new took calls now p t maps came refused wanted
      (by_places a.home.host calls a brings) later)
  moved {members} before (client_begins a host operation port replies r away is) =
      asked a _ members _ before refl refl
      (begin_made a (trace_from members first) before.makes.shows host operation replies r away port is)
  moved {members} before (client_turns a host old new calls t away is brings) =
      asked a _ members _ before refl refl
      (run_made a (trace_from members first) before.makes.shows host old away is new calls t (by_places host calls a brings))
  moved {members} before (client_rounds a host pace old new calls t away is brings) =
      asked a _ members _ before refl refl
      (round_made a (trace_from members first) before.makes.shows host old away is pace new calls t (by_places host calls a brings))

  -- before the first move
  idle_made : (kept : Option (List Keeping)) → KeptIn kept o.maps → Made (idle o kept) []
  idle_made kept has =
      record {
        makes = record {
          fit = tt;
          shows = record {
            home = refl;
            server = refl;
            clients = refl;
            begun = refl;
            taken = refl;
            net = λ d has. let never = has.is in absurd cc;
            others = λ d has. let never = has.is in absurd cc;
            sent = λ e c is sent. absurd cc;
            got = λ e c file is given. absurd cc;
            known = λ e. refl;
            apart = All-nil (λ p. p ≢ o.home.port);
          };
        };
        kept = has;
      }

  -- so for each run of the archive
  reached : {a : Archive} {members : List Member} → Reaches o a members → Made a members
  reached (reported log has) = idle_made (Some log) has
  reached unreported = idle_made None tt
  reached (more before move) = moved (reached before) move

  -- ---- what is promised

  module _ (r : ArchiveRun o) where
    -- the world of its trace has what it has
    pub run-mirrors : Mirrors r.archive (world_of r)
    run-mirrors = shows-mirrors r.archive (world_of r) (reached r.reaches).makes.shows

    -- each event of the world's run may happen
    pub run-happens : AllMayHappen (trace_steps r.members first) first
    run-happens = all-may r.members first (reached r.reaches).makes.fit

    -- each file that the world's run takes makes the collections after it
    pub run-merged : AllMerged (trace_steps r.members first) first
    run-merged = steps_merged r.archive r.members (reached r.reaches).makes

    -- a keeper with a log has what is loaded as the server's collections
    pub run-kept : KeptIn r.archive.kept r.archive.server.maps
    run-kept = (reached r.reaches).kept

    -- its members are a trace
    pub run-trace : TraceFrom o
    run-trace =
        record { members = r.members; may = run-happens; merged = all-merged r.members first (reached r.reaches).makes.fit }

    -- the headline holds for each client whose ports are its own
    pub run-clients : ClientsHeadline o (world_of r)
    unfolding run-trace
    run-clients = trace-clients o run-trace

    module _ (e : Endpoint) (own : IsOwn (world_of r) e) (c : Client) where
      -- if its put returned Ok, its file was taken exactly once
      pub run-sent : (len n : ℕ) → lookup (is_same e) r.archive.clients ≡ Some c → put_result (state_of c) len ≡ Ok n →
          SentOnce (world_of r).past e
      run-sent len n is ok =
          let among = run-mirrors.sent e c is (put_sent (state_of c) len n ok) in
          (run-clients.client e (run-clients.sent e among) own).sent among

      -- what it has fetched is the collection at one of its own requests
      finished_get : (file : List ℕ) → Contains (world_of r).got (record { client = e; file = file }) →
          IsFinishedGet (world_of r).past (record { client = e; file = file })
      finished_get file among = (run-clients.client e (run-clients.got _ among) own).got _ among refl

      -- what a get writes that returns Ok is that file
      written_finished : (file : Result (List ℕ) Client) → file_or_client c ≡ file → (len : ℕ) (written now : Option (List ℕ)) →
          lookup (is_same e) r.archive.clients ≡ Some c → WritesFetched file (Ok len) written now →
          WritesFinished e c len (world_of r) written now
      written_finished (Ok file) given len written now is writes =
          record {
            file = file;
            is_got = given;
            size = writes.0;
            appends = writes.1;
            finished = finished_get file (run-mirrors.got e c file is given);
          }
      written_finished (Err k) given len written now is writes = absurd writes

      -- if its get returned Ok, what it wrote is the whole of such a file
      pub run-fetched : (len : ℕ) (written now : Option (List ℕ)) → lookup (is_same e) r.archive.clients ≡ Some c →
          WritesGot c (Ok len) written now → WritesFinished e c len (world_of r) written now
      run-fetched len written now is writes = written_finished (file_or_client c) refl len written now is writes.writes

-- a server that has nothing at first
pub run-headline : (home : Endpoint) (r : ArchiveRun (empty_origin home)) → HasOwnPorts (world_of r) → Headline (world_of r)
unfolding run-trace
run-headline home r own = trace-headline home (run-trace (empty_origin home) r) own
