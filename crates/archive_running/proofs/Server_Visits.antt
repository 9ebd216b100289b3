-- A turn or a round of the server is a list of members: those of its visit, and then its time-outs.
use Rattle.std.proofs.Common.{◌≡◌, ◌≢◌, ℕ, Bool, true, false, ◌==◌, ◌&&◌, not, List, [], ◌∷◌, ◌++◌, fold, Option, None, Some, is_some, refl, ap, sym, ◌∙◌, subst, append-nil, append_assoc}
use Rattle.std.proofs.lemmas.Bool.{eqb-false}
use Rattle.std.proofs.lemmas.Grind.{flat_map-append}
use Rattle.tftp_packet.specs.declared.endpoint.Endpoint.{Endpoint}
use Rattle.tftp_packet.specs.declared.out.Out.{Out}
use Rattle.tftp_ends.specs.Ends.{Verdict}
use Rattle.archive_table.specs.Table.{Table, Transfer, Taken, Merges, transfer_at, port_above, table_timeout, table_request, table_datagram}
use Rattle.archive_table.specs.Keeper.{Keeping}
use Rattle.archive_server.specs.declared.mode.Mode.{Mode}
use Rattle.archive_server.specs.declared.mode.Mode.TheVariants.{Turn, Round}
use Rattle.archive_server.specs.declared.next.Next.{Next}
use Rattle.archive_server.specs.declared.policies.Policies.{Policies}
use Rattle.archive_server.specs.declared.next.Next.TheVariants as next
use Rattle.archive_server.specs.declared.timer.Timer.{Timer}
use Rattle.archive_server.specs.Timers.{timers_after, restart}
use Rattle.archive_wire.specs.Wire.{Entry, Replies, Receipt, datagram, nothing, fault, sendings}
use Rattle.archive_server.specs.Turn.{Answers, Visited, step_calls, transfer_received, is_usable, request_used, request_spared, request_admitted, request_received, Walk, walk_on, walk_after, next_visit, next_of, port_next, ready_next, turn_next, IsTurnIn, Server, IsTurn, IsRound}
use Rattle.archive_model.specs.World.{Datagram, World, taken_with}
use Rattle.archive_theorem.specs.Traces.{Member, server_waits_long, after_deed, trace_from}
use Rattle.archive_model.proofs.Places.{Has, Has-prefix, either}
use Rattle.archive_running.specs.Members.{arrival, sent_in, come_in, sent_in_calls, come_to, does, transfer_members, used_members, spared_members, admitted_members, request_members, visit_members, late_members}
use Rattle.archive_running.specs.Archive.{Archive, after_server, server_in}
use Rattle.archive_running.proofs.Member_Fits.{fit-append, trace-append}
use Rattle.archive_running.proofs.Server_Ports.{IsApart, above-apart}
use Rattle.archive_running.proofs.World_Shows.{Shows, outs, sent-calls, with_answer}
use Rattle.archive_running.proofs.Member_Makes.{Makes, IsBrought, request-makes, transfer-makes, timeout-makes}

-- ---- members one after another

-- members and then more members: the world has what the last archive has
pub makes-then : (c : Archive) (ms ns : List Member) (b : Archive) (w : World) → Makes b ms w → Makes c ns (trace_from ms w) → Makes c (ms ++ ns) w
makes-then c ms ns b w first next =
    record {
      fit = fit-append ms ns w first.fit next.fit;
      shows = subst (Shows c) (sym (trace-append ms ns w)) next.shows;
    }

-- nothing is sent, taken or changed
pub shows-still : (a : Archive) (w : World) → Shows a w → Shows (with_answer a.server None [] a) w
shows-still a w h =
    record {
      home = h.home;
      server = h.server;
      clients = h.clients;
      begun = h.begun;
      taken = h.taken;
      net = λ d has. h.net d (subst (λ (l : List Datagram). Has l d) (append-nil a.net) has);
      others = λ d has. either (λ was. subst (λ (l : List Datagram). Has l d) (sym (append-nil a.net)) was) (λ stray. stray) (h.others d has);
      sent = h.sent;
      got = h.got;
      known = h.known;
      apart = h.apart;
    }

-- ---- what calls send and receive

-- the call that sends a datagram sends that
pub sent-sendings : (host : ℕ) (out : Option Out) (ok : Bool) → sent_in_calls host (sendings out ok) ≡ outs host out
sent-sendings host None ok = refl
sent-sendings host (Some out) ok = refl

-- what calls send in two parts
sent-more : (net : List Datagram) (host : ℕ) (before after : List Entry) →
    net ++ sent_in_calls host before ++ sent_in_calls host after ≡ net ++ sent_in_calls host (before ++ after)
sent-more net host before after =
    append_assoc net (sent_in_calls host before) (sent_in_calls host after)
    ∙ ap (λ (l : List Datagram). net ++ l) (sym (flat_map-append (sent_in host) before after))

-- what calls bring, by places
abbrev pub Brought : (host : ℕ) → List Entry → Archive → Type 0
Brought host calls a = (d : Datagram) → Has (come_to host calls) d → IsBrought d a

-- what the first of the calls bring is among what all bring
pub brought-first : (host : ℕ) (before after : List Entry) (a : Archive) → Brought host (before ++ after) a → Brought host before a
brought-first host before after a brought d has =
    brought d (Has-prefix (come_to host before) (come_to host (before ++ after)) d
    (record { rest = come_to host after; is = flat_map-append (come_in host) before after }) has)

-- ---- a visit of the server

-- The request port is no transfer's.
abbrev IsFit : Next → Table → Type 0
IsFit next.Request s = Unit {0}
IsFit (next.Transfer port) s = port ≢ s.request
IsFit next.Nowhere s = Unit {0}

module _ (a : Archive) (w : World) (h : Shows a w) where
  -- the world makes the members of the visit, and then has what the archive has after it
  abbrev pub VisitMakes : Visited → List Member → Type 0
  VisitMakes v ms = Makes (after_server v.server v.taken v.calls a.kept a) ms w

  -- what calls send is what they are given to send
  by_calls : (s : Table) (took : Option Taken) (calls : List Entry) (sent : List Datagram) (ms : List Member) →
      sent_in_calls a.home.host calls ≡ sent → Makes (with_answer s took sent a) ms w →
      Makes (after_server s took calls a.kept a) ms w
  by_calls s took calls sent ms is makes = subst (λ (l : List Datagram). Makes (with_answer s took l a) ms w) (sym is) makes

  -- a visit that receives nothing has no members
  nothing_made : Makes (with_answer a.server None [] a) [] w
  nothing_made = record { fit = tt; shows = shows-still a w h }

  -- a visit to a transfer's port
  transfer_made : (receipt : Receipt) (answers : Answers) (port : ℕ) → port ≢ a.server.request →
      let v = transfer_received receipt answers port a.server in
      Brought a.home.host v.calls a → Merges v.taken a.server.maps v.server.maps → VisitMakes v (transfer_members a.home.host receipt answers port)
  transfer_made (datagram from bytes) answers port other brought merges =
      let x = table_datagram answers.grant answers.maps port from bytes a.server in
      let v = transfer_received (datagram from bytes) answers port a.server in
      by_calls x.server x.step.taken v.calls (outs a.home.host x.step.out) _
      (sent-calls a.home.host x.step.closed port x.step.out answers.replies)
      (transfer-makes a w h port from bytes answers.grant answers.maps other (brought _ (record { position = 0; is = refl })) merges)
  transfer_made nothing answers port other brought merges = nothing_made
  transfer_made fault answers port other brought merges = nothing_made

  -- a port that can be used is not the request port, and no transfer is at it
  usable : (x y z : Bool) → (not x && not y && not z) ≡ true → (y ≡ false) × (z ≡ false)
  usable true y z e = absurd cc
  usable false true z e = absurd cc
  usable false false true e = absurd cc
  usable false false false e = (refl, refl)

  none_some : (o : Option Transfer) → is_some o ≡ false → o ≡ None
  none_some None e = refl
  none_some (Some t) e = absurd cc

  -- a request, whether or not the spare port can be used
  used_made : (usable_is : Bool) (spare : ℕ) → is_usable spare a.server ≡ usable_is →
      (verdict : Verdict) (replies : Replies) (from : Endpoint) (bytes : List ℕ) →
      let v = request_used usable_is spare verdict replies from bytes a.server in
      IsBrought (arrival a.home.host a.server.request from bytes) a → VisitMakes v (used_members a.home.host usable_is spare verdict from bytes a.server)
  used_made true spare is verdict replies from bytes brought =
      let parts = usable (spare == 0) (spare == a.server.request) (is_some (transfer_at spare a.server)) is in
      let x = table_request verdict spare from bytes a.server in
      let v = request_used true spare verdict replies from bytes a.server in
      by_calls x.server x.step.taken v.calls (outs a.home.host x.step.out) _
      (sent-calls a.home.host (not x.step.opened) spare x.step.out replies)
      (request-makes a w h spare from bytes verdict (eqb-false _ _ parts.0) (none_some _ parts.1) brought)
  used_made false spare is verdict replies from bytes brought = nothing_made

  -- whether or not a spare port was opened
  spared_made : (spare : Option ℕ) (verdict : Verdict) (replies : Replies) (from : Endpoint) (bytes : List ℕ) →
      let v = request_spared spare verdict replies from bytes a.server in
      IsBrought (arrival a.home.host a.server.request from bytes) a → VisitMakes v (spared_members a.home.host spare verdict from bytes a.server)
  spared_made (Some spare) verdict replies from bytes brought =
      used_made (is_usable spare a.server) spare refl verdict replies from bytes brought
  spared_made None verdict replies from bytes brought = nothing_made

  -- whether or not it was let in
  admitted_made : (admitted : Bool) (answers : Answers) (from : Endpoint) (bytes : List ℕ) →
      let v = request_admitted admitted answers from bytes a.server in
      IsBrought (arrival a.home.host a.server.request from bytes) a → VisitMakes v (admitted_members a.home.host admitted answers from bytes a.server)
  admitted_made true answers from bytes brought =
      spared_made answers.spare answers.verdict answers.replies from bytes brought
  admitted_made false answers from bytes brought = nothing_made

  -- a visit to the request port
  request_made : (receipt : Receipt) (answers : Answers) →
      let v = request_received receipt answers a.server in
      Brought a.home.host v.calls a → VisitMakes v (request_members a.home.host receipt answers a.server)
  request_made (datagram from bytes) answers brought =
      admitted_made answers.admitted answers from bytes (brought _ (record { position = 0; is = refl }))
  request_made nothing answers brought = nothing_made
  request_made fault answers brought = nothing_made

  -- any visit
  visit_made : (n : Next) → IsFit n a.server → (answers : Answers) →
      let v = next_visit n answers a.server in
      Brought a.home.host v.calls a → Merges v.taken a.server.maps v.server.maps → VisitMakes v (visit_members a.home.host n answers a.server)
  visit_made next.Request fit answers brought merges = request_made answers.receipt answers brought
  visit_made (next.Transfer port) fit answers brought merges = transfer_made answers.receipt answers port fit brought merges
  visit_made next.Nowhere fit answers brought merges = nothing_made

-- ---- time-outs

-- time-outs, port by port
pub walk_made : (late : List (ℕ × Replies)) (due : ℕ) (k : Walk) (a : Archive) (w : World) → Shows (after_server k.server None k.calls a.kept a) w →
    let end = fold (walk_on due) k late in
    Makes (after_server end.server None end.calls a.kept a) (late_members late) w
walk_made [] due k a w h = record { fit = tt; shows = h }
walk_made (e ∷ late) due k a w h =
    let x = table_timeout e.0 k.server in
    let calls = step_calls x.step.closed e.0 x.step.out e.1 in
    let m = does (server_waits_long e.0) in
    let first = timeout-makes (after_server k.server None k.calls a.kept a) w h e.0 in
    let net : a.net ++ sent_in_calls a.home.host k.calls ++ outs a.home.host x.step.out ≡ a.net ++ sent_in_calls
    a.home.host (k.calls ++ calls) =
    ap (λ (l : List Datagram). a.net ++ sent_in_calls a.home.host k.calls ++ l)
    (sym (sent-calls a.home.host x.step.closed e.0 x.step.out e.1))
    ∙ sent-more a.net a.home.host k.calls calls in
    let make : List Datagram → Archive =
    λ l. record { home = a.home; server = x.server; clients = a.clients; begun = a.begun; taken = a.taken; net = l; kept = a.kept } in
    let shown : Shows (after_server x.server None (k.calls ++ calls) a.kept a) (after_deed m.deed m.grant m.maps w) =
    subst (λ (l : List Datagram). Shows (make l) (after_deed m.deed m.grant m.maps w)) net first.shows in
    let rest = walk_made late due (walk_on due k e) a (after_deed m.deed m.grant m.maps w) shown in
    record { fit = (first.fit.0, rest.fit); shows = rest.shows }

-- what follows a visit
after_visit : (a : Archive) (w : World) (v : Visited) (end : Walk) (ms late : List Member) →
    let visited = after_server v.server v.taken v.calls a.kept a in
    Makes visited ms w →
    (Shows visited (trace_from ms w) → Makes (after_server end.server None end.calls visited.kept visited) late (trace_from ms w)) →
    (s : Table) (calls : List Entry) → s ≡ end.server → sent_in_calls a.home.host calls ≡ sent_in_calls a.home.host
    (v.calls ++ end.calls) → Makes (after_server s v.taken calls a.kept a) (ms ++ late) w
after_visit a w v end ms late first next s calls server_is calls_are =
    let both = makes-then _ ms late _ w first (next first.shows) in
    let make : Table → List Datagram → Archive =
    λ t l. record { home = a.home; server = t; clients = a.clients; begun = a.begun; taken = taken_with v.taken a.taken; net = l; kept = a.kept } in
    let net : a.net ++ sent_in_calls a.home.host v.calls ++ sent_in_calls a.home.host end.calls ≡ a.net ++ sent_in_calls
    a.home.host calls =
    sent-more a.net a.home.host v.calls end.calls ∙ ap (λ (l : List Datagram). a.net ++ l) (sym calls_are) in
    let sent = subst (λ (l : List Datagram). Makes (make end.server l) (ms ++ late) w) net both in
    subst (λ (t : Table). Makes (make t (a.net ++ sent_in_calls a.home.host calls)) (ms ++ late) w) (sym server_is) sent

-- the keeper's list is not part of it
keeps-makes : (now : Option (List Keeping)) (s : Table) (took : Option Taken) (calls : List Entry) (a : Archive) (ms : List Member) (w : World) →
    Makes (after_server s took calls a.kept a) ms w → Makes (after_server s took calls now a) ms w
keeps-makes now s took calls a ms w made =
    let h = made.shows in
    record {
      fit = made.fit;
      shows = record {
        home = h.home;
        server = h.server;
        clients = h.clients;
        begun = h.begun;
        taken = h.taken;
        net = h.net;
        others = h.others;
        sent = h.sent;
        got = h.got;
        known = h.known;
        apart = h.apart;
      };
    }

-- a visit, and the time-outs after it
visit-makes : (a : Archive) (w : World) (mode : Mode) (n : Next) (new : Table) (timers left : List Timer) (took : Bool) (calls : List Entry)
    (now : Option (List Keeping)) (p : IsTurnIn mode n a.server new timers left took calls a.kept now) →
    IsFit n a.server → Shows a w → Brought a.home.host calls a →
    Makes (after_server new (next_visit n p.answers a.server).taken calls now a) (visit_members a.home.host n p.answers a.server ++ late_members p.late) w
visit-makes a w mode n new timers left took calls now p fit h brought =
    let v = next_visit n p.answers a.server in
    let end = walk_after mode v p.late timers in
    let came : Brought a.home.host v.calls a =
    brought-first a.home.host v.calls end.calls a (subst (λ (l : List Entry). Brought a.home.host l a) p.calls_are brought) in
    let visited = after_server v.server v.taken v.calls a.kept a in
    keeps-makes now new v.taken calls a _ w
    (after_visit a w v end _ _
    (visit_made a w h n fit p.answers came p.merges)
    (λ shown. walk_made p.late (restart mode) (record { server = v.server; timers = timers_after mode v.change timers; calls = [] }) visited
    _ (shows-still visited _ shown))
    new calls p.table (ap (sent_in_calls a.home.host) p.calls_are))

-- a turn visits the request port or a transfer's
turn_fits : (last : ℕ) (found : Option ℕ) (s : Table) → port_above last s ≡ found → IsApart s → IsFit (next_of found) s
turn_fits last (Some port) s is apart = above-apart last s apart port is
turn_fits last None s is apart = tt

-- the world makes the members of a turn
pub turn-makes : (a : Archive) (w : World) (last : ℕ) (timers : List Timer) (policies : Policies) (new : Server) (took : Bool) (calls : List Entry)
    (now : Option (List Keeping)) (t : IsTurn (server_in last timers policies a) new took calls a.kept now) →
    Shows a w → Brought a.home.host calls a →
    let n = turn_next (server_in last timers policies a) in
    Makes (after_server new.table (next_visit n t.visits.answers a.server).taken calls now a)
    (visit_members a.home.host n t.visits.answers a.server ++ late_members t.visits.late) w
turn-makes a w last timers policies new took calls now t h brought =
    visit-makes a w Turn (turn_next (server_in last timers policies a)) new.table timers new.timers took calls now t.visits
    (turn_fits last (port_above last a.server) a.server refl h.apart) h brought

-- a port that is not the request port
port_fits : (is_request : Bool) (port : ℕ) (s : Table) → (port == s.request) ≡ is_request → IsFit (port_next is_request port) s
port_fits true port s is = tt
port_fits false port s is = eqb-false _ _ is

-- a round visits the request port, a transfer's or none
ready_fits : (ready : Option ℕ) (s : Table) → IsFit (ready_next ready s) s
ready_fits (Some port) s = port_fits (port == s.request) port s refl
ready_fits None s = tt

-- the world makes the members of a round
pub round-makes : (a : Archive) (w : World) (last : ℕ) (timers : List Timer) (policies : Policies) (new : Server) (took : Bool)
    (calls : List Entry) (now : Option (List Keeping)) (t : IsRound (server_in last timers policies a) new took calls a.kept now) →
    Shows a w → Brought a.home.host calls a →
    let n = ready_next t.ready a.server in
    Makes (after_server new.table (next_visit n t.visits.answers a.server).taken calls now a)
    (visit_members a.home.host n t.visits.answers a.server ++ late_members t.visits.late) w
round-makes a w last timers policies new took calls now t h brought =
    let n = ready_next t.ready a.server in
    let others : Brought a.home.host t.others a = subst (λ (l : List Entry). Brought a.home.host l a) t.calls_are brought in
    let made =
    visit-makes a w (Round t.time t.settled policies) n new.table timers new.timers took t.others now t.visits
    (ready_fits t.ready a.server) h others in
    let make : List Entry → Archive = λ l. after_server new.table (next_visit n t.visits.answers a.server).taken l now a in
    subst (λ (l : List Entry). Makes (make l) (visit_members a.home.host n t.visits.answers a.server ++ late_members t.visits.late) w) (sym t.calls_are) made
