-- The timers follow the live ports: in a visit, in a time-out, and in a walk of time-outs.
use Rattle.std.specs.Prelude.{◌≡◌, ℕ, ◌+◌, ◌<◌, ◌≤◌, Bool, true, false, cond, List, [], ◌∷◌, ◌++◌, length, take, Option, None, Some}
use Rattle.std.proofs.Common.{refl, sym, ap, subst, ◌∙◌, arith, get_or}
use Rattle.std.proofs.lemmas.List.{length-map, map-append, take_more}
use Rattle.std.proofs.lemmas.List.Sums.{fold-append}
use Rattle.tftp_packet.specs.declared.out.Out.{Out}
use Rattle.archive_table.specs.declared.limits.TheConstants.{LIVE}
use Rattle.archive_table.specs.Table.{Table, IsTable, table_request, table_datagram, table_timeout}
use Rattle.archive_server.specs.declared.change.Change.{Change}
use Rattle.archive_server.specs.declared.timer.Timer.{Timer}
use Rattle.archive_wire.specs.Wire.{Entry, Grows, Replies, Receipt, datagram, nothing, fault}
use Rattle.archive_server.specs.Timers.{ports_of, live_ports, new_timer, with_timer, timed, timed_out, HasRoom, Tracks}
use Rattle.archive_server.specs.Parts.{IsTimeout, Walks}
use Rattle.archive_server.specs.Turn.{Answers, Visited, transfer_change, transfer_visit, transfer_received, timeout_visit, request_change, request_visit, request_received, request_admitted, request_spared, is_peer, request_used, is_usable, Walk, walk, walk_on}
use Rattle.archive_wire.proofs.Growing.{grows_none, grows_join}
use Rattle.archive_server.proofs.Ports.{insert_port, remove_port, ports_with, ports_without, ports_due, length_with}
use Rattle.archive_server.proofs.Requests.{server_request_step}
use Rattle.archive_server.proofs.Transfers.{server_datagram_step, server_timeout_step}
use Rattle.archive_server.proofs.Visits.{usable_free}

-- what a visit keeps
pub record Keeps (s : Table) (v : Visited) : Type 0 where
  pub tracks : (due : ℕ) (timers : List Timer) → ports_of timers ≡ live_ports s → ports_of (timed v.change due timers) ≡ live_ports v.server
  pub room : (timers : List Timer) → ports_of timers ≡ live_ports s → length v.server.live ≤ LIVE → HasRoom v.change timers

-- a step at a transfer's port: the timers have the ports that are live after it
transfer_tracks : (closed : Bool) (out : Option Out) (to_peer : Bool) (port : ℕ) (s new : Table) →
    live_ports new ≡ cond closed (remove_port port (live_ports s)) (live_ports s) → (due : ℕ) (timers : List Timer) →
    ports_of timers ≡ live_ports s → ports_of (timed (transfer_change closed out to_peer port) due timers) ≡ live_ports new
transfer_tracks true out to_peer port s new e due timers same = ports_without port timers ∙ ap (remove_port port) same ∙ sym e
transfer_tracks false (Some out) true port s new e due timers same = ports_due port due _ timers ∙ same ∙ sym e
transfer_tracks false (Some out) false port s new e due timers same = same ∙ sym e
transfer_tracks false None to_peer port s new e due timers same = same ∙ sym e

-- it opens no port, so it needs no place for a timer
transfer_room : (closed : Bool) (out : Option Out) (to_peer : Bool) (port : ℕ) (timers : List Timer) → HasRoom (transfer_change closed out to_peer port) timers
transfer_room true out to_peer port timers = tt
transfer_room false (Some out) true port timers = tt
transfer_room false (Some out) false port timers = tt
transfer_room false None to_peer port timers = tt

received_keeps : (r : Receipt) (a : Answers) (port : ℕ) (s : Table) → Keeps s (transfer_received r a port s)
received_keeps (datagram from bytes) a port s =
    let step = server_datagram_step a.grant a.maps port from bytes s in
    let made = table_datagram a.grant a.maps port from bytes s in
    record {
      tracks = transfer_tracks made.step.closed made.step.out (is_peer from port s) port s made.server step.ports;
      room = λ timers same few. transfer_room made.step.closed made.step.out (is_peer from port s) port timers;
    }
received_keeps nothing a port s =
    record { tracks = λ due timers same. same; room = λ timers same few. tt }
received_keeps fault a port s =
    record { tracks = λ due timers same. same; room = λ timers same few. tt }

-- a visit to a transfer's port lets the timers follow the live ports
pub transfer_keeps : (a : Answers) (port : ℕ) (s : Table) → Keeps s (transfer_visit a port s)
transfer_keeps a port s = received_keeps a.receipt a port s

-- a request: the timers have the ports that are live after it
request_tracks : (opened : Bool) (spare : ℕ) (s new : Table) →
    live_ports new ≡ cond opened (insert_port spare (live_ports s)) (live_ports s) → (due : ℕ) (timers : List Timer) →
    ports_of timers ≡ live_ports s → ports_of (timed (request_change opened spare) due timers) ≡ live_ports new
request_tracks true spare s new e due timers same =
    ports_with (new_timer spare due) timers ∙ ap (insert_port spare) same ∙ sym e
request_tracks false spare s new e due timers same = same ∙ sym e

-- if there are at most LIVE ports with a new one, there was a place for its timer
room_counts : (t : Timer) (timers : List Timer) (new : Table) → ports_of (with_timer t timers) ≡ live_ports new → length new.live ≤ LIVE → length timers < LIVE
room_counts t timers new e few =
    let ports : length (ports_of (with_timer t timers)) ≡ length (with_timer t timers) = length-map (with_timer t timers) (λ u. u.port) in
    let lives : length (live_ports new) ≡ length new.live = length-map new.live (λ e. e.0) in
    let longer : length (with_timer t timers) ≡ length timers + 1 = length_with t timers in
    let same : length (ports_of (with_timer t timers)) ≡ length (live_ports new) = ap length e in
    omega arith

-- so there is a place for the timer of a port that a request opens
request_room : (opened : Bool) (spare : ℕ) (s new : Table) →
    live_ports new ≡ cond opened (insert_port spare (live_ports s)) (live_ports s) → (timers : List Timer) →
    ports_of timers ≡ live_ports s → length new.live ≤ LIVE → HasRoom (request_change opened spare) timers
request_room true spare s new e timers same few =
    room_counts (new_timer spare 0) timers new (request_tracks true spare s new e 0 timers same) few
request_room false spare s new e timers same few = tt

used_keeps : (usable : Bool) (spare : ℕ) (a : Answers) (from : _) (bytes : List ℕ) (s : Table) → is_usable spare s ≡ usable → Keeps s (request_used usable spare a.verdict a.replies from bytes s)
used_keeps true spare a from bytes s e =
    let step = server_request_step a.verdict spare from bytes s (usable_free spare s e) in
    let made = table_request a.verdict spare from bytes s in
    record {
      tracks = request_tracks made.step.opened spare s made.server step.ports;
      room = request_room made.step.opened spare s made.server step.ports;
    }
used_keeps false spare a from bytes s e =
    record { tracks = λ due timers same. same; room = λ timers same few. tt }

spared_keeps : (o : Option ℕ) (a : Answers) (from : _) (bytes : List ℕ) (s : Table) → Keeps s (request_spared o a.verdict a.replies from bytes s)
spared_keeps (Some spare) a from bytes s = used_keeps (is_usable spare s) spare a from bytes s refl
spared_keeps None a from bytes s =
    record { tracks = λ due timers same. same; room = λ timers same few. tt }

admitted_keeps : (admitted : Bool) (a : Answers) (from : _) (bytes : List ℕ) (s : Table) → Keeps s (request_admitted admitted a from bytes s)
admitted_keeps true a from bytes s = spared_keeps a.spare a from bytes s
admitted_keeps false a from bytes s =
    record { tracks = λ due timers same. same; room = λ timers same few. tt }

request_keeps_at : (r : Receipt) (a : Answers) (s : Table) → Keeps s (request_received r a s)
request_keeps_at (datagram from bytes) a s =
    let kept = admitted_keeps a.admitted a from bytes s in
    record { tracks = kept.tracks; room = kept.room }
request_keeps_at nothing a s =
    record { tracks = λ due timers same. same; room = λ timers same few. tt }
request_keeps_at fault a s =
    record { tracks = λ due timers same. same; room = λ timers same few. tt }

-- a visit to the request port lets the timers follow the live ports
pub request_keeps : (a : Answers) (s : Table) → Keeps s (request_visit a s)
request_keeps a s = request_keeps_at a.receipt a s

-- ---- time-outs

-- a time-out: the timers have the ports that are live after it
timeout_ports : (closed : Bool) (out : Option Out) (port : ℕ) (s new : Table) →
    live_ports new ≡ cond closed (remove_port port (live_ports s)) (live_ports s) → (due : ℕ) (timers : List Timer) →
    ports_of timers ≡ live_ports s → ports_of (timed_out (transfer_change closed out true port) port due timers) ≡ live_ports new
timeout_ports true out port s new e due timers same = ports_without port timers ∙ ap (remove_port port) same ∙ sym e
timeout_ports false (Some out) port s new e due timers same = ports_due port due _ timers ∙ same ∙ sym e
timeout_ports false None port s new e due timers same = ports_due port due _ timers ∙ same ∙ sym e

-- a time-out at a port, by what the wire returns
pub timeout_tracks : (r : Replies) (port : ℕ) (s : Table) (due : ℕ) (timers : List Timer) → ports_of timers ≡ live_ports s →
    ports_of (timed_out (timeout_visit r port s).change port due timers) ≡ live_ports (timeout_visit r port s).server
timeout_tracks r port s due timers same =
    let made = table_timeout port s in
    timeout_ports made.step.closed made.step.out port s made.server (server_timeout_step port s).ports due timers same

-- the state in the middle of a walk
abbrev make_walk : Table → List Timer → List Entry → Walk
make_walk s timers calls = record { server = s; timers = timers; calls = calls }

-- no port has timed out yet
pub walks_none : (due : ℕ) (s : Table) (timers : List Timer) (log : Option (List Entry)) → Walks [] due s s timers timers log log
walks_none due s timers log = record { late = []; late_are = refl; server = refl; timers_are = refl; grows = grows_none log }

-- one more port times out
pub walks_more : {before mid after : Option (List Entry)} (ports : List ℕ) (due port : ℕ) (s old new : Table)
    (timers left : List Timer) (change : Change) → Walks ports due s old timers left before mid →
    IsTimeout (λ r. timeout_visit r port old) new change mid after →
    Walks (ports ++ port ∷ []) due s new timers (timed_out change port due left) before after
walks_more {before} {mid} {after} ports due port s old new timers left change walks timeout =
    let late = walks.late ++ (port, timeout.replies) ∷ [] in
    let w : Walk = walk due s timers walks.late in
    let on : Table → List Timer → Walk = λ o l. walk_on due (make_walk o l w.calls) (port, timeout.replies) in
    let split : walk due s timers late ≡ on w.server w.timers = fold-append (walk_on due) (make_walk s timers []) walks.late ((port, timeout.replies) ∷ []) in
    let same : walk due s timers late ≡ on old left = split ∙ ap (λ o. on o w.timers) (sym walks.server) ∙ ap (λ l. on old l) (sym walks.timers_are) in
    record {
      late = late;
      late_are = map-append (λ e. e.0) walks.late ((port, timeout.replies) ∷ []) ∙ ap (λ (l : List ℕ). l ++ port ∷ []) walks.late_are;
      server = timeout.server ∙ ap (λ (x : Walk). x.server) (sym same);
      timers_are = ap (λ (c : Change). timed_out c port due left) timeout.change_is ∙ ap (λ (x : Walk). x.timers) (sym same);
      grows = subst (λ (x : Walk). Grows before after x.calls) (sym same) (grows_join walks.grows timeout.grows);
    }

-- the same in a loop over the ports
pub walks_at : {before mid after : Option (List Entry)} (items : List ℕ) (i d : ℕ) (due : ℕ) (s old new : Table)
    (timers left now : List Timer) (change : Change) → i < length items → Walks (take i items) due s old timers left before mid →
    IsTimeout (λ r. timeout_visit r (get_or items i d) old) new change mid after →
    now ≡ timed_out change (get_or items i d) due left → Walks (take (i + 1) items) due s new timers now before after
walks_at {before} {mid} {after} items i d due s old new timers left now change small walks timeout now-is =
    let more : Walks (take i items ++ get_or items i d ∷ []) due s new timers
    (timed_out change (get_or items i d) due left) before after =
    walks_more (take i items) due (get_or items i d) s old new timers left change walks timeout in
    let here : Walks (take (i + 1) items) due s new timers (timed_out change (get_or items i d) due left) before after =
    subst (λ (ps : List ℕ). Walks ps due s new timers (timed_out change (get_or items i d) due left) before after)
    (sym (take_more items i d small)) more in
    subst (λ (l : List Timer). Walks (take (i + 1) items) due s new timers l before after) (sym now-is) here

-- after a time-out the timers still follow the live ports, and the server meets its invariant
pub tracks_at : {before after : Option (List Entry)} (port : ℕ) (due : ℕ) (old new : Table) (left now : List Timer)
    (change : Change) → Tracks old left → IsTimeout (λ r. timeout_visit r port old) new change before after →
    now ≡ timed_out change port due left → IsTable new → Tracks new now
tracks_at port due old new left now change tracks timeout now-is fits =
    let made = timeout_visit timeout.replies port old in
    record {
      fits = fits;
      tracks = ap ports_of now-is ∙ ap (λ (c : Change). ports_of (timed_out c port due left)) timeout.change_is ∙
          timeout_tracks timeout.replies port old due left tracks.tracks ∙ ap live_ports (sym timeout.server);
    }
