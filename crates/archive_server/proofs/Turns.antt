-- A visit with the time-outs after it, a turn and a round of it, and many of them one after another.
use Rattle.std.specs.Prelude.{◌≡◌, ℕ, ◌+◌, ◌≤◌, Bool, true, false, List, [], ◌∷◌, ◌++◌, length, Option}
use Rattle.std.proofs.Common.{refl, sym, ap, subst, ◌∙◌}
use Rattle.archive_table.specs.declared.limits.TheConstants.{LIVE}
use Rattle.archive_table.specs.Table.{Table, IsTable, Merges, port_above}
use Rattle.archive_table.specs.Keeper.{Keeping}
use Rattle.archive_server.specs.declared.change.Change.{Change}
use Rattle.archive_server.specs.declared.change.Change.TheVariants.{Quiet, Nothing}
use Rattle.archive_server.specs.declared.mode.Mode.{Mode}
use Rattle.archive_server.specs.declared.mode.Mode.TheVariants.{Turn, Round}
use Rattle.archive_server.specs.declared.next.Next.{Next}
use Rattle.archive_server.specs.declared.next.Next.TheVariants as next
use Rattle.archive_server.specs.declared.policies.Policies.{Policies}
use Rattle.archive_server.specs.declared.timer.Timer.{Timer}
use Rattle.archive_wire.specs.Wire.{Entry, Grows, waited, Receipt, nothing}
use Rattle.archive_server.specs.Timers.{ports_of, live_ports, lower, timed, timers_if, timers_after, counts, noticed, is_quiet, late_ports, restart, earliest, HasRoom}
use Rattle.archive_server.specs.Parts.{IsVisit, Walks, MakesTurnIn}
use Rattle.archive_server.specs.Turn.{Answers, Visited, KeepsAsked, next_visit, next_asks, next_admits, walk_after, IsTurnIn, Server, next_of, ready_next, noted, noted_or, IsTurn, IsRound, TurnOrRound, MakesOne, MakesTurn, MakesRound, count_if, none, more, MakesMany}
use Rattle.archive_wire.proofs.Growing.{grows_none, grows_join}
use Rattle.archive_server.proofs.Ports.{ports_lower}
use Rattle.archive_server.proofs.Noticing.{ports_noticed}
use Rattle.archive_server.proofs.Visits.{answers_of}
use Rattle.archive_server.proofs.Following.{Keeps, transfer_keeps, request_keeps}

-- ---- the visit

-- any visit lets the timers follow the live ports, whichever port it is to
pub visit_keeps : (n : Next) (a : Answers) (s : Table) → Keeps s (next_visit n a s)
visit_keeps next.Request a s = request_keeps a s
visit_keeps (next.Transfer port) a s = transfer_keeps a port s
visit_keeps next.Nowhere a s =
    record { tracks = λ due timers same. same; room = λ timers same few. tt }

-- no port is ready
pub visit_none : (log : Option (List Entry)) (kept : Option (List Keeping)) (mode : Mode) (timers : List Timer) (n : Next)
    (s : Table) → n ≡ next.Nowhere →
    IsVisit (λ a. next_visit n a s) (λ a. next_asks n a s)
    (λ r. next_admits mode n timers r s) s s false Nothing log log kept kept
visit_none log kept mode timers n s e =
    let here : IsVisit (λ a. next_visit next.Nowhere a s) (λ a. next_asks next.Nowhere a s)
    (λ r. next_admits mode next.Nowhere timers r s) s s false Nothing log log kept kept =
    record {
      answers = answers_of nothing s;
      admitted = refl;
      server = refl;
      taken_is = refl;
      change_is = refl;
      grows =
          grows_none log;
      merges = refl;
      keeps = refl;
    } in
    subst (λ (m : Next). IsVisit (λ a. next_visit m a s) (λ a. next_asks m a s) (λ r. next_admits mode m timers r s) s s false Nothing log log kept kept) (sym e) here

-- there is a place for the timer of a port that was opened
pub visit_room : {before after : Option (List Entry)} {kept now : Option (List Keeping)} (lets_in : Receipt → Bool) (n : Next)
    (s new : Table) (taken : Bool) (change : Change) (timers : List Timer) →
    IsVisit (λ a. next_visit n a s) (λ a. next_asks n a s) lets_in s new taken change before after kept now →
    ports_of timers ≡ live_ports s → IsTable new → HasRoom change timers
visit_room lets_in n s new taken change timers visit same fits =
    let few : length (next_visit n visit.answers s).server.live ≤ LIVE = subst (λ (x : Table). length x.live ≤ LIVE) visit.server fits.few in
    subst (λ (c : Change). HasRoom c timers) (sym visit.change_is) ((visit_keeps n visit.answers s).room timers same few)

-- the timers after a visit have these ports, whether or not they count down
ports_if : (b : Bool) (change : Change) (due : ℕ) (timers : List Timer) (ports : List ℕ) →
    (b ≡ true → ports_of (lower timers) ≡ ports) → ports_of (timed change due timers) ≡ ports →
    ports_of (timers_if b change due timers) ≡ ports
ports_if true change due timers ports down follows = down refl
ports_if false change due timers ports down follows = follows

-- a visit that counts down the timers was quiet, and changed no port
quiet_same : (mode : Mode) (change : Change) (due : ℕ) (timers : List Timer) → counts mode (is_quiet change) ≡ true → ports_of (timed change due timers) ≡ ports_of (lower timers)
quiet_same Turn Quiet due timers e = sym (ports_lower timers)
quiet_same mode change due timers e = absurd cc

-- the timers can follow the visit
pub visit_tracks : {before after : Option (List Entry)} {kept now : Option (List Keeping)} (lets_in : Receipt → Bool) (n : Next)
    (s new : Table) (taken : Bool) (change : Change) (mode : Mode) (timers : List Timer) →
    IsVisit (λ a. next_visit n a s) (λ a. next_asks n a s) lets_in s new taken change before after kept now →
    ports_of timers ≡ live_ports s → ports_of (timers_after mode change timers) ≡ live_ports new
visit_tracks lets_in n s new taken change mode timers visit same =
    let due : ℕ = restart mode in
    let follows : ports_of (timed change due timers) ≡ live_ports new =
    ap (λ (c : Change). ports_of (timed c due timers)) visit.change_is ∙
    (visit_keeps n visit.answers s).tracks due timers same ∙ ap live_ports (sym visit.server) in
    ports_if (counts mode (is_quiet change)) (noticed mode change) due timers (live_ports new)
    (λ e. sym (quiet_same mode change due timers e) ∙ follows) (ports_noticed mode change due timers ∙ follows)

-- ---- a visit and the time-outs after it

-- a visit and the time-outs of the ports that are due after it are a turn in this mode
pub turn_in_made : {before mid after : Option (List Entry)} {kept now : Option (List Keeping)} (mode : Mode) (n : Next)
    (s between new : Table) (timers after_visit left : List Timer) (taken : Bool) (change : Change) →
    IsVisit (λ a. next_visit n a s) (λ a. next_asks n a s)
    (λ r. next_admits mode n timers r s) s between taken change before mid kept now →
    after_visit ≡ timers_after mode change timers →
    Walks (late_ports mode change after_visit between) (restart mode) between new after_visit left mid after →
    MakesTurnIn mode n s new timers left taken before after kept now
turn_in_made {before} {mid} {after} {kept} {now} mode n s between new timers after_visit left taken change visit timers-are walks =
    let v : Visited = next_visit n visit.answers s in
    let Ends : Change → Table → List Timer → Type 0 = λ c x l. Walks (late_ports mode c l x) (restart mode) x new l left mid after in
    let by_change : Ends change between (timers_after mode change timers) = subst (Ends change between) timers-are walks in
    let by_visit : Ends v.change between (timers_after mode v.change timers) = subst (λ (c : Change). Ends c between (timers_after mode c timers)) visit.change_is by_change in
    let done : Ends v.change v.server (timers_after mode v.change timers) = subst (λ (x : Table). Ends v.change x (timers_after mode v.change timers)) visit.server by_visit in
    let calls : List Entry = v.calls ++ (walk_after mode v done.late timers).calls in
    let visits : IsTurnIn mode n s new timers left taken calls kept now = record {
      answers = visit.answers;
      admitted = visit.admitted;
      late = done.late;
      late_are = done.late_are;
      table = done.server;
      timers_are = done.timers_are;
      calls_are = refl;
      taken_is = visit.taken_is;
      merges = subst (λ (x : Table). Merges v.taken s.maps x.maps) visit.server visit.merges;
      keeps = subst (λ (x : Table). KeepsAsked (next_asks n visit.answers s) s.maps x.maps kept now) visit.server visit.keeps;
    } in
    record { calls = calls; visits = visits; grows = grows_join visit.grows done.grows }

-- ---- a turn and a round

-- a server with these parts
abbrev server_with : Table → (last : ℕ) → List Timer → Policies → Server
server_with s last timers policies = record { table = s; last = last; timers = timers; policies = policies }

-- the visit to the next live port is a turn
pub turn_made : {before after : Option (List Entry)} {kept now : Option (List Keeping)} (port : Option ℕ) (n : Next)
    (s new : Table) (last noted_last : ℕ) (policies : Policies) (timers left : List Timer) (taken : Bool) (from : Server) →
    server_with s last timers policies ≡ from → port ≡ port_above last s → n ≡ next_of port → noted_last ≡ noted port →
    MakesTurnIn Turn n s new timers left taken before after kept now →
    MakesTurn from (server_with new noted_last left policies) taken before after kept now
turn_made {before} {after} {kept} {now} port n s new last noted_last policies timers left taken from from-is port-is n-is last-is makes =
    let here : MakesTurnIn Turn (next_of (port_above last s)) s new timers left taken before after kept now =
    subst (λ (m : Next). MakesTurnIn Turn m s new timers left taken before after kept now) (n-is ∙ ap next_of port-is) makes in
    let turn : IsTurn (server_with s last timers policies) (server_with new noted_last left policies) taken here.calls kept now =
    record { visits = here.visits; last = last-is ∙ ap noted port-is; policies = refl } in
    let made : MakesTurn (server_with s last timers policies) (server_with new noted_last left policies) taken before after kept now = record { calls = here.calls; made = turn; grows = here.grows } in
    subst (λ (c : Server). MakesTurn c (server_with new noted_last left policies) taken before after kept now) from-is made

-- a wait and the visit to the port that is ready are a round
pub round_made : {before mid after : Option (List Entry)} {kept now : Option (List Keeping)} (until ready : Option ℕ) (time : ℕ)
    (settled : Option ℕ) (n : Next) (s new : Table) (last noted_last : ℕ) (policies : Policies) (timers left : List Timer) (taken : Bool)
    (from : Server) → server_with s last timers policies ≡ from → until ≡ earliest timers → n ≡ ready_next ready s →
    noted_last ≡ noted_or last ready → Grows before mid (waited last until ready time settled ∷ []) →
    MakesTurnIn (Round time settled policies) n s new timers left taken mid after kept now →
    MakesRound from (server_with new noted_last left policies) taken before after kept now
round_made {before} {mid} {after} {kept} {now} until ready time settled n s new last noted_last policies timers left taken from from-is until-is n-is last-is first makes =
    let wait : Grows before mid (waited last (earliest timers) ready time settled ∷ []) = subst (λ (u : Option ℕ). Grows before mid (waited last u ready time settled ∷ [])) until-is first in
    let here : MakesTurnIn (Round time settled policies) (ready_next ready s) s new timers left taken mid after kept now =
    subst (λ (m : Next). MakesTurnIn (Round time settled policies) m s new timers left taken mid after kept now) n-is makes in
    let calls : List Entry = waited last (earliest timers) ready time settled ∷ here.calls in
    let round : IsRound (server_with s last timers policies) (server_with new noted_last left policies) taken calls kept now =
    record {
      ready = ready;
      time = time;
      settled = settled;
      others = here.calls;
      visits = here.visits;
      calls_are = refl;
      last =
          last-is;
      policies = refl;
    } in
    let made : MakesRound (server_with s last timers policies)
    (server_with new noted_last left policies) taken before after kept now =
    record { calls = calls; made = round; grows = grows_join wait here.grows } in
    subst (λ (c : Server). MakesRound c (server_with new noted_last left policies) taken before after kept now) from-is made

-- ---- one after another

-- none of them
pub many_none : (Is : TurnOrRound) (s : Server) (log : Option (List Entry)) (kept : Option (List Keeping)) → MakesMany Is 0 s s 0 log log kept kept
many_none Is s log kept = record { calls = []; served = none s kept; grows = grows_none log }

-- some of them, and one more
pub many_more : {before mid after : Option (List Entry)} {kept midst now : Option (List Keeping)} (Is : TurnOrRound) (n taken count : ℕ)
    (took : Bool) (old between new : Server) → MakesMany Is n old between taken before mid kept midst →
    MakesOne Is between new took mid after midst now → count ≡ count_if took taken →
    MakesMany Is (n + 1) old new count before after kept now
many_more {before} {mid} {after} {kept} {midst} {now} Is n taken count took old between new so_far one count-is =
    let made : MakesMany Is (n + 1) old new (count_if took taken) before after kept now =
    record {
      calls = so_far.calls ++ one.calls;
      served = more took so_far.served one.made;
      grows =
          grows_join so_far.grows one.grows;
    } in
    subst (λ (k : ℕ). MakesMany Is (n + 1) old new k before after kept now) (sym count-is) made
