-- The run of a trace's steps does exactly the trace's deeds.
use Rattle.std.proofs.lemmas.Bool.{and_parts}
use Rattle.std.proofs.Common.{◌≡◌, ◌≢◌, ℕ, suc, ◌+◌, Bool, true, false, ◌==◌, List, [], ◌∷◌, ◌++◌, length, slice_get, Option, None, Some, refl, ap, sym, ◌∙◌, subst, arith, length-append}
use Rattle.std.specs.Option.{option_map}
use Rattle.std.specs.Str.{bytes_eq}
use Rattle.std.proofs.lemmas.Bool.{eqb-true, ne_eqb}
use Rattle.std.proofs.lemmas.Slice.Eq.{bytes_eq-Decides}
use Rattle.tftp_packet.specs.declared.endpoint.Endpoint.{Endpoint}
use Rattle.archive_table.specs.Table.{Maps, Grant, Taken, IsMerged, Transfer, is_same, transfer_at, empty_maps}
use Rattle.archive_client.specs.Client.{Operation, is_too_long}
use Rattle.archive_model.specs.World.{Datagram, Event, deliver, stray, unknown_keep, WorldStep, World, begins, begins_unless, request_comes, server_receives, arrives, delivers, strays_in, event_happens, happens, run_from, start, ends_at, IsFree, MayDeliver, MayHappen, AllMayHappen, AllMerged, Origin, RunFrom, last_world, empty_origin, first_world}
use Rattle.archive_theorem.specs.Traces.{Deed, starts, receives, client_waits_long, server_waits_long, loads, ends_in_keep, Member, is_same_datagram, position_after, position_of, named_in, server_comes, comes, ends_here, after_deed, trace_from, at_place, delivery, events_of, steps_with, member_steps, trace_steps, AllDeedsMerged, TraceFrom, trace_end}
use Rattle.archive_theorem.specs.Headline.{HasOwnPorts, ClientsHeadline, Headline}
use Rattle.archive_theorem.proofs.Event_Happens.{run-append}
use Rattle.archive_theorem.proofs.Headline_Clients.{headline, run-clients}
use Rattle.archive_theorem.proofs.Headline_Peers.{AreFromOthers, run-from_others}
use Rattle.archive_model.proofs.Places.{at-last}
use Rattle.archive_model.proofs.Endpoints.{endpoint_is, exact_endpoint}
use Rattle.archive_model.proofs.Entries.{strays_fits}

-- ---- the place of a datagram

exact_bytes : (xs ys : List ℕ) → bytes_eq xs ys ≡ true → xs ≡ ys
exact_bytes xs ys e = (bytes_eq-Decides xs ys).0 e

datagram_is : (a b : Datagram) → a.source ≡ b.source → a.target ≡ b.target → a.bytes ≡ b.bytes → a ≡ b
datagram_is a b source target bytes =
    let make : Endpoint → Endpoint → List ℕ → Datagram = λ s t xs. record { source = s; target = t; bytes = xs } in
    let whole : make a.source a.target a.bytes ≡ make b.source b.target b.bytes = cc in
    whole

-- datagrams that pass the test are equal
exact_datagram : (a b : Datagram) → is_same_datagram a b ≡ true → a ≡ b
exact_datagram a b e =
    let first = and_parts (is_same a.source b.source) _ e in
    let rest = and_parts (is_same a.target b.target) (bytes_eq a.bytes b.bytes) first.1 in
    datagram_is a b (exact_endpoint a.source b.source first.0) (exact_endpoint a.target b.target rest.0) (exact_bytes a.bytes b.bytes rest.1)

one_later : (later : Option ℕ) (position : ℕ) → option_map (λ n. n + 1) later ≡ Some position → (n : ℕ) × (later ≡ Some n) × (position ≡ suc n)
one_later None position e = absurd cc
one_later (Some n) position e = let same : n + 1 ≡ position = cc in (n, refl, omega arith)

position_in : (d x : Datagram) (xs : List Datagram) (first : Bool) → is_same_datagram x d ≡ first →
    ((n : ℕ) → position_of d xs ≡ Some n → slice_get xs n ≡ Some d) → (position : ℕ) →
    position_after first (position_of d xs) ≡ Some position → slice_get (x ∷ xs) position ≡ Some d
position_in d x xs true is rest position e =
    let zero_is : 0 ≡ position = cc in
    ap (slice_get (x ∷ xs)) (sym zero_is) ∙ ap Some (exact_datagram x d is)
position_in d x xs false is rest position e =
    let later = one_later (position_of d xs) position e in
    ap (slice_get (x ∷ xs)) later.2 ∙ rest later.0 later.1

-- the place that is found has this datagram
pub found_at : (d : Datagram) (net : List Datagram) (position : ℕ) → position_of d net ≡ Some position → slice_get net position ≡ Some d
found_at d [] position e = absurd cc
found_at d (x ∷ xs) position e = position_in d x xs (is_same_datagram x d) refl (found_at d xs) position e

-- ---- one delivery

same_found : {A : Type 0} (o : Option A) (x y : A) → o ≡ Some x → o ≡ Some y → x ≡ y
same_found o x y is also = let both : Some x ≡ Some y = sym is ∙ also in cc

-- a request whose spare port is free does what the deed does
request_fits : (w : World) (d : Datagram) (spare : ℕ) (grant : Grant) (maps : Maps) → IsFree spare w →
    request_comes (spare == w.server.request) (transfer_at spare w.server) spare grant d w ≡ server_comes true spare grant maps d w
request_fits w d spare grant maps free =
    ap (λ (used : Bool). request_comes used (transfer_at spare w.server) spare grant d w) (ne_eqb spare w.server.request free.other)
    ∙ ap (λ (live : Option Transfer). request_comes false live spare grant d w) free.free

-- so does a datagram at the server's host
server_fits : (w : World) (d : Datagram) (spare : ℕ) (grant : Grant) (maps : Maps) (request : Bool) → (request ≡ true → IsFree spare w) →
    server_receives request spare grant maps d w ≡ server_comes request spare grant maps d w
server_fits w d spare grant maps true free = request_fits w d spare grant maps (free refl)
server_fits w d spare grant maps false free = refl

-- and one at any host
arrives_fits : (w : World) (d : Datagram) (spare : ℕ) (grant : Grant) (maps : Maps) (ours : Bool) →
    (d.target.host == w.home.host) ≡ ours →
    (d.target ≡ record { host = w.home.host; port = w.server.request } → IsFree spare w) →
    arrives ours spare grant maps d w ≡ comes ours spare grant maps d w
arrives_fits w d spare grant maps true at free =
    server_fits w d spare grant maps (d.target.port == w.server.request)
    (λ request. free (endpoint_is d.target w.home.host w.server.request (eqb-true _ _ at) (eqb-true _ _ request)))
arrives_fits w d spare grant maps false at free = refl

-- a delivery that may happen does what the deed does
pub delivers_fits : (w : World) (d : Datagram) (index spare : ℕ) (grant : Grant) (maps : Maps) → slice_get w.net index ≡ Some d →
    MayDeliver index spare w →
    event_happens (deliver index spare) grant maps w ≡ comes (d.target.host == w.home.host) spare grant maps d w
delivers_fits w d index spare grant maps is may =
    let same : may.datagram ≡ d = same_found (slice_get w.net index) may.datagram d may.is is in
    ap (λ (o : Option Datagram). delivers o spare grant maps w) is
    ∙ arrives_fits w d spare grant maps (d.target.host == w.home.host) refl (λ to. may.spare_is (ap (λ (x : Datagram). x.target) same ∙ to))

-- an operation that may begin begins
pub begins_fits : (w : World) (e : Endpoint) (operation : Operation) → e.host ≢ w.home.host → is_too_long operation ≡ false →
    begins_unless (e.host == w.home.host) (is_too_long operation) e operation w ≡ begins e operation w
begins_fits w e operation away short =
    ap (λ (ours : Bool). begins_unless ours (is_too_long operation) e operation w) (ne_eqb e.host w.home.host away)
    ∙ ap (λ (long : Bool). begins_unless false long e operation w) short

-- ---- one member

-- an event at the place of a datagram does this
abbrev DoesAt : (home : Endpoint) → Datagram → Grant → Maps → (event : ℕ → Event) → (does : World → World) → Type 0
DoesAt home d grant maps event does =
    (v : World) (index : ℕ) → v.home ≡ home → slice_get v.net index ≡ Some d → MayHappen (event index) v →
    event_happens (event index) grant maps v ≡ does v

-- if the datagram is named, the event does so after the datagram has entered if it is new
module _ (w : World) (d : Datagram) (grant : Grant) (maps : Maps) (event : ℕ → Event) (does : World → World)
    (fits : DoesAt w.home d grant maps event does) where
  place_fits : (position : Option ℕ) → position_of d w.net ≡ position → AllMayHappen (steps_with grant maps (at_place position d event w.net)) w →
      run_from (steps_with grant maps (at_place position d event w.net)) w ≡ does (named_in position d w)
  place_fits (Some position) is may = fits w position refl (found_at d w.net position is) may.0
  place_fits None is may =
      let entered = strays_fits w d may.0.0 may.0.1 in
      let then = subst (λ (v : World). MayHappen (event (length w.net)) v) entered may.1.0 in
      ap (λ (v : World). event_happens (event (length w.net)) grant maps v) entered
      ∙ fits (strays_in d w) (length w.net) refl (at-last w.net d) then

-- a delivery
receives_at : (w : World) (d : Datagram) (spare : ℕ) (grant : Grant) (maps : Maps) →
    DoesAt w.home d grant maps (λ index. deliver index spare) (comes (d.target.host == w.home.host) spare grant maps d)
receives_at w d spare grant maps v index same is may =
    delivers_fits v d index spare grant maps is may
    ∙ ap (λ (home : Endpoint). comes (d.target.host == home.host) spare grant maps d v) same

-- a keep whose outcome is unknown
ends_at_place : (w : World) (d : Datagram) (found : Bool) (grant : Grant) (maps : Maps) →
    DoesAt w.home d grant maps (λ index. unknown_keep index found) (ends_here found maps d)
ends_at_place w d found grant maps v index same is may = ap (λ (o : Option Datagram). ends_at o found maps v) is

-- so the steps of a deed, if they may happen, do what it does
pub deed_fits : (w : World) (deed : Deed) (grant : Grant) (maps : Maps) → AllMayHappen (steps_with grant maps (events_of deed w.net)) w →
    run_from (steps_with grant maps (events_of deed w.net)) w ≡ after_deed deed grant maps w
deed_fits w (starts e operation) grant maps may = begins_fits w e operation may.0.0 may.0.1
deed_fits w (receives d spare) grant maps may =
    place_fits w d grant maps (λ index. deliver index spare) _ (receives_at w d spare grant maps) (position_of d w.net) refl may
deed_fits w (client_waits_long e) grant maps may = refl
deed_fits w (server_waits_long port) grant maps may = refl
deed_fits w loads grant maps may = refl
deed_fits w (ends_in_keep d found) grant maps may =
    place_fits w d grant maps (λ index. unknown_keep index found) (ends_here found maps d) (ends_at_place w d found grant maps) (position_of d w.net) refl may

-- ---- a trace

-- steps in two parts that may happen
may_first : (xs ys : List WorldStep) (w : World) → AllMayHappen (xs ++ ys) w → AllMayHappen xs w × AllMayHappen ys (run_from xs w)
may_first [] ys w may = (tt, may)
may_first (x ∷ xs) ys w may = let rest = may_first xs ys (happens x w) may.1 in ((may.0, rest.0), rest.1)

-- the run of a trace's steps leads to the trace's world
pub trace-makes : (members : List Member) (w : World) → AllMayHappen (trace_steps members w) w → run_from (trace_steps members w) w ≡ trace_from members w
trace-makes [] w may = refl
trace-makes (m ∷ members) w may =
    let steps = member_steps m w in
    let parts = may_first steps (trace_steps members (run_from steps w)) w may in
    run-append steps (trace_steps members (run_from steps w)) w
    ∙ trace-makes members (run_from steps w) parts.1
    ∙ ap (trace_from members) (deed_fits w m.deed m.grant m.maps parts.0)

-- ---- the files that it takes

-- a file that is taken between these worlds has made the collections
abbrev MergesTo : (w v : World) → Type 0
MergesTo w v = (t : Taken) → v.taken ≡ w.taken ++ t ∷ [] → IsMerged t.file w.server.maps v.server.maps

-- if no file is taken, none has to be merged
none_taken : (w : World) → MergesTo w w
none_taken w t e = let more = ap length e ∙ length-append w.taken (t ∷ []) in absurd (omega arith)

-- the file that a deed takes is that of its steps
module _ (w : World) (d : Datagram) (grant : Grant) (maps : Maps) (event : ℕ → Event) (does : World → World)
    (fits : DoesAt w.home d grant maps event does) where
  place_merged : (position : Option ℕ) → position_of d w.net ≡ position → AllMayHappen (steps_with grant maps (at_place position d event w.net)) w →
      MergesTo w (does (named_in position d w)) → AllMerged (steps_with grant maps (at_place position d event w.net)) w
  place_merged (Some position) is may merged =
      (subst (MergesTo w) (sym (place_fits w d grant maps event does fits (Some position) is may)) merged, tt)
  place_merged None is may merged =
      let steps = steps_with grant maps (at_place None d event w.net) in
      let entered = strays_fits w d may.0.0 may.0.1 in
      let last = sym (place_fits w d grant maps event does fits None is may) in
      let then : MergesTo (strays_in d w) (run_from steps w) = subst (MergesTo (strays_in d w)) last merged in
      let strays : MergesTo w (event_happens (stray d) grant maps w) = subst (MergesTo w) (sym entered) (none_taken w) in
      let delivers : MergesTo (event_happens (stray d) grant maps w) (run_from steps w) =
      subst (λ (v : World). MergesTo v (run_from steps w)) (sym entered) then in
      (strays, (delivers, tt))

-- for each deed
deed_merged : (w : World) (deed : Deed) (grant : Grant) (maps : Maps) → AllMayHappen (steps_with grant maps (events_of deed w.net)) w →
    MergesTo w (after_deed deed grant maps w) → AllMerged (steps_with grant maps (events_of deed w.net)) w
deed_merged w (starts e operation) grant maps may merged =
    (subst (MergesTo w) (sym (begins_fits w e operation may.0.0 may.0.1)) merged, tt)
deed_merged w (receives d spare) grant maps may merged =
    place_merged w d grant maps (λ index. deliver index spare) _ (receives_at w d spare grant maps) (position_of d w.net) refl may merged
deed_merged w (client_waits_long e) grant maps may merged = (merged, tt)
deed_merged w (server_waits_long port) grant maps may merged = (merged, tt)
deed_merged w loads grant maps may merged = (merged, tt)
deed_merged w (ends_in_keep d found) grant maps may merged =
    place_merged w d grant maps (λ index. unknown_keep index found) (ends_here found maps d) (ends_at_place w d found grant maps) (position_of d w.net) refl
    may merged

-- two parts of a run, in each of which files make the collections
pub merged_append : (xs ys : List WorldStep) (w : World) → AllMerged xs w → AllMerged ys (run_from xs w) → AllMerged (xs ++ ys) w
merged_append [] ys w first rest = rest
merged_append (x ∷ xs) ys w first rest = (first.0, merged_append xs ys (happens x w) first.1 rest)

-- the files that a trace takes make the collections in its run
pub trace_merged : (members : List Member) (w : World) → AllMayHappen (trace_steps members w) w → AllDeedsMerged members w → AllMerged (trace_steps members w) w
trace_merged [] w may merged = tt
trace_merged (m ∷ members) w may merged =
    let steps = member_steps m w in
    let parts = may_first steps (trace_steps members (run_from steps w)) w may in
    let fits = deed_fits w m.deed m.grant m.maps parts.0 in
    let rest = subst (AllDeedsMerged members) (sym fits) merged.1 in
    merged_append steps (trace_steps members (run_from steps w)) w (deed_merged w m.deed m.grant m.maps parts.0 merged.0)
    (trace_merged members (run_from steps w) parts.1 rest)

-- the run of a trace's steps
trace_run : {o : Origin} → TraceFrom o → RunFrom o
trace_run {o} t =
    record { steps = trace_steps t.members (first_world o); merged = trace_merged t.members (first_world o) t.may t.merged }

-- it ends in the trace's world
run_ends : {o : Origin} (t : TraceFrom o) → last_world (trace_run t) ≡ trace_end t
unfolding trace_run
run_ends {o} t = trace-makes t.members (first_world o) t.may

-- the headline holds for each client of a trace whose ports are its own
pub trace-clients : (o : Origin) (t : TraceFrom o) → ClientsHeadline o (trace_end t)
trace-clients o t = subst (ClientsHeadline o) (run_ends t) (run-clients o (trace_run t))

-- the headline holds for a trace in which no port is reused
pub trace-headline : (home : Endpoint) (t : TraceFrom (empty_origin home)) → HasOwnPorts (trace_end t) → Headline (trace_end t)
trace-headline home t own = headline home (trace_end t) (trace-clients (empty_origin home) t) own
