-- The time-outs of a port of the server, while one transfer is there, are bounded by the blocks of that transfer, and these by the
-- datagrams of its peer.
use Rattle.std.proofs.Common.{◌≡◌, ◌≢◌, ◌⊎◌, ℕ, ◌+◌, ◌*◌, ◌<◌, ◌≤◌, Bool, true, false, ◌==◌, ◌&&◌, cond, List, [], ◌∷◌, ◌++◌, slice_get, Option, None, Some, IsSome, refl, ap, sym, ◌∙◌, subst, inl, inr, arith}
use Rattle.std.proofs.lemmas.Bool.{eqb-true, eqb-false}
use Rattle.tftp_packet.specs.declared.endpoint.Endpoint.{Endpoint}
use Rattle.tftp_packet.specs.Blocks.{block_count}
use Rattle.tftp_ends.specs.declared.limits.TheConstants.{MAX_BLOCKS, MISSES}
use Rattle.tftp_ends.specs.declared.send_state.SendState.{SendState}
use Rattle.tftp_ends.specs.declared.send_state.SendState.TheVariants as send
use Rattle.tftp_ends.specs.declared.recv_state.RecvState.{RecvState}
use Rattle.tftp_ends.specs.declared.recv_state.RecvState.TheVariants as recv
use Rattle.tftp_ends.specs.Ends.{Verdict, granted, refused, Sender, sender_goes_on, sender_acked, sender_ack_in, sender_missed, sender_timeout_in, IsSender, Receiver, receiver_takes, receiver_next, receiver_again, is_last_come, is_past, receiver_running, receiver_data_in, receiver_data, receiver_take_in, receiver_timeout, IsReceiver}
use Rattle.tftp_ends.specs.Patience.{sender_waited, receiver_waited}
use Rattle.tftp_ends.proofs.Steps.{current-fits}
use Rattle.tftp_ends.proofs.Holding.{receiver_timeout-same}
use Rattle.tftp_ends.proofs.Waits.{sender_ack-waited, sender_timeout-waited, receiver_data-waited, receiver_timeout-waited}
use Rattle.archive_table.specs.Table.{Maps, Grant, Taken, End, sending, receiving, Transfer, memory_verdict, transfer_at, is_same, table_datagram, table_timeout}
use Rattle.archive_client.specs.Client.{Operation, Client, is_too_long}
use Rattle.archive_model.specs.World.{Datagram, Event, begin, deliver, client_times_out, server_times_out, stray, restart, unknown_keep, WorldStep, World, client_at, has_begun, begins_unless, request_comes, server_receives, client_receives, arrives, delivers, client_waits, strays_unless, ends_if, ends_at, wanted_of, happens, event_happens, run_from, AllMerged, Origin, RunFrom, first_world}
use Rattle.archive_model.proofs.Endpoints.{endpoint_is, same_endpoint}
use Rattle.archive_theorem.specs.Patience.{IsHeld, event_waits, port_waits, is_fed, event_feeds, port_feeds, end_blocks, found_blocks, port_blocks, HoldsByBlocks}
use Rattle.archive_theorem.proofs.Claim_Past.{IsLiveEnd}
use Rattle.archive_theorem.proofs.Claim_Invariant.{Holds}
use Rattle.archive_theorem.proofs.Event_Happens.{step-holds, run_from-holds, last-holds, merged-as, merged-first, merged-rest}
use Rattle.archive_theorem.proofs.Patience_Table.{Moves, acked_by, took, Waits, sends_again, waits_on, SameOrMoves, none_some, datagram-follows, timeout-follows, request-leaves}

-- ---- one end

-- what an end has come through
abbrev end_waited : End → ℕ
end_waited (sending s) = sender_waited s
end_waited (receiving r) = receiver_waited r

-- it is within its bounds
abbrev HasBounds : End → Type 0
HasBounds (sending s) = IsSender s
HasBounds (receiving r) = IsReceiver r

take_same : (state : RecvState) (r : Receiver) →
    (receiver_waited (receiver_take_in state r).receiver ≡ receiver_waited r) × ((receiver_take_in state r).receiver.count ≡ r.count)
take_same recv.Running r = (refl, refl)
take_same recv.Complete r = (refl, refl)
take_same recv.TimedOut r = (refl, refl)
take_same recv.Over r = (refl, refl)

-- an ACK lets a sender go on to the next block at most
goes_on_few : (last : Bool) (s : Sender) → (sender_goes_on last s).sender.current ≤ s.current + 1
goes_on_few true s = omega arith
goes_on_few false s = omega arith

acked_few : (current : Bool) (s : Sender) → (sender_acked current s).sender.current ≤ s.current + 1
acked_few true s = goes_on_few (s.current == block_count s.file) s
acked_few false s = omega arith

ack_few : (state : SendState) (n : ℕ) (s : Sender) → (sender_ack_in state n s).sender.current ≤ s.current + 1
ack_few send.Running n s = acked_few (n == s.current) s
ack_few send.Finished n s = omega arith
ack_few send.TimedOut n s = omega arith

-- and a DATA a receiver
takes_few : (verdict : Verdict) (body : List ℕ) (r : Receiver) → (receiver_takes verdict body r).receiver.count ≤ r.count + 1
takes_few granted body r = omega arith
takes_few refused body r = omega arith

next_few : (past : Bool) (verdict : Verdict) (body : List ℕ) (r : Receiver) → (receiver_next past verdict body r).receiver.count ≤ r.count + 1
next_few true verdict body r = omega arith
next_few false verdict body r = takes_few verdict body r

again_few : (last : Bool) (r : Receiver) → (receiver_again last r).receiver.count ≤ r.count + 1
again_few true r = omega arith
again_few false r = omega arith

running_few : (next : Bool) (verdict : Verdict) (n : ℕ) (body : List ℕ) (r : Receiver) → (receiver_running next verdict n body r).receiver.count ≤ r.count + 1
running_few true verdict n body r = next_few (is_past n body) verdict body r
running_few false verdict n body r = again_few (is_last_come n r) r

data_few : (state : RecvState) (verdict : Verdict) (n : ℕ) (body : List ℕ) (r : Receiver) →
    (receiver_data_in state verdict n body r).receiver.count ≤ r.count + 1
data_few recv.Running verdict n body r = running_few (n == r.count + 1) verdict n body r
data_few recv.Complete verdict n body r = again_few (is_last_come n r) r
data_few recv.TimedOut verdict n body r = omega arith
data_few recv.Over verdict n body r = omega arith

-- a time-out none
missed_none : (last : Bool) (s : Sender) → (sender_missed last s).sender.current ≡ s.current
missed_none true s = refl
missed_none false s = refl

timeout_none : (state : SendState) (s : Sender) → (sender_timeout_in state s).sender.current ≡ s.current
timeout_none send.Running s = missed_none (s.misses + 1 == MISSES) s
timeout_none send.Finished s = refl
timeout_none send.TimedOut s = refl

-- an end has come through so much more, with so many more blocks at most
record Steps (more fed : ℕ) (x y : End) : Type 0 where
  waited : end_waited x + more ≤ end_waited y
  blocks : end_blocks y ≤ end_blocks x + fed

moves_steps : (x y : End) → Moves x y → HasBounds x → Steps 0 1 x y
moves_steps x y (acked_by n e) bounds =
    let more : sender_waited e ≤ sender_waited (sender_ack_in e.state n e).sender = sender_ack-waited n e bounds in
    record { waited = omega (arith, more); blocks = ack_few e.state n e }
moves_steps x y (took verdict n body r) bounds =
    let next = (receiver_data verdict n body r).receiver in
    let more : receiver_waited r ≤ receiver_waited next = receiver_data-waited verdict n body r bounds in
    let same = take_same next.state next in
    let few : next.count ≤ r.count + 1 = data_few r.state verdict n body r in
    record { waited = omega (arith, more, same.0); blocks = omega (arith, few, same.1) }

goes_on_waited : (r : Receiver) → ((receiver_timeout r).receiver.state ≡ recv.Running) ⊎ ((receiver_timeout r).receiver.state ≡ recv.Complete) →
    receiver_waited (receiver_timeout r).receiver ≡ receiver_waited r + 1
goes_on_waited r (inl is) =
    receiver_timeout-waited r
    ((λ e. let both : recv.Running ≡ recv.TimedOut = sym is ∙ e in cc), (λ e. let both : recv.Running ≡ recv.Over = sym is ∙ e in cc))
goes_on_waited r (inr is) =
    receiver_timeout-waited r
    ((λ e. let both : recv.Complete ≡ recv.TimedOut = sym is ∙ e in cc), (λ e. let both : recv.Complete ≡ recv.Over = sym is ∙ e in cc))

waits_steps : (x y : End) → Waits x y → Steps 1 0 x y
waits_steps x y (sends_again e running) =
    let one : sender_waited (sender_timeout_in e.state e).sender ≡ sender_waited e + 1 = sender_timeout-waited e running in
    let same : (sender_timeout_in e.state e).sender.current ≡ e.current = timeout_none e.state e in
    record { waited = omega (arith, one); blocks = omega (arith, same) }
waits_steps x y (waits_on r on) =
    let one : receiver_waited (receiver_timeout r).receiver ≡ receiver_waited r + 1 = goes_on_waited r on in
    let same : (receiver_timeout r).receiver.count ≡ r.count = (receiver_timeout-same r).0 in
    record { waited = omega (arith, one); blocks = omega (arith, same) }

same_steps : (t u : Transfer) → t ≡ u → Steps 0 0 t.end u.end
same_steps t u same =
    let waited : end_waited t.end ≡ end_waited u.end = ap (λ (x : Transfer). end_waited x.end) same in
    let blocks : end_blocks t.end ≡ end_blocks u.end = ap (λ (x : Transfer). end_blocks x.end) same in
    record { waited = omega (arith, waited); blocks = omega (arith, blocks) }

-- ---- an event

end_bounds : (w : World) (e : Endpoint) (port : ℕ) (end : End) → IsLiveEnd w.past e port end → HasBounds end
end_bounds w e port (sending s) there = there.bounds
end_bounds w e port (receiving r) there = there.bounds

same_some : (o : Option Transfer) (t u : Transfer) → o ≡ Some t → o ≡ Some u → t ≡ u
same_some o t u is also = let both : Some t ≡ Some u = sym is ∙ also in cc

bounds_at : (w : World) → Holds w → (q : ℕ) (t : Transfer) → transfer_at q w.server ≡ Some t → HasBounds t.end
bounds_at w h q t is = end_bounds w t.peer q t.end (h.live q t is).end

module _ (w : World) (h : Holds w) (port : ℕ) (t : Transfer) (is : transfer_at port w.server ≡ Some t) where
  -- the transfer that is there then
  abbrev StepsTo : (more fed : ℕ) → World → Type 0
  StepsTo more fed v = (u : Transfer) → transfer_at port v.server ≡ Some u → Steps more fed t.end u.end

  stays : StepsTo 0 0 w
  stays u new = same_steps t u (same_some (transfer_at port w.server) t u is new)

  at_most : (fed : ℕ) (u : Transfer) → Steps 0 0 t.end u.end → Steps 0 fed t.end u.end
  at_most fed u s =
      let blocks : end_blocks u.end ≤ end_blocks t.end + 0 = s.blocks in
      record { waited = s.waited; blocks = omega (arith, blocks) }

  begins_steps : (ours long : Bool) (e : Endpoint) (operation : Operation) → StepsTo 0 0 (begins_unless ours long e operation w)
  begins_steps true long e operation = stays
  begins_steps false true e operation = stays
  begins_steps false false e operation = stays

  -- ---- a delivery

  abbrev here : Endpoint
  here = record { host = w.home.host; port = port }

  -- how many datagrams of the peer it is
  abbrev feeds : Datagram → ℕ
  feeds d = cond (is_fed here (Some t) (Some d)) 1 0

  module _ (grant : Grant) (maps : Maps) (d : Datagram) where
    moved : (u : Transfer) → d.target ≡ here → SameOrMoves d.source t u → Steps 0 (feeds d) t.end u.end
    moved u at (inl same) = at_most (feeds d) u (same_steps t u same)
    moved u at (inr moves) =
        let target : is_same d.target here ≡ true = ap (λ (e : Endpoint). is_same e here) at ∙ same_endpoint here in
        let source : is_same d.source t.peer ≡ true = ap (λ (e : Endpoint). is_same e t.peer) moves.0 ∙ same_endpoint t.peer in
        let fed : is_fed here (Some t) (Some d) ≡ true = ap (λ (b : Bool). b && is_same d.source t.peer) target ∙ source in
        subst (λ (b : Bool). Steps 0 (cond b 1 0) t.end u.end) (sym fed) (moves_steps t.end u.end moves.1 (bounds_at w h port t is))

    told_steps : (same : Bool) → (port == d.target.port) ≡ same → d.target.host ≡ w.home.host → (u : Transfer) →
        transfer_at port (table_datagram grant maps d.target.port d.source d.bytes w.server).server ≡ Some u → Steps 0 (feeds d) t.end u.end
    told_steps true at ours u new =
        let one : port ≡ d.target.port = eqb-true _ _ at in
        let answer = datagram-follows w.server h.apart grant maps d.target.port d.source d.bytes in
        let server = (table_datagram grant maps d.target.port d.source d.bytes w.server).server in
        let step = answer.here t u (ap (λ (p : ℕ). transfer_at p w.server) (sym one) ∙ is) (ap (λ (p : ℕ). transfer_at p server) (sym one) ∙ new) in
        moved u (endpoint_is d.target w.home.host port ours (sym one)) step
    told_steps false at ours u new =
        let answer = datagram-follows w.server h.apart grant maps d.target.port d.source d.bytes in
        at_most (feeds d) u (same_steps t u (answer.rest port t u (eqb-false _ _ at) is new))

    comes_steps : (used : Bool) (live : Option Transfer) (spare : ℕ) → transfer_at spare w.server ≡ live → StepsTo 0 0 (request_comes used live spare grant d w)
    comes_steps true live spare free = stays
    comes_steps false (Some x) spare free = stays
    comes_steps false None spare free = λ u new.
        same_steps t u (request-leaves w.server h.apart spare d.source free (memory_verdict grant) d.bytes port t u is new)

    server_steps : (request : Bool) (spare : ℕ) → d.target.host ≡ w.home.host → StepsTo 0 (feeds d) (server_receives request spare grant maps d w)
    server_steps true spare ours u new =
        at_most (feeds d) u (comes_steps (spare == w.server.request) (transfer_at spare w.server) spare refl u new)
    server_steps false spare ours u new = told_steps (port == d.target.port) refl ours u new

    client_steps : (found : Option Client) → StepsTo 0 0 (client_receives found grant d w)
    client_steps None = stays
    client_steps (Some c) = stays

    arrives_steps : (ours : Bool) (spare : ℕ) → (d.target.host == w.home.host) ≡ ours → StepsTo 0 (feeds d) (arrives ours spare grant maps d w)
    arrives_steps true spare at u new = server_steps (d.target.port == w.server.request) spare (eqb-true _ _ at) u new
    arrives_steps false spare at u new = at_most (feeds d) u (client_steps (client_at d.target w) u new)

  delivers_steps : (sent : Option Datagram) (spare : ℕ) (grant : Grant) (maps : Maps) →
      StepsTo 0 (cond (is_fed here (Some t) sent) 1 0) (delivers sent spare grant maps w)
  delivers_steps None spare grant maps = stays
  delivers_steps (Some d) spare grant maps = arrives_steps grant maps d (d.target.host == w.home.host) spare refl

  -- ---- the others

  client_waits_steps : (found : Option Client) (e : Endpoint) → StepsTo 0 0 (client_waits found e w)
  client_waits_steps None e = stays
  client_waits_steps (Some c) e = stays

  port_steps : (other : ℕ) (same : Bool) → (other == port) ≡ same → (grant : Grant) (maps : Maps) →
      StepsTo (cond same 1 0) 0 (event_happens (server_times_out other) grant maps w)
  port_steps other true at grant maps u new =
      let one : other ≡ port = eqb-true _ _ at in
      let server = (table_timeout other w.server).server in
      let old = ap (λ (p : ℕ). transfer_at p w.server) one ∙ is in
      waits_steps t.end u.end ((timeout-follows w.server h.apart other).here t u old (ap (λ (p : ℕ). transfer_at p server) one ∙ new))
  port_steps other false at grant maps u new =
      let apart : port ≢ other = λ e. eqb-false _ _ at (sym e) in
      same_steps t u ((timeout-follows w.server h.apart other).rest port t u apart is new)

  strays_steps : (ours had_begun : Bool) (d : Datagram) → StepsTo 0 0 (strays_unless ours had_begun d w)
  strays_steps true had_begun d = stays
  strays_steps false true d = stays
  strays_steps false false d = stays

  ends_steps : (file : Option Taken) (found : Bool) (maps : Maps) (d : Datagram) → StepsTo 0 0 (ends_if file found maps d w)
  ends_steps None found maps d = stays
  ends_steps (Some x) found maps d = λ u new. none_some None u refl new

  ends_at_steps : (sent : Option Datagram) (found : Bool) (maps : Maps) → StepsTo 0 0 (ends_at sent found maps w)
  ends_at_steps None found maps = stays
  ends_at_steps (Some d) found maps = ends_steps (wanted_of (d.target.host == w.home.host) d w) found maps d

  fed_there : (sent : Option Datagram) → is_fed here (Some t) sent ≡ is_fed here (transfer_at port w.server) sent
  fed_there sent = ap (λ (o : Option Transfer). is_fed here o sent) (sym is)

  event_steps : (event : Event) (grant : Grant) (maps : Maps) → StepsTo (event_waits port event) (event_feeds port event w) (event_happens event grant maps w)
  event_steps (begin e operation) grant maps = begins_steps (e.host == w.home.host) (is_too_long operation) e operation
  event_steps (deliver index spare) grant maps =
      subst (λ (b : Bool). StepsTo 0 (cond b 1 0) (delivers (slice_get w.net index) spare grant maps w)) (fed_there (slice_get w.net index))
      (delivers_steps (slice_get w.net index) spare grant maps)
  event_steps (client_times_out e) grant maps = client_waits_steps (client_at e w) e
  event_steps (server_times_out other) grant maps = port_steps other (other == port) refl grant maps
  event_steps (stray d) grant maps = strays_steps (d.source.host == w.home.host) (has_begun d.source w.begun) d
  event_steps restart grant maps = λ u new. none_some None u refl new
  event_steps (unknown_keep index found) grant maps = ends_at_steps (slice_get w.net index) found maps

-- ---- any steps

-- the transfer that is found
record Found (port : ℕ) (w : World) : Type 0 where
  transfer : Transfer
  is : transfer_at port w.server ≡ Some transfer

found_by : (port : ℕ) (w : World) (o : Option Transfer) → transfer_at port w.server ≡ o → IsSome o → Found port w
found_by port w None is some = absurd cc
found_by port w (Some t) is some = record { transfer = t; is = is }

found_at : (port : ℕ) (w : World) → IsSome (transfer_at port w.server) → Found port w
found_at port w some = found_by port w (transfer_at port w.server) refl some

held_first : (port : ℕ) (steps : List WorldStep) (w : World) → IsHeld port steps w → Found port w
held_first port [] w held = found_at port w held
held_first port (s ∷ steps) w held = found_at port w held.0

-- at the end the transfer has come through so much
record Ends (port : ℕ) (steps : List WorldStep) (w : World) (t : Transfer) : Type 0 where
  last : Transfer
  is : transfer_at port (run_from steps w).server ≡ Some last
  ends : Steps (port_waits port steps) (port_feeds port steps w) t.end last.end

run_ends : (port : ℕ) (steps : List WorldStep) (w : World) → Holds w → AllMerged steps w → IsHeld port steps w → (t : Transfer) →
    transfer_at port w.server ≡ Some t → Ends port steps w t
run_ends port [] w h merged held t is = record { last = t; is = is; ends = same_steps t t refl }
run_ends port (s ∷ steps) w h merged held t is =
    let next = held_first port steps (happens s w) held.1 in
    let u = next.transfer in
    let one = event_steps w h port t is s.event s.grant s.maps u next.is in
    let waited : end_waited t.end + event_waits port s.event ≤ end_waited u.end = one.waited in
    let blocks : end_blocks u.end ≤ end_blocks t.end + event_feeds port s.event w = one.blocks in
    let later = run_ends port steps (happens s w) (step-holds w s h merged.0) merged.1 held.1 u next.is in
    let more : end_waited u.end + port_waits port steps ≤ end_waited later.last.end = later.ends.waited in
    let few : end_blocks later.last.end ≤ end_blocks u.end + port_feeds port steps (happens s w) = later.ends.blocks in
    record { last = later.last; is = later.is; ends = record { waited = omega (arith, waited, more); blocks = omega (arith, blocks, few) } }

-- ---- the bound

least_waited : (end : End) → MISSES * end_blocks end ≤ end_waited end
least_waited (sending s) = omega arith
least_waited (receiving r) = omega arith

most_waited : (end : End) → HasBounds end → end_waited end < MISSES * (end_blocks end + 1)
most_waited (sending s) bounds = let patient : s.misses < MISSES = bounds.patient in omega arith
most_waited (receiving r) bounds = let patient : r.misses < MISSES = bounds.patient in omega arith

few_blocks : (end : End) → HasBounds end → end_blocks end ≤ MAX_BLOCKS
few_blocks (sending s) bounds = let fits = current-fits s bounds in omega (arith, fits)
few_blocks (receiving r) bounds = bounds.within

held-by_blocks : (port : ℕ) (w : World) (steps : List WorldStep) → Holds w → AllMerged steps w → IsHeld port steps w → HoldsByBlocks port w steps
held-by_blocks port w steps h merged held =
    let first = held_first port steps w held in
    let ends = run_ends port steps w h merged held first.transfer first.is in
    let v = run_from steps w in
    let bounds = bounds_at v (run_from-holds steps w h merged) port ends.last ends.is in
    let at_first : port_blocks port w ≡ end_blocks first.transfer.end = ap found_blocks first.is in
    let at_last : port_blocks port v ≡ end_blocks ends.last.end = ap found_blocks ends.is in
    let more : end_waited first.transfer.end + port_waits port steps ≤ end_waited ends.last.end = ends.ends.waited in
    let few : end_blocks ends.last.end ≤ end_blocks first.transfer.end + port_feeds port steps w = ends.ends.blocks in
    let least : MISSES * end_blocks first.transfer.end ≤ end_waited first.transfer.end = least_waited first.transfer.end in
    let most : end_waited ends.last.end < MISSES * (end_blocks ends.last.end + 1) = most_waited ends.last.end bounds in
    let greatest : end_blocks ends.last.end ≤ MAX_BLOCKS = few_blocks ends.last.end bounds in
    record {
      waits = omega (arith, at_first, at_last, more, least, most);
      fed = omega (arith, at_first, at_last, few);
      most = omega (arith, at_last, greatest);
    }

-- in a run, for the steps from any moment on
pub run-by_blocks : (o : Origin) (r : RunFrom o) (before after : List WorldStep) → r.steps ≡ before ++ after → (port : ℕ) →
    IsHeld port after (run_from before (first_world o)) → HoldsByBlocks port (run_from before (first_world o)) after
run-by_blocks o r before after split port held =
    let merged = merged-as o r (before ++ after) split in
    let h = last-holds o (record { steps = before; merged = merged-first before after (first_world o) merged }) in
    held-by_blocks port (run_from before (first_world o)) after h (merged-rest before after (first_world o) merged) held
