-- A get that begins while the server has a place for it fetches the collection, if its datagrams are delivered in turn: the
-- world after each step.
use Rattle.std.proofs.Common.{◌≡◌, ◌≢◌, ℕ, zero, suc, ◌+◌, ◌*◌, ◌/◌, ◌≤◌, ◌<◌, true, false, nat_cmp, List, [], ◌∷◌, ◌++◌, length, slice_get, None, Some, refl, ap, sym, ◌∙◌, subst, arith, Bool}
use Rattle.std.proofs.lemmas.Bool.{ltb-false}
use Rattle.tftp_packet.specs.declared.endpoint.Endpoint.{Endpoint}
use Rattle.tftp_packet.specs.declared.sizes.TheConstants.{BLOCK_SIZE}
use Rattle.tftp_packet.specs.Packet.{ack, encode}
use Rattle.tftp_packet.specs.Blocks.{block_count, block_of}
use Rattle.tftp_ends.specs.declared.limits.TheConstants.{MAX_FILE}
use Rattle.tftp_ends.specs.Ends.{granted, data_packet, sender_start, receiver_data}
use Rattle.tws_file.specs.declared.«ruleset».Ruleset.{Ruleset}
use Rattle.tws_best.specs.Best.{collection_text}
use Rattle.archive_table.specs.Table.{Maps, all, Transfer, TableAnswer, sending, map_of, at_port, transfer_at, goes_on, closes, opens, is_same, has_slot, has_long_text, Table}
use Rattle.archive_client.specs.Client.{get, Phase, asking, receiving, Client, phase_state, moves, out_to, get_sent, operation_request, client_datagram}
use Rattle.archive_client.specs.declared.state.State.{State}
use Rattle.archive_client.specs.declared.state.State.TheVariants as state
use Rattle.archive_client.specs.Client as client
use Rattle.archive_model.specs.World.{Datagram, Event, begin, deliver, Begun, Opening, to_read, Got, Origin, RunFrom, last_world, WorldStep, World, newly_got, newly_sent, got_with, sent_with, client_at, after_request, after_transfer, after_client, begins, asked_of, event_happens, run_from, IsFree, MayHappen, MayDeliver, Asked}
use Rattle.archive_theorem.specs.Freeing.{time_outs}
use Rattle.archive_theorem.specs.Progress.{deliveries, GetsInTurn, CanGet, GetIsUnstuck}
use Rattle.archive_model.proofs.Endpoints.{exact_endpoint}
use Rattle.archive_theorem.proofs.Keyed.{lookup-written, lookup-inserted}
use Rattle.archive_theorem.proofs.Claim_Invariant.{exact_port, same_port}
use Rattle.archive_theorem.proofs.Progress_Frees.{run_from-freed}
use Rattle.archive_theorem.proofs.Progress_InTurn.{at-end, one-longer, pairs_and_two, pairs-counted, Leads, leads-none, none-taken, before, to_port, from_port, server-sent, server-comes, server-may, client-comes, client-may, begun-size, asking-at, from-begun, request-comes, request-may, idle-slot}
use Rattle.archive_theorem.proofs.Progress_Put.{request-stays, home-stays}
use Rattle.archive_theorem.proofs.Progress_GetEnds.{blocks_in, all_in, has_blocks, sender_at, serves, from_server, block-asked, last-asked, block-got, last-got, block-received, first-received, read-opens}
use Rattle.archive_theorem.proofs.Client_Answers.{get_asked}

module _ (first : World) (e : Endpoint) (away : e.host ≢ first.home.host) (rules : Ruleset)
    (fits : has_long_text (map_of rules first.server.maps) ≡ false) (p : ℕ) (free : IsFree p first) where
  abbrev home : Endpoint
  home = first.home

  -- the text of the collection
  abbrev text : List ℕ
  text = collection_text (map_of rules first.server.maps)

  -- it is not too long
  short : length text ≤ MAX_FILE
  short = ltb-false MAX_FILE (length text) fits

  -- the collections, which stay
  abbrev m : Maps
  m = first.server.maps

  -- the datagram of DATA n
  abbrev data_of : (n : ℕ) → Datagram
  data_of n = from_port m home e away p (encode (data_packet text n))

  -- the datagram of ACK n
  abbrev ack_of : (n : ℕ) → Datagram
  ack_of n = to_port m home e away p (encode (ack n))

  -- the client that has n blocks
  abbrev has : (n : ℕ) → Client
  has n = has_blocks home text short e p n

  -- the server's transfer that has sent block n
  abbrev served : (n : ℕ) → Transfer
  served n = serves home text short e p n

  -- the file as it is fetched
  abbrev got_it : Got
  got_it = record { client = e; file = text }

  -- the operation, and the transfer that was opened for it
  abbrev began : Begun
  began = record { client = e; operation = get rules; taken = length first.taken }

  abbrev opening : Opening
  opening = record { peer = e; port = p; asked = to_read rules; taken = length first.taken }

  -- what has changed so far: the operation has begun, and its transfer was opened
  record IsOpen (w : World) : Type 0 where
    at : w.home ≡ first.home
    request : w.server.request ≡ first.server.request
    maps_are : w.server.maps ≡ first.server.maps
    begun : w.begun ≡ first.begun ++ began ∷ []
    opened : w.opened ≡ first.opened ++ opening ∷ []
    taken : w.taken ≡ first.taken
    sent : w.sent ≡ first.sent
    strays : w.strays ≡ first.strays

  -- the get is done when so many datagrams were sent
  record IsDone (total : ℕ) (w : World) : Type 0 where
    same : IsOpen w
    got : w.got ≡ first.got ++ got_it ∷ []
    size : length w.net ≡ total

  -- the client has n blocks, and has acknowledged the last of them, at place i of the network
  record Stage (w : World) (n i : ℕ) : Type 0 where
    same : IsOpen w
    got : w.got ≡ first.got
    found : transfer_at p w.server ≡ Some (served n)
    client_is : client_at e w ≡ Some (has n)
    last : slice_get w.net i ≡ Some (ack_of n)
    size : length w.net ≡ i + 1

  elsewhere : (w : World) → IsOpen w → p ≢ w.server.request
  elsewhere w s is = free.other (is ∙ s.request)

  -- one step, which takes no file
  one_before : {Goal : World → Type 0} (event : Event) (w v : World) (events : List Event) → event_happens event all m w ≡ v → MayHappen event w →
      v.taken ≡ w.taken → Leads m Goal v events → Leads m Goal w (event ∷ events)
  one_before event w v events is may same d = before m event w v is events may (none-taken m event w v is same) d

  -- ---- a block is there for the client

  -- the client in this phase
  abbrev at_phase : Phase → Client
  at_phase phase = record { port = e.port; server = home; phase = phase }

  -- the server has sent a block to the client in this phase, at place i of the network
  record Awaits (w : World) (n i : ℕ) (phase : Phase) : Type 0 where
    same : IsOpen w
    got : w.got ≡ first.got
    running : phase_state phase ≡ state.Running
    is : client_at e w ≡ Some (at_phase phase)
    found : transfer_at p w.server ≡ Some (served (n + 1))
    there : slice_get w.net i ≡ Some (data_of (n + 1))
    size : length w.net ≡ i + 1
    within : n + 1 ≤ block_count text
    receives : client_datagram granted (from_server home text short e p) (encode (data_packet text (n + 1))) (at_phase phase)
        ≡ get_sent p (receiver_data granted (n + 1) (block_of text (n + 1)) (blocks_in home text short e p n)) (at_phase phase)

  module _ (w : World) (n i : ℕ) (phase : Phase) (s : Awaits w n i phase) where
    -- the world after it has arrived, if it is not the last
    abbrev next : World
    next = after_client e (at_phase phase)
        (moves (receiving p (blocks_in home text short e p (n + 1))) (Some (out_to p (ack (n + 1)) (at_phase phase))) (at_phase phase)) w

    block_comes : event_happens (deliver i p) all m w ≡ after_client e (at_phase phase)
        (client_datagram granted (from_server home text short e p) (encode (data_packet text (n + 1))) (at_phase phase)) w
    block_comes = client-comes m home e away p w s.same.at i (encode (data_packet text (n + 1))) s.there (at_phase phase) s.is

    block_may : MayDeliver i p w
    block_may = client-may m home e away p w s.same.at i (encode (data_packet text (n + 1))) s.there

    -- its delivery leads there
    comes : n + 1 < block_count text → event_happens (deliver i p) all m w ≡ next
    comes more =
        block_comes
        ∙ ap (λ (a : client.ClientAnswer). after_client e (at_phase phase) a w)
        (s.receives ∙ block-got home text short e p (at_phase phase) n s.within more)

    -- a step of the client to a state in which its file does not count as sent
    unsent : (now : State) → newly_sent state.Running now ≡ false → sent_with (newly_sent (phase_state phase) now) e w.sent ≡ first.sent
    unsent now none =
        ap (λ (x : State). sent_with (newly_sent x now) e w.sent) s.running ∙ ap (λ (newly : Bool). sent_with newly e w.sent) none ∙ s.same.sent

    still_open : (v : World) → v.home ≡ w.home → v.server ≡ w.server → v.begun ≡ w.begun → v.opened ≡ w.opened → v.taken ≡ w.taken →
        v.sent ≡ first.sent → v.strays ≡ w.strays → IsOpen v
    still_open v home_is server begun opened taken sent strays =
        record {
          at = home_is ∙ s.same.at;
          request = ap (λ (x : Table). x.request) server ∙ s.same.request;
          maps_are = ap (λ (x : Table). x.maps) server ∙ s.same.maps_are;
          begun = begun ∙ s.same.begun;
          opened = opened ∙ s.same.opened;
          taken = taken ∙ s.same.taken;
          sent = sent;
          strays = strays ∙ s.same.strays;
        }

    -- the client has that block, and has acknowledged it
    next_stage : Stage next (n + 1) (i + 1)
    next_stage =
        record {
          same = still_open next refl refl refl refl refl (unsent state.Running refl) refl;
          got = ap (λ (x : State). got_with (newly_got x state.Running) e None w.got) s.running ∙ s.got;
          found = s.found;
          client_is = lookup-written is_same exact_endpoint w.clients e (at_phase phase) (has (n + 1)) s.is;
          last = at-end w.net (ack_of (n + 1)) (i + 1) s.size;
          size = one-longer w.net (ack_of (n + 1)) (i + 1) s.size;
        }

    -- one more delivery than from there
    next_ends : n + 1 < block_count text → {Goal : World → Type 0} (events : List Event) → Leads m Goal next events → Leads m Goal w (deliver i p ∷ events)
    next_ends more events d = one_before (deliver i p) w next events (comes more) block_may refl d

    -- the world after it has arrived, if it is the last
    abbrev finished : World
    finished = after_client e (at_phase phase)
        (moves (receiving p (all_in home text short e p (n + 1))) (Some (out_to p (ack (n + 1)) (at_phase phase))) (at_phase phase)) w

    -- its delivery leads there
    comes_last : n + 1 ≡ block_count text → event_happens (deliver i p) all m w ≡ finished
    comes_last is_last =
        block_comes
        ∙ ap (λ (a : client.ClientAnswer). after_client e (at_phase phase) a w)
        (s.receives ∙ last-got home text short e p (at_phase phase) n s.within is_last)

    -- the client has fetched the text
    has_got : finished.got ≡ first.got ++ got_it ∷ []
    has_got = ap (λ (x : State). got_with (newly_got x state.Got) e (Some text) w.got) s.running ∙ ap (λ (gs : List Got). gs ++ got_it ∷ []) s.got

    last_open : IsOpen finished
    last_open = still_open finished refl refl refl refl refl (unsent state.Got refl) refl

    last_size : length finished.net ≡ i + 1 + 1
    last_size = one-longer w.net (ack_of (n + 1)) (i + 1) s.size

    -- its last ACK
    last_there : slice_get finished.net (i + 1) ≡ Some (ack_of (n + 1))
    last_there = at-end w.net (ack_of (n + 1)) (i + 1) s.size

    -- the world after that has arrived: the server's transfer is closed
    abbrev closed : World
    closed = after_transfer (closes p e None finished.server) finished

    closes_comes : n + 1 ≡ block_count text → event_happens (deliver (i + 1) p) all m finished ≡ closed
    closes_comes is_last =
        server-comes m home e away p finished s.same.at (i + 1) (encode (ack (n + 1))) last_there (elsewhere finished last_open)
        ∙ ap (λ (a : TableAnswer). after_transfer a finished) (last-asked home text short e p m finished.server (n + 1) s.found is_last)

    done : (total : ℕ) → i + 2 ≡ total → IsDone total closed
    done total count =
        record {
          same = record {
            at = last_open.at;
            request = last_open.request;
            maps_are = last_open.maps_are;
            begun = last_open.begun;
            opened = last_open.opened;
            taken = last_open.taken;
            sent = last_open.sent;
            strays = last_open.strays;
          };
          got = has_got;
          size = last_size ∙ omega (arith, count);
        }

    last_ends : n + 1 ≡ block_count text → (total : ℕ) → i + 2 ≡ total → Leads m (IsDone total) w (deliver i p ∷ deliver (i + 1) p ∷ [])
    last_ends is_last total count =
        one_before (deliver i p) w finished _ (comes_last is_last) block_may refl
        (one_before (deliver (i + 1) p) finished closed [] (closes_comes is_last)
        (server-may m home e away p finished s.same.at (i + 1) (encode (ack (n + 1))) last_there (elsewhere finished last_open)) refl
        (leads-none m closed (done total count)))

  -- ---- the next block is asked for

  module _ (w : World) (n i : ℕ) (s : Stage w n i) (within : n + 1 ≤ block_count text) where
    -- more blocks follow
    below : n < block_count text
    below = omega (arith, within)

    -- the world after it has arrived
    abbrev asked : World
    asked = after_transfer (goes_on p e (sending (sender_at home text short e p (n + 1))) (Some (encode (data_packet text (n + 1)))) w.server) w

    -- its delivery leads there
    asks : event_happens (deliver i p) all m w ≡ asked
    asks =
        server-comes m home e away p w s.same.at i (encode (ack n)) s.last (elsewhere w s.same)
        ∙ ap (λ (a : TableAnswer). after_transfer a w) (block-asked home text short e p m w.server n s.found below)

    abbrev phase_at : Phase
    phase_at = receiving p (blocks_in home text short e p n)

    awaits : Awaits asked n (i + 1) phase_at
    awaits =
        record {
          same = record {
            at = s.same.at;
            request = s.same.request;
            maps_are = s.same.maps_are;
            begun = s.same.begun;
            opened = s.same.opened;
            taken = s.same.taken;
            sent = s.same.sent;
            strays = s.same.strays;
          };
          got = s.got;
          running = refl;
          is = s.client_is;
          found = lookup-written at_port exact_port w.server.live p (served n) (served (n + 1)) s.found;
          there = server-sent m home e away p w s.same.at (i + 1) (encode (data_packet text (n + 1))) s.size;
          size = one-longer w.net _ (i + 1) s.size;
          within = within;
          receives = block-received home text short e p n within;
        }

    -- one more delivery than from there
    asked_ends : {Goal : World → Type 0} (events : List Event) → Leads m Goal asked events → Leads m Goal w (deliver i p ∷ events)
    asked_ends events d =
        one_before (deliver i p) w asked events asks
        (server-may m home e away p w s.same.at i (encode (ack n)) s.last (elsewhere w s.same)) refl d

    -- otherwise the client then has that block
    asked_stage : Stage (next asked n (i + 1) phase_at awaits) (n + 1) (i + 1 + 1)
    asked_stage = next_stage asked n (i + 1) phase_at awaits

  -- one for the ACK that was sent, two for each block that is left
  abbrev after_ack : (blocks : ℕ) → ℕ
  after_ack blocks = suc (pairs_and_two blocks)

  -- from each stage, with so many blocks left behind the next one
  ends : (k n i total : ℕ) (w : World) → Stage w n i → n + 1 + k ≡ block_count text → i + 1 + pairs_and_two k ≡ total →
      Leads m (IsDone total) w (deliveries i p (after_ack k))
  ends zero n i total w s count whole =
      let within : n + 1 ≤ block_count text = omega (arith, count) in
      asked_ends w n i s within _
      (last_ends (asked w n i s within) n (i + 1) (phase_at w n i s within) (awaits w n i s within) (omega (arith, count)) total (omega (arith, whole)))
  ends (suc k) n i total w s count whole =
      let within : n + 1 ≤ block_count text = omega (arith, count) in
      let more : n + 1 < block_count text = omega (arith, count) in
      asked_ends w n i s within _
      (next_ends (asked w n i s within) n (i + 1) (phase_at w n i s within) (awaits w n i s within) more _
      (ends k (n + 1) (i + 1 + 1) total _ (asked_stage w n i s within) (omega (arith, count)) (omega (arith, whole))))

  -- ---- the begin

  module _ (slot : has_slot first.server ≡ true) (port : first.server.request ≡ first.home.port) where
    -- the phase of its client
    abbrev asking_for : Phase
    asking_for = asking (get rules) 0

    -- the world after the begin
    abbrev begun : World
    begun = begins e (get rules) first

    -- the place of the request in the network
    abbrev k : ℕ
    k = length first.net

    -- the world after the request has arrived
    abbrev opened : World
    opened = after_request e p (asked_of (encode (operation_request (get rules))))
        (opens p e (sending (sender_start text)) (encode (data_packet text 1)) first.server) begun

    -- its delivery leads there
    requests : event_happens (deliver k p) all m begun ≡ opened
    requests = request-comes m first e away (get rules) refl p free port _ (read-opens rules e p first.server slot fits)

    -- each file has a block
    one_block : 1 ≤ block_count text
    one_block = omega arith

    opened_is : opened.opened ≡ first.opened ++ opening ∷ []
    opened_is = ap (λ (x : Asked). first.opened ++ record { peer = e; port = p; asked = x; taken = length first.taken } ∷ []) (get_asked rules)

    awaits_first : Awaits opened 0 (k + 1) asking_for
    awaits_first =
        record {
          same = record { at = refl; request = refl; maps_are = refl; begun = refl; opened = opened_is; taken = refl; sent = refl; strays = refl };
          got = refl;
          running = refl;
          is = asking-at m first e away (get rules) refl;
          found = lookup-inserted nat_cmp exact_port same_port first.server.live p (served 1);
          there = at-end begun.net (data_of 1) (k + 1) (begun-size m first e away (get rules) refl);
          size = one-longer begun.net (data_of 1) (k + 1) (begun-size m first e away (get rules) refl);
          within = one_block;
          receives = first-received home text short e p rules one_block;
        }

    -- two deliveries for each block
    opened_ends : (blocks total : ℕ) → blocks + 1 ≡ block_count text → k + 1 + pairs_and_two blocks ≡ total →
        Leads m (IsDone total) opened (deliveries (k + 1) p (pairs_and_two blocks))
    opened_ends zero total count whole = last_ends opened 0 (k + 1) asking_for awaits_first (omega (arith, count)) total (omega (arith, whole))
    opened_ends (suc blocks) total count whole =
        next_ends opened 0 (k + 1) asking_for awaits_first (omega (arith, count)) _
        (ends blocks 1 (k + 1 + 1) total _ (next_stage opened 0 (k + 1) asking_for awaits_first) (omega (arith, count)) (omega (arith, whole)))

    requested : (blocks total : ℕ) → blocks + 1 ≡ block_count text → k + 1 + pairs_and_two blocks ≡ total →
        Leads m (IsDone total) begun (deliveries k p (suc (pairs_and_two blocks)))
    requested blocks total count whole =
        one_before (deliver k p) begun opened _ requests (request-may m first e away (get rules) refl p free port) refl (opened_ends blocks total count whole)

    -- so the get is done when all are delivered
    pub gets-in_turn : GetsInTurn first e rules p
    gets-in_turn =
        let blocks = length text / BLOCK_SIZE in
        let total = k + 2 * block_count text + 1 in
        let pairs = pairs-counted blocks in
        let counted : suc (pairs_and_two blocks) ≡ 2 * block_count text + 1 = omega (arith, pairs) in
        let d = from-begun m first e away (get rules) refl _ (requested blocks total refl (omega (arith, pairs))) in
        let whole : Leads m (IsDone total) first (begin e (get rules) ∷ deliveries k p (2 * block_count text + 1)) =
        subst (λ (n : ℕ). Leads m (IsDone total) first (begin e (get rules) ∷ deliveries k p n)) counted d in
        let done = whole.reached in
        record {
          may = whole.may;
          merged = whole.merged;
          done = record {
            begun = done.same.begun;
            opened = done.same.opened;
            taken = done.same.taken;
            sent = done.same.sent;
            got = done.got;
            strays = done.same.strays;
            maps_are = done.same.maps_are;
            cost = done.size;
          };
        }

-- a get that begins while there is a place is done in turn, also after more steps
can-get : (o : Origin) (r : RunFrom o) (more : List WorldStep) (e : Endpoint) (rules : Ruleset) → e.host ≢ o.home.host →
    has_long_text (map_of rules (run_from more (last_world r)).server.maps) ≡ false → has_slot (run_from more (last_world r)).server ≡ true →
    CanGet (run_from more (last_world r)) e rules
can-get o r more e rules away fits slot spare free =
    let w = run_from more (last_world r) in
    gets-in_turn w e (λ ours. away (ours ∙ ap (λ (x : Endpoint). x.host) (home-stays o r more))) rules fits spare free slot (request-stays o r more)

pub run_from-gets : (o : Origin) (r : RunFrom o) (e : Endpoint) (rules : Ruleset) → e.host ≢ o.home.host →
    has_long_text (map_of rules (last_world r).server.maps) ≡ false → has_slot (last_world r).server ≡ true → CanGet (last_world r) e rules
run_from-gets o r e rules away fits slot = can-get o r [] e rules away fits slot

-- after time-outs that free every port there is a place
pub run_from-get_unstuck : (o : Origin) (r : RunFrom o) (e : Endpoint) (rules : Ruleset) → e.host ≢ o.home.host →
    has_long_text (map_of rules (last_world r).server.maps) ≡ false → GetIsUnstuck (last_world r) e rules
run_from-get_unstuck o r e rules away fits =
    let freed = run_from-freed o r in
    let steps = time_outs freed.ports in
    let still = ap (λ (x : Maps). has_long_text (map_of rules x)) freed.maps ∙ fits in
    record {
      ports = freed.ports;
      few = freed.few;
      idle = freed.idle;
      can = can-get o r steps e rules away still (idle-slot (run_from steps (last_world r)) freed.idle);
    }
