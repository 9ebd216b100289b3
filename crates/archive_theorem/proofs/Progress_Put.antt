-- A put that begins while the server has a place for it is counted as sent, if its datagrams are delivered in turn: the world
-- after each step.
use Rattle.std.proofs.Common.{◌≡◌, ◌≢◌, ℕ, zero, suc, ◌+◌, ◌*◌, ◌/◌, ◌≤◌, ◌<◌, true, false, nat_cmp, List, [], ◌∷◌, ◌++◌, length, slice_get, Some, refl, ap, sym, ◌∙◌, subst, arith, None}
use Rattle.std.specs.Map.{set_value}
use Rattle.tftp_packet.specs.declared.endpoint.Endpoint.{Endpoint}
use Rattle.tftp_packet.specs.declared.sizes.TheConstants.{BLOCK_SIZE}
use Rattle.tftp_packet.specs.Packet.{ack, encode}
use Rattle.tftp_packet.specs.Blocks.{block_count}
use Rattle.tftp_ends.specs.declared.limits.TheConstants.{MAX_FILE}
use Rattle.tftp_ends.specs.declared.send_state.SendState.TheVariants as send
use Rattle.tftp_ends.specs.Ends.{sender_answer, data_packet, receiver_start}
use Rattle.archive_table.specs.Table.{Table, Maps, Taken, all, Transfer, TableAnswer, receiving, at_port, transfer_at, goes_on, takes, opens, is_same, table_datagram, has_slot, IsMerged}
use Rattle.archive_client.specs.Client.{put, Client, operation_request, client_start, put_sent, put_answered, is_too_long}
use Rattle.archive_client.specs.Client as client
use Rattle.archive_model.specs.World.{Datagram, Event, begin, deliver, Begun, Opening, to_write, Origin, RunFrom, first_world, last_world, WorldStep, World, client_at, after_request, after_transfer, after_client, begins, asked_of, event_happens, happens, run_from, HasMerged, IsFree, MayDeliver, Asked}
use Rattle.archive_theorem.specs.Freeing.{time_outs}
use Rattle.archive_theorem.specs.Traces.{steps_with}
use Rattle.archive_theorem.specs.Progress.{deliveries, put_in_turn, HasPut, PutsInTurn, CanPut, IsUnstuck}
use Rattle.archive_model.proofs.Endpoints.{exact_endpoint}
use Rattle.archive_model.proofs.Growing.{run-extends}
use Rattle.archive_theorem.proofs.Keyed.{lookup-written, lookup-inserted}
use Rattle.archive_theorem.proofs.Claim_Invariant.{exact_port, same_port}
use Rattle.archive_theorem.proofs.Headline_Total.{one_last}
use Rattle.archive_theorem.proofs.Progress_Frees.{run_from-freed}
use Rattle.archive_theorem.proofs.Event_Begins.{may_begin}
use Rattle.archive_theorem.proofs.Progress_InTurn.{at-end, one-longer, step, pairs_and_two, pairs-counted, Leads, leads-none, none-taken, before, to_port, from_port, server-sent, server-comes, server-may, client-comes, client-may, begun-size, asking-at, from-begun, request-comes, request-may, idle-slot}
use Rattle.archive_theorem.proofs.Progress_PutEnds.{blocks_in, all_in, receives, block_out, block-taken, last-taken, block-acked, last-acked, request-opens, first-acked}
use Rattle.archive_theorem.proofs.Server_Port.{run_same}
use Rattle.archive_theorem.proofs.Client_Answers.{put_asked}

module _ (first : World) (e : Endpoint) (away : e.host ≢ first.home.host) (file : List ℕ) (short : length file ≤ MAX_FILE) (m : Maps)
    (good : IsMerged file first.server.maps m) (p : ℕ) (free : IsFree p first) where
  -- ---- what is sent, and the worlds that are passed

  abbrev home : Endpoint
  home = first.home

  -- the datagram of DATA n
  abbrev data_of : (n : ℕ) → Datagram
  data_of n = to_port m home e away p (encode (data_packet file n))

  -- the datagram of ACK n
  abbrev ack_of : (n : ℕ) → Datagram
  ack_of n = from_port m home e away p (encode (ack n))

  -- the client that has sent block n
  abbrev out : (n : ℕ) → Client
  out n = block_out home file short e p m n

  -- the server's transfer after n blocks
  abbrev come : (n : ℕ) → Transfer
  come n = receives home file short e p m n

  -- the file as it is taken
  abbrev file_taken : Taken
  file_taken = record { peer = e; file = file }

  -- the operation, and the transfer that was opened for it
  abbrev began : Begun
  began = record { client = e; operation = put file; taken = length first.taken }

  abbrev opening : Opening
  opening = record { peer = e; port = p; asked = to_write; taken = length first.taken }

  -- the put is done when so many datagrams were sent
  record IsDone (total : ℕ) (w : World) : Type 0 where
    begun : w.begun ≡ first.begun ++ began ∷ []
    opened : w.opened ≡ first.opened ++ opening ∷ []
    taken : w.taken ≡ first.taken ++ file_taken ∷ []
    sent : w.sent ≡ first.sent ++ e ∷ []
    got : w.got ≡ first.got
    strays : w.strays ≡ first.strays
    maps_are : w.server.maps ≡ m
    size : length w.net ≡ total

  -- the server has n blocks, and the client has sent the next one, at place i of the network
  record Stage (w : World) (n i : ℕ) : Type 0 where
    at : w.home ≡ first.home
    request : w.server.request ≡ first.server.request
    maps_are : w.server.maps ≡ first.server.maps
    found : transfer_at p w.server ≡ Some (come n)
    client_is : client_at e w ≡ Some (out (n + 1))
    last : slice_get w.net i ≡ Some (data_of (n + 1))
    size : length w.net ≡ i + 1
    begun : w.begun ≡ first.begun ++ began ∷ []
    opened : w.opened ≡ first.opened ++ opening ∷ []
    taken : w.taken ≡ first.taken
    sent : w.sent ≡ first.sent
    got : w.got ≡ first.got
    strays : w.strays ≡ first.strays

  -- ---- one block

  module _ (w : World) (n i : ℕ) (s : Stage w n i) (within : n + 1 ≤ block_count file) where
    elsewhere : p ≢ w.server.request
    elsewhere is = free.other (is ∙ s.request)

    data_comes : event_happens (deliver i p) all m w ≡ after_transfer (table_datagram all m p e (encode (data_packet file (n + 1))) w.server) w
    data_comes = server-comes m home e away p w s.at i (encode (data_packet file (n + 1))) s.last elsewhere

    data_may : MayDeliver i p w
    data_may = server-may m home e away p w s.at i (encode (data_packet file (n + 1))) s.last elsewhere

    -- it is not the last
    module _ (more : n + 1 < block_count file) where
      -- the world after the block has arrived
      abbrev got : World
      got = after_transfer (goes_on p e (receiving (blocks_in home file short e p m (n + 1))) (Some (encode (ack (n + 1)))) w.server) w

      -- its delivery leads there
      comes : event_happens (deliver i p) all m w ≡ got
      comes = data_comes ∙ ap (λ (a : TableAnswer). after_transfer a w) (block-taken home file short e p m w.server n s.found within more)

      -- its ACK was sent
      acked : slice_get got.net (i + 1) ≡ Some (ack_of (n + 1))
      acked = server-sent m home e away p w s.at (i + 1) (encode (ack (n + 1))) s.size

      -- the world after the ACK has arrived
      abbrev next : World
      next = after_client e (out (n + 1))
          (put_sent p (sender_answer file (n + 1 + 1) 0 send.Running (Some (data_packet file (n + 1 + 1)))) (out (n + 1))) got

      -- its delivery leads there
      answers : event_happens (deliver (i + 1) p) all m got ≡ next
      answers =
          client-comes m home e away p got s.at (i + 1) (encode (ack (n + 1))) acked (out (n + 1)) s.client_is
          ∙ ap (λ (a : client.ClientAnswer). after_client e (out (n + 1)) a got) (block-acked home file short e p m (n + 1) more)

      got_size : length got.net ≡ i + 1 + 1
      got_size = one-longer w.net _ (i + 1) s.size

      -- the next block is on its way
      next_stage : Stage next (n + 1) (i + 1 + 1)
      next_stage =
          record {
            at = s.at;
            request = s.request;
            maps_are = s.maps_are;
            found = lookup-written at_port exact_port w.server.live p (come n) (come (n + 1)) s.found;
            client_is = lookup-written is_same exact_endpoint w.clients e (out (n + 1)) (out (n + 1 + 1)) s.client_is;
            last = at-end got.net (data_of (n + 1 + 1)) (i + 1 + 1) got_size;
            size = one-longer got.net (data_of (n + 1 + 1)) (i + 1 + 1) got_size;
            begun = s.begun;
            opened = s.opened;
            taken = s.taken;
            sent = s.sent;
            got = s.got;
            strays = s.strays;
          }

      -- two deliveries before those from there
      onward : (total : ℕ) (events : List Event) → Leads m (IsDone total) next events →
          Leads m (IsDone total) w (deliver i p ∷ deliver (i + 1) p ∷ events)
      onward total events d =
          before m (deliver i p) w got comes _ data_may (none-taken m (deliver i p) w got comes refl)
          (before m (deliver (i + 1) p) got next answers events (client-may m home e away p got s.at (i + 1) (encode (ack (n + 1))) acked)
          (none-taken m (deliver (i + 1) p) got next answers refl) d)

    -- it is the last
    module _ (is_last : n + 1 ≡ block_count file) where
      -- the world after the block has arrived, with the file taken
      abbrev took : World
      took = after_transfer (takes m p e file (all_in home file short e p m (n + 1)) (Some (encode (ack (n + 1)))) w.server) w

      -- its delivery leads there
      last_comes : event_happens (deliver i p) all m w ≡ took
      last_comes =
          data_comes ∙ ap (λ (a : TableAnswer). after_transfer a w) (last-taken home file short e p m w.server n s.found within is_last)

      -- the file is merged
      last_merged : HasMerged (step m (deliver i p)) w
      last_merged t more =
          let taken = one_last w.taken file_taken t (sym (ap (λ (x : World). x.taken) last_comes) ∙ more) in
          let same : t.file ≡ file = ap (λ (x : Taken). x.file) (sym taken) in
          let old : IsMerged file w.server.maps m = subst (λ (x : Maps). IsMerged file x m) (sym s.maps_are) good in
          subst (λ (f : List ℕ). IsMerged f w.server.maps (happens (step m (deliver i p)) w).server.maps) (sym same)
          (subst (λ (x : World). IsMerged file w.server.maps x.server.maps) (sym last_comes) old)

      -- its ACK was sent
      last_acked : slice_get took.net (i + 1) ≡ Some (ack_of (n + 1))
      last_acked = server-sent m home e away p w s.at (i + 1) (encode (ack (n + 1))) s.size

      -- the world after that ACK has arrived
      abbrev finished : World
      finished = after_client e (out (n + 1)) (put_sent p (sender_answer file (n + 1) 0 send.Finished None) (out (n + 1))) took

      -- its delivery leads there
      finishes : event_happens (deliver (i + 1) p) all m took ≡ finished
      finishes =
          client-comes m home e away p took s.at (i + 1) (encode (ack (n + 1))) last_acked (out (n + 1)) s.client_is
          ∙ ap (λ (a : client.ClientAnswer). after_client e (out (n + 1)) a took) (last-acked home file short e p m (n + 1) is_last)

      -- the file is taken and counts as sent
      done : (total : ℕ) → i + 2 ≡ total → IsDone total finished
      done total count =
          record {
            begun = s.begun;
            opened = s.opened;
            taken = ap (λ (ts : List Taken). ts ++ file_taken ∷ []) s.taken;
            sent = ap (λ (es : List Endpoint). es ++ e ∷ []) s.sent;
            got = s.got;
            strays = s.strays;
            maps_are = refl;
            size = one-longer w.net _ (i + 1) s.size ∙ omega (arith, count);
          }

      ends_last : (total : ℕ) → i + 2 ≡ total → Leads m (IsDone total) w (deliver i p ∷ deliver (i + 1) p ∷ [])
      ends_last total count =
          before m (deliver i p) w took last_comes _ data_may last_merged
          (before m (deliver (i + 1) p) took finished finishes [] (client-may m home e away p took s.at (i + 1) (encode (ack (n + 1))) last_acked)
          (none-taken m (deliver (i + 1) p) took finished finishes refl) (leads-none m finished (done total count)))

  -- from each stage: two deliveries for each block from the one on its way on
  ends : (k n i total : ℕ) (w : World) → Stage w n i → n + 1 + k ≡ block_count file → i + pairs_and_two k ≡ total →
      Leads m (IsDone total) w (deliveries i p (pairs_and_two k))
  ends zero n i total w s count whole = ends_last w n i s (omega (arith, count)) (omega (arith, count)) total whole
  ends (suc k) n i total w s count whole =
      let within : n + 1 ≤ block_count file = omega (arith, count) in
      let more : n + 1 < block_count file = omega (arith, count) in
      onward w n i s within more total _
      (ends k (n + 1) (i + 1 + 1) total (next w n i s within more) (next_stage w n i s within more) (omega (arith, count)) (omega (arith, whole)))

  -- ---- the begin

  module _ (not_long : is_too_long (put file) ≡ false) (slot : has_slot first.server ≡ true) (port : first.server.request ≡ first.home.port) where
    -- its client
    abbrev asking : Client
    asking = client_start e.port home (put file)

    -- the world after the begin
    abbrev begun : World
    begun = begins e (put file) first

    -- the place of the request in the network
    abbrev k : ℕ
    k = length first.net

    -- the world after the request has arrived
    abbrev opened : World
    opened = after_request e p (asked_of (encode (operation_request (put file))))
        (opens p e (receiving receiver_start) (encode (ack 0)) first.server) begun

    -- its delivery leads there
    requests : event_happens (deliver k p) all m begun ≡ opened
    requests = request-comes m first e away (put file) not_long p free port _ (request-opens home file short e p m first.server slot)

    opened_size : length opened.net ≡ k + 1 + 1
    opened_size = one-longer begun.net (ack_of 0) (k + 1) (begun-size m first e away (put file) not_long)

    ack_there : slice_get opened.net (k + 1) ≡ Some (ack_of 0)
    ack_there = at-end begun.net (ack_of 0) (k + 1) (begun-size m first e away (put file) not_long)

    asked_at : client_at e begun ≡ Some asking
    asked_at = asking-at m first e away (put file) not_long

    -- the world after that ACK has arrived
    abbrev bound : World
    bound = after_client e asking (put_answered true p file asking) opened

    -- its delivery leads there
    binds : event_happens (deliver (k + 1) p) all m opened ≡ bound
    binds =
        client-comes m home e away p opened refl (k + 1) (encode (ack 0)) ack_there asking asked_at
        ∙ ap (λ (a : client.ClientAnswer). after_client e asking a opened) (first-acked home file short e p m)

    -- the first block is on its way
    bound_stage : Stage bound 0 (k + 1 + 1)
    bound_stage =
        record {
          at = refl;
          request = refl;
          maps_are = refl;
          found = lookup-inserted nat_cmp exact_port same_port first.server.live p (come 0);
          client_is = lookup-written is_same exact_endpoint begun.clients e asking (out 1) asked_at;
          last = at-end opened.net (data_of 1) (k + 1 + 1) opened_size;
          size = one-longer opened.net (data_of 1) (k + 1 + 1) opened_size;
          begun = refl;
          opened = ap (λ (x : Asked). first.opened ++ record { peer = e; port = p; asked = x; taken = length first.taken } ∷ []) (put_asked file);
          taken = refl;
          sent = refl;
          got = refl;
          strays = refl;
        }

    -- the request, its answer, and then the blocks
    requested : (blocks total : ℕ) → blocks + 1 ≡ block_count file → k + 2 + pairs_and_two blocks ≡ total →
        Leads m (IsDone total) begun (deliveries k p (pairs_and_two (suc blocks)))
    requested blocks total count whole =
        before m (deliver k p) begun opened requests _ (request-may m first e away (put file) not_long p free port)
        (none-taken m (deliver k p) begun opened requests refl)
        (before m (deliver (k + 1) p) opened bound binds _ (client-may m home e away p opened refl (k + 1) (encode (ack 0)) ack_there)
        (none-taken m (deliver (k + 1) p) opened bound binds refl)
        (ends blocks 0 (k + 1 + 1) total bound bound_stage (omega (arith, count)) (omega (arith, whole))))

    -- so the put is done when all are delivered
    pub puts-in_turn : PutsInTurn first e file p m
    puts-in_turn =
        let blocks = length file / BLOCK_SIZE in
        let total = k + 2 * block_count file + 2 in
        let counted : pairs_and_two (suc blocks) ≡ 2 * block_count file + 2 = pairs-counted (suc blocks) ∙ omega arith in
        let d = from-begun m first e away (put file) not_long _ (requested blocks total refl (omega (arith, counted))) in
        let whole : Leads m (IsDone total) first (begin e (put file) ∷ deliveries k p (2 * block_count file + 2)) =
        subst (λ (n : ℕ). Leads m (IsDone total) first (begin e (put file) ∷ deliveries k p n)) counted d in
        let done = whole.reached in
        record {
          may = whole.may;
          merged = whole.merged;
          done = record {
            begun = done.begun;
            opened = done.opened;
            taken = done.taken;
            sent = done.sent;
            got = done.got;
            strays = done.strays;
            maps_are = done.maps_are;
            cost = done.size;
          };
        }

-- ---- after any run

-- the server of a run has the port of its endpoint
pub request-stays : (o : Origin) (r : RunFrom o) (more : List WorldStep) →
    (run_from more (last_world r)).server.request ≡ (run_from more (last_world r)).home.port
request-stays o r more =
    let w = last_world r in
    run_same more w ∙ run_same r.steps (first_world o)
    ∙ sym (ap (λ (e : Endpoint). e.port) ((run-extends more w).home ∙ (run-extends r.steps (first_world o)).home))

pub home-stays : (o : Origin) (r : RunFrom o) (more : List WorldStep) → (run_from more (last_world r)).home ≡ o.home
home-stays o r more = (run-extends more (last_world r)).home ∙ (run-extends r.steps (first_world o)).home

-- a put that begins while there is a place is done in turn, also after more steps
can-put : (o : Origin) (r : RunFrom o) (more : List WorldStep) (e : Endpoint) (file : List ℕ) → e.host ≢ o.home.host → is_too_long (put file) ≡ false →
    has_slot (run_from more (last_world r)).server ≡ true → CanPut (run_from more (last_world r)) e file
can-put o r more e file away not_long slot spare free maps merged =
    let w = run_from more (last_world r) in
    puts-in_turn w e (λ ours. away (ours ∙ ap (λ (x : Endpoint). x.host) (home-stays o r more))) file (may_begin (put file) not_long) maps merged spare free
    not_long slot (request-stays o r more)

pub run_from-puts : (o : Origin) (r : RunFrom o) (e : Endpoint) (file : List ℕ) → e.host ≢ o.home.host → is_too_long (put file) ≡ false →
    has_slot (last_world r).server ≡ true → CanPut (last_world r) e file
run_from-puts o r e file away not_long slot = can-put o r [] e file away not_long slot

-- after time-outs that free every port there is a place
pub run_from-unstuck : (o : Origin) (r : RunFrom o) (e : Endpoint) (file : List ℕ) → e.host ≢ o.home.host → is_too_long (put file) ≡ false →
    IsUnstuck (last_world r) e file
run_from-unstuck o r e file away not_long =
    let freed = run_from-freed o r in
    let steps = time_outs freed.ports in
    record {
      ports = freed.ports;
      few = freed.few;
      idle = freed.idle;
      can = can-put o r steps e file away not_long (idle-slot (run_from steps (last_world r)) freed.idle);
    }
