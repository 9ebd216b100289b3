-- Steps of a client that gets, after which the invariant holds.
use Rattle.std.proofs.Common.{◌≡◌, ◌≢◌, ◌⊎◌, ℕ, ◌≤◌, Bool, true, false, List, length, Option, None, Some, IfSome, Result, Ok, Err, refl, sym, subst, inl, inr, ⊎_elim, ap, IsSome, ◌∙◌, ◌+◌, ◌==◌, is_some}
use Rattle.tftp_packet.specs.declared.endpoint.Endpoint.{Endpoint}
use Rattle.tftp_packet.specs.declared.sizes.TheConstants.{BLOCK_SIZE}
use Rattle.tftp_packet.specs.Packet.{Packet, data_block, ack}
use Rattle.tftp_packet.specs.Blocks.{block_of}
use Rattle.tftp_packet.specs.Decode.{decode_bytes}
use Rattle.tftp_packet.specs.Refusal.{refusal_packet}
use Rattle.tftp_ends.specs.declared.recv_state.RecvState.{RecvState}
use Rattle.tftp_ends.specs.declared.recv_state.RecvState.TheVariants as recv
use Rattle.tftp_ends.specs.declared.recv_fault.RecvFault.{RecvFault}
use Rattle.tftp_ends.specs.declared.limits.TheConstants.{MISSES}
use Rattle.tftp_ends.specs.Ends.{Verdict, granted, refused, Receiver, DataAnswer, receiver_start, receiver_data, receiver_timeout, receiver_take_in, receiver_take, sent_of, IsEnded, HoldsFirst, IsReceiver, refusal_of, receiver_again, receiver_next, receiver_running, receiver_data_in, receiver_missed, receiver_timeout_in, is_past, is_last_come}
use Rattle.tftp_ends.proofs.Steps.{ReadsBack, IsReceiver-start, receiver_data-keeps, receiver_timeout-keeps, acks-reads_back}
use Rattle.tftp_ends.proofs.Holding.{receiver_data-holds, receiver_timeout-holds, ended-whole}
use Rattle.tws_file.specs.declared.«ruleset».Ruleset.{Ruleset}
use Rattle.tftp_packet.specs.declared.cause.Cause.TheVariants as cause
use Rattle.archive_client.specs.declared.state.State.TheVariants as state
use Rattle.archive_client.specs.Client.{get, Phase, asking, receiving, failed, Client, in_phase, out_to, sends_to, moves, get_took, get_answered, get_refused, get_waited, get_waits, get_stays, cause_of, recv_state, phase_state}
use Rattle.archive_model.specs.World.{Datagram, World, to_read, newly_got, after_client, client_at, Past, Extends, datagram_of}
use Rattle.archive_theorem.specs.Headline.{IsOwn}
use Rattle.archive_model.proofs.Places.{Has, Has-last}
use Rattle.archive_theorem.proofs.Claim_Past.{HasGet, IsStranger, PutsBlock, Serves, ServesBlock, Fetches, Says, IsAskingFor, IsGetting, IsAskedBy, MayBind, IsFetched, IsGot, IsBound, Binds}
use Rattle.archive_theorem.proofs.Claim_Owns.{no_stranger, put_begun, one_get, own-before}
use Rattle.archive_theorem.proofs.Claim_Invariant.{Holds}
use Rattle.archive_theorem.proofs.Server_Moves.{begun_away}
use Rattle.archive_theorem.proofs.Client_Moves.{SendsHonestly, BindsTo}
use Rattle.archive_theorem.proofs.Client_Changes.{never_sent, newly_got-from, moves-holds, stays-holds, fails-holds, fails_with, sends_it, sends_refusal, refusal_binds, binds_there, changed-extends, own_endpoint}
use Rattle.archive_theorem.proofs.Client_Puts.{server_says}
use Rattle.archive_theorem.proofs.Claim_Lasts.{serves-lasts, get-lasts, fetched-later}

-- a block from the server's host is one of a collection that is served there
pub served_by : (w : World) → Holds w → (d : Datagram) → Has w.net d → d.source.host ≡ w.home.host → (n : ℕ) (body : List ℕ) →
    decode_bytes d.bytes ≡ Ok (data_block n body) → ServesBlock w.past d.source d.target n body
served_by w h d among ours n body reads =
    ⊎_elim
    (λ (p : PutsBlock w.past d.source n body). absurd (begun_away w h d.source (put_begun d.source p.file p.began) ours))
    (λ serves. serves)
    (server_says w h d among ours (data_block n body) reads)

-- ---- states of a receiver

-- a get never counts a file as sent
not_sent : (s : RecvState) → recv_state s ≢ state.Sent
not_sent recv.Running = λ e. cc
not_sent recv.Complete = λ e. cc
not_sent recv.TimedOut = λ e. cc
not_sent recv.Over = λ e. cc

-- it has its file only when its receiver has the whole file
got_ended : (s : RecvState) → recv_state s ≡ state.Got → IsEnded s
got_ended recv.Running e = absurd cc
got_ended recv.Complete e = tt
got_ended recv.TimedOut e = absurd cc
got_ended recv.Over e = tt

-- the file that is handed out is the receiver's
take_in_file : (state : RecvState) (r : Receiver) (f : List ℕ) → (receiver_take_in state r).file ≡ Some f → r.file ≡ Some f
take_in_file recv.Running r f given = absurd cc
take_in_file recv.Complete r f given = given
take_in_file recv.TimedOut r f given = absurd cc
take_in_file recv.Over r f given = given

-- a receiver in a get that runs still waits for blocks
pub get_running : (s : RecvState) → recv_state s ≡ state.Running → s ≡ recv.Running
get_running recv.Running e = refl
get_running recv.Complete e = absurd cc
get_running recv.TimedOut e = absurd cc
get_running recv.Over e = absurd cc

again_state : (last : Bool) (r : Receiver) → recv_state r.state ≡ recv_state (receiver_again last r).receiver.state
again_state true r = refl
again_state false r = refl

still_running : (r : Receiver) → r.state ≡ recv.Running → recv_state r.state ≡ state.Got → ⊥
still_running r is got = let both : recv_state recv.Running ≡ state.Got = ap recv_state (sym is) ∙ got in cc

-- the block that completes its file is acknowledged
taken_answered : (past : Bool) (verdict : Verdict) (body : List ℕ) (r : Receiver) → r.state ≡ recv.Running →
    recv_state (receiver_next past verdict body r).receiver.state ≡ state.Got → (out : Option Packet) →
    (receiver_next past verdict body r).result ≡ Ok out → IsSome out
taken_answered true verdict body r is got out at = absurd (still_running r is got)
taken_answered false granted body r is got out at = let same : Some (ack (r.count + 1)) ≡ out = cc in ap is_some (sym same)
taken_answered false refused body r is got out at = absurd (still_running r is got)

next_answered : (next : Bool) (verdict : Verdict) (n : ℕ) (body : List ℕ) (r : Receiver) → r.state ≡ recv.Running →
    recv_state (receiver_running next verdict n body r).receiver.state ≡ state.Got → (out : Option Packet) →
    (receiver_running next verdict n body r).result ≡ Ok out → IsSome out
next_answered true verdict n body r is got out at = taken_answered (is_past n body) verdict body r is got out at
next_answered false verdict n body r is got out at = absurd (still_running r is (again_state (is_last_come n r) r ∙ got))

fetched_answered : (s : RecvState) (verdict : Verdict) (n : ℕ) (body : List ℕ) (r : Receiver) → r.state ≡ s → r.state ≡ recv.Running →
    recv_state (receiver_data_in s verdict n body r).receiver.state ≡ state.Got → (out : Option Packet) →
    (receiver_data_in s verdict n body r).result ≡ Ok out → IsSome out
fetched_answered recv.Running verdict n body r at is got out sends = next_answered (n == r.count + 1) verdict n body r is got out sends
fetched_answered recv.Complete verdict n body r at is got out sends = let both : recv.Complete ≡ recv.Running = sym at ∙ is in absurd cc
fetched_answered recv.TimedOut verdict n body r at is got out sends = let both : recv.TimedOut ≡ recv.Running = sym at ∙ is in absurd cc
fetched_answered recv.Over verdict n body r at is got out sends = let both : recv.Over ≡ recv.Running = sym at ∙ is in absurd cc

-- a time-out completes no file
missed_unended : (last : Bool) (r : Receiver) → recv_state (receiver_missed last r).receiver.state ≡ state.Got → ⊥
missed_unended true r got = cc
missed_unended false r got = cc

waits_unended : (s : RecvState) (r : Receiver) → r.state ≡ s → r.state ≡ recv.Running → recv_state (receiver_timeout_in s r).receiver.state ≡ state.Got → ⊥
waits_unended recv.Running r at is got = missed_unended (r.misses + 1 == MISSES) r got
waits_unended recv.Complete r at is got = let both : recv.Complete ≡ recv.Running = sym at ∙ is in absurd cc
waits_unended recv.TimedOut r at is got = let both : recv.TimedOut ≡ recv.Running = sym at ∙ is in absurd cc
waits_unended recv.Over r at is got = let both : recv.Over ≡ recv.Running = sym at ∙ is in absurd cc

-- a receiver has one file
same_file : (r : Receiver) (f file : List ℕ) → r.file ≡ Some f → r.file ≡ Some file → file ≡ f
same_file r f file is also = cc

module _ (w : World) (h : Holds w) (e : Endpoint) where
  -- a transfer that was opened for a get counts no fewer files than the get does
  since_by : IsOwn w e → (rules other : Ruleset) (count : ℕ) (port : ℕ) (file : List ℕ) → HasGet w.past e rules count →
      (s : Serves w.past e port other file) →
      IsStranger w.past e ⊎ IsAskedBy w.past (record { peer = e; port = port; asked = to_read other; taken = s.count }) (to_read other) →
      (other ≡ rules) × (count ≤ s.count)
  since_by own rules other count port file began s (inl stranger) = no_stranger w.past e own stranger
  since_by own rules other count port file began s (inr asked) =
      let one = one_get w.past e own rules other count asked.0 began asked.1 in
      (sym one.0, subst (λ (m : ℕ). m ≤ s.count) (sym one.1) asked.2)

  -- and serves the ruleset that the get asks for
  served_since : IsOwn w e → (rules other : Ruleset) (count : ℕ) (port : ℕ) (file : List ℕ) → HasGet w.past e rules count →
      (s : Serves w.past e port other file) → (other ≡ rules) × (count ≤ s.count)
  served_since own rules other count port file began s =
      since_by own rules other count port file began s (h.opened _ s.opened.among).whose

  -- what it has, once it has ended, is what is served, also later
  module _ (later : Past) (more : Extends w.past later) where
    is_fetched : (port : ℕ) (r : Receiver) (g : IsGetting w.past e port r) → IsEnded r.state → (f : List ℕ) → r.file ≡ Some f → IsOwn w e →
        IsBound later e port → IsFetched later (record { client = e; file = f }) g.rules g.count
    is_fetched port r g ended f given own bound =
        let s = g.served own in
        let same = same_file r f s.file given (ended-whole s.file r s.holds g.bounds ended).1 in
        let since = (served_since own g.rules g.rules g.count port s.file g.began s.serves).1 in
        subst (λ (file : List ℕ). IsFetched later (record { client = e; file = file }) g.rules g.count) same
        (fetched-later more e port g.rules s.file s.serves g.count since bound)

    -- a get that has ended has its file
    pub is_got : (port : ℕ) (r : Receiver) → IsGetting w.past e port r → (s : _) → newly_got s (recv_state r.state) ≡ true → IsBound later e port →
        (f : List ℕ) → (receiver_take r).file ≡ Some f → IsGot later (record { client = e; file = f })
    is_got port r g s new bound f given =
        let both = newly_got-from s (recv_state r.state) new in
        record {
          rules = g.rules;
          count = g.count;
          began = get-lasts more e g.rules g.count g.began;
          whose = λ own. is_fetched port r g (got_ended r.state both.1) f (take_in_file r.state r f given) (own-before more e own) bound;
        }

  -- it goes on with another receiver, which holds more of the same file
  getting_on : (port : ℕ) (r next : Receiver) (g : IsGetting w.past e port r) → ((own : IsOwn w e) → HoldsFirst (g.served own).file next) →
      IsReceiver next → IsGetting w.past e port next
  getting_on port r next g holds bounds =
      record {
        rules = g.rules;
        count = g.count;
        began = g.began;
        bounds = bounds;
        served = λ own. record { file = (g.served own).file; serves = (g.served own).serves; holds = holds own };
      }

  module _ (c : Client) (is : client_at e w ≡ Some c) where
    -- ---- it is bound, or binds now

    module _ (port : ℕ) (was : (q : ℕ) → MayBind c.phase q → q ≡ port) where
      -- its ACK is honest
      ack_sends : (rules : Ruleset) (count : ℕ) → HasGet w.past e rules count → (out : Option Packet) (n : ℕ) → IfSome out ReadsBack →
          IfSome out (λ p. p ≡ ack n) → IfSome (sends_to port out c) (SendsHonestly w e)
      ack_sends rules count began None n back sends = tt
      ack_sends rules count began (Some p) n back sends =
          let fetches : Fetches w.past e = record { rules = rules; count = count; began = began } in
          sends_it w h e c is port p back.decoded (subst (Says w.past e (record { host = c.server.host; port = port })) (sym sends) (inl fetches))

      -- and binds it to that port only
      ack_binds : (next : Receiver) → (out : Option Packet) → IfSome (sends_to port out c) (BindsTo w c (in_phase (receiving port next) c))
      ack_binds next None = tt
      ack_binds next (Some p) = binds_there w h e c is port p (in_phase (receiving port next) c) (λ q same. same) was

      -- an ACK that is sent leaves the client bound there
      acked_bound : (next : Receiver) (out : Option Packet) → IfSome out ReadsBack → IfSome out (λ p. p ≡ ack next.count) → IsSome out →
          IsBound (after_client e c (moves (receiving port next) (sends_to port out c) c) w).past e port
      acked_bound next None back sends some = absurd cc
      acked_bound next (Some p) back sends some =
          record {
            datagram = datagram_of e.host (out_to port p c);
            among = Has-last w.net (datagram_of e.host (out_to port p c));
            source = sym (own_endpoint w h e c is);
            target = ap (λ (x : Endpoint). record { host = x.host; port = port }) (h.clients e c is).server;
            binds = subst Binds (sym back.decoded) (subst (λ (x : Packet). Binds (Ok x)) (sym sends) tt);
          }

      -- a step to a receiver that holds more of the same file, and that sends an ACK if it now has all of it
      receives-holds : (next : Receiver) → IsGetting w.past e port next → (out : Option Packet) → IfSome out ReadsBack →
          IfSome out (λ p. p ≡ ack next.count) → (newly_got (phase_state c.phase) (recv_state next.state) ≡ true → IsSome out) →
          Holds (after_client e c (moves (receiving port next) (sends_to port out c) c) w)
      receives-holds next g out back sends answers =
          let grows = changed-extends w e c (receiving port next) (sends_to port out c) in
          moves-holds w h e c is (receiving port next) (sends_to port out c)
          (record {
            pursuing = g;
            sending = ack_sends g.rules g.count g.began out next.count back sends;
            binding = ack_binds next out;
            still = was;
            sends = λ new. never_sent (phase_state c.phase) (recv_state next.state) (not_sent next.state) new;
            gets = λ new. is_got _ grows port next g (phase_state c.phase) new (acked_bound next out back sends (answers new));
          })

      -- a DATA arrives
      module _ (r : Receiver) (g : IsGetting w.past e port r) (begins : phase_state c.phase ≡ state.Running → r.state ≡ recv.Running) (verdict : Verdict) (n : ℕ) (body : List ℕ) (short : length body ≤ BLOCK_SIZE)
          (is_block : (own : IsOwn w e) → body ≡ block_of (g.served own).file n) where
        -- its receiver's answer
        abbrev came : DataAnswer
        came = receiver_data verdict n body r

        -- after the block it still fetches the same file
        getting_after : IsGetting w.past e port came.receiver
        getting_after =
            getting_on port r came.receiver g
            (λ own. receiver_data-holds (g.served own).file r (g.served own).holds verdict n body (is_block own))
            ((receiver_data-keeps verdict n body r short).fits g.bounds)

        -- if it is the last one that was missing, it is acknowledged
        ends_answered : (out : Option Packet) → came.result ≡ Ok out → newly_got (phase_state c.phase) (recv_state came.receiver.state) ≡ true → IsSome out
        ends_answered out at new =
            let both = newly_got-from (phase_state c.phase) (recv_state came.receiver.state) new in
            fetched_answered r.state verdict n body r refl (begins both.0) both.1 out at

        -- by the answer
        took_in : (result : Result (Option Packet) RecvFault) → came.result ≡ result → Holds (after_client e c (get_took port came.receiver result c) w)
        took_in (Ok out) at =
            let k = receiver_data-keeps verdict n body r short in
            let back =
            subst (λ (x : Result (Option Packet) RecvFault). IfSome (sent_of x) ReadsBack) at
            (acks-reads_back r came.receiver (sent_of came.result) k g.bounds) in
            let sends = subst (λ (x : Result (Option Packet) RecvFault). IfSome (sent_of x) (λ p. p ≡ ack came.receiver.count)) at k.sends in
            receives-holds came.receiver getting_after out back sends (ends_answered out at)
        took_in (Err fault) at =
            fails_with w h e c is (cause_of fault) (Some (out_to port (refusal_packet (refusal_of fault)) c)) (sends_refusal w h e c is port (refusal_of fault))
            (refusal_binds w h e c is port (refusal_of fault) (in_phase (failed (cause_of fault)) c))

        -- a DATA keeps the invariant
        pub took-holds : Holds (after_client e c (get_took port came.receiver came.result c) w)
        took-holds = took_in came.result refl

      -- a time-out
      module _ (r : Receiver) (g : IsGetting w.past e port r) (begins : phase_state c.phase ≡ state.Running → r.state ≡ recv.Running) where
        -- after the time-out it still fetches the same file
        getting_waited : IsGetting w.past e port (receiver_timeout r).receiver
        getting_waited =
            getting_on port r (receiver_timeout r).receiver g (λ own. receiver_timeout-holds (g.served own).file r (g.served own).holds)
            ((receiver_timeout-keeps r).fits g.bounds)

        -- it has not got its file by that
        never_waited : newly_got (phase_state c.phase) (recv_state (receiver_timeout r).receiver.state) ≡ true → ⊥
        never_waited new =
            let both = newly_got-from (phase_state c.phase) (recv_state (receiver_timeout r).receiver.state) new in
            waits_unended r.state r refl (begins both.0) both.1

        -- it waits on
        waits_on : Holds (after_client e c (get_stays port (receiver_timeout r) c) w)
        waits_on =
            let k = receiver_timeout-keeps r in
            let a = receiver_timeout r in
            receives-holds a.receiver getting_waited a.out (acks-reads_back r a.receiver a.out k g.bounds) k.sends (λ new. absurd (never_waited new))

        waited_in : (state : RecvState) → Holds (after_client e c (get_waited state port (receiver_timeout r) c) w)
        waited_in recv.Running = waits_on
        waited_in recv.Complete = waits_on
        waited_in recv.TimedOut = fails-holds w h e c is cause.TimedOut
        waited_in recv.Over = waits_on

        -- a time-out of a get that is bound keeps the invariant
        pub get_waits-holds : Holds (after_client e c (get_waits port (receiver_timeout r) c) w)
        get_waits-holds = waited_in (receiver_timeout r).receiver.state

    -- ---- it binds

    module _ (rules : Ruleset) (misses : ℕ) (at : c.phase ≡ asking (get rules) misses) (there : IsAskingFor w.past e (get rules))
        (verdict : Verdict) (port n : ℕ) (body : List ℕ) (short : length body ≤ BLOCK_SIZE) where
      -- it is bound to no port
      unbound : (q : ℕ) → MayBind c.phase q → q ≡ port
      unbound q m = absurd (subst (λ (x : Phase). MayBind x q) at m)

      -- a new receiver fetches whatever is served
      getting_first : (other : Ruleset) (file : List ℕ) → Serves w.past e port other file → IsGetting w.past e port receiver_start
      getting_first other file serves =
          let began : HasGet w.past e rules there.count = record { among = there.among } in
          let here =
          λ (own : IsOwn w e). subst (λ (k : Ruleset). Serves w.past e port k file) (served_since own rules other there.count port file began serves).0 serves in
          record {
            rules = rules;
            count = there.count;
            began = began;
            bounds = IsReceiver-start;
            served = λ own. record { file = file; serves = here own; holds = refl };
          }

      -- a DATA that may answer the request keeps the invariant
      pub get_answered-holds : (other : Ruleset) (file : List ℕ) → Serves w.past e port other file → body ≡ block_of file n → (first : Bool) →
          Holds (after_client e c (get_answered first verdict port n body c) w)
      unfolding getting_first
      get_answered-holds other file serves is_block true =
          took-holds port unbound receiver_start (getting_first other file serves) (λ run. refl) verdict n body short (λ own. is_block)
      get_answered-holds other file serves is_block false = stays-holds w h e c is

    -- ---- it is refused

    -- an ERROR keeps the invariant
    pub get_refused-holds : (state : RecvState) (code : ℕ) → Holds (after_client e c (get_refused state code c) w)
    get_refused-holds recv.Running code = fails-holds w h e c is (cause.Refused code)
    get_refused-holds recv.Complete code = stays-holds w h e c is
    get_refused-holds recv.TimedOut code = stays-holds w h e c is
    get_refused-holds recv.Over code = stays-holds w h e c is
