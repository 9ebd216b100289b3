-- Steps of a client that puts, after which the invariant holds.
use Rattle.std.proofs.Common.{◌≡◌, ◌≢◌, ◌⊎◌, ℕ, Bool, true, false, List, Option, None, Some, IfSome, Ok, refl, ap, sym, ◌∙◌, subst, inl, inr, ⊎_elim}
use Rattle.tftp_packet.specs.declared.endpoint.Endpoint.{Endpoint}
use Rattle.tftp_packet.specs.Packet.{Packet, ack}
use Rattle.tftp_packet.specs.Blocks.{block_count, block_of}
use Rattle.tftp_packet.specs.Decode.{decode_bytes}
use Rattle.tftp_ends.specs.declared.send_state.SendState.{SendState}
use Rattle.tftp_ends.specs.declared.send_state.SendState.TheVariants as send
use Rattle.tftp_ends.specs.Ends.{Sender, SendAnswer, data_packet, sender_start, sender_ack, sender_timeout}
use Rattle.tftp_ends.proofs.Steps.{ReadsBack, KeepsSender, IsSender-start, start-reads_back, sender_ack-keeps, sender_ack-finishes, sender_timeout-keeps, sender_timeout-finishes, sends-reads_back}
use Rattle.tftp_packet.specs.declared.cause.Cause.TheVariants as cause
use Rattle.archive_client.specs.declared.state.State.TheVariants as state
use Rattle.archive_client.specs.Client.{put, Phase, asking, sending, Client, in_phase, out_to, sends_to, put_answered, put_sent, put_waited, put_waits, send_state, phase_state}
use Rattle.archive_model.specs.World.{Datagram, World, newly_sent, after_client, client_at}
use Rattle.archive_theorem.specs.Headline.{IsOwn}
use Rattle.archive_model.proofs.Places.{Has}
use Rattle.archive_theorem.proofs.Claim_Past.{HasPut, HasTaken, IsStranger, PutsBlock, Fetches, ServerAcks, AcksPut, Says, IsAskingFor, IsPutting, MayBind, IsSent}
use Rattle.archive_theorem.proofs.Claim_Owns.{get_begun, one_put}
use Rattle.archive_theorem.proofs.Claim_Invariant.{Holds}
use Rattle.archive_theorem.proofs.Server_Moves.{begun_away}
use Rattle.archive_theorem.proofs.Client_Moves.{SendsHonestly, BindsTo}
use Rattle.archive_theorem.proofs.Client_Changes.{never_sent, never_got, newly_sent-from, moves-holds, stays-holds, fails-holds, sends_it, binds_there}

-- ---- what the server's host says

-- no stranger is there
pub server_says : (w : World) → Holds w → (d : Datagram) → Has w.net d → d.source.host ≡ w.home.host → (p : Packet) →
    decode_bytes d.bytes ≡ Ok p → Says w.past d.source d.target p
server_says w h d among ours p reads =
    ⊎_elim (λ (s : IsStranger w.past d.source). absurd (h.strays s.datagram s.among (ap (λ (x : Endpoint). x.host) s.source ∙ ours)))
    (λ says. says p reads) (h.net d among).says

-- an ACK from the server's host is one of the put, if the client's ports are its own
pub acked_by : (w : World) → Holds w → (d : Datagram) → Has w.net d → d.source.host ≡ w.home.host → (n : ℕ) →
    decode_bytes d.bytes ≡ Ok (ack n) → IsOwn w d.target → AcksPut w.past d.target n
acked_by w h d among ours n reads own =
    ⊎_elim
    (λ (f : Fetches w.past d.source). absurd (begun_away w h d.source (get_begun d.source f.rules f.count f.began) ours))
    (λ (a : ServerAcks w.past d.source d.target n). a.whom own)
    (server_says w h d among ours (ack n) reads)

-- ---- states of a sender

-- a put counts as sent only if its sender has finished
sent_finished : (s : SendState) → send_state s ≡ state.Sent → s ≡ send.Finished
sent_finished send.Running e = absurd cc
sent_finished send.Finished e = refl
sent_finished send.TimedOut e = absurd cc

-- a put never has a file that was fetched
not_got : (s : SendState) → send_state s ≢ state.Got
not_got send.Running = λ e. cc
not_got send.Finished = λ e. cc
not_got send.TimedOut = λ e. cc

module _ (w : World) (h : Holds w) (e : Endpoint) (c : Client) (is : client_at e w ≡ Some c) where
  -- ---- it binds

  module _ (file : List ℕ) (misses : ℕ) (at : c.phase ≡ asking (put file) misses) (there : IsAskingFor w.past e (put file)) where
    -- the put has begun
    began : HasPut w.past e file
    began = record { count = there.count; among = there.among }

    -- it is bound to no port
    unbound : {P : Type 0} (q : ℕ) → MayBind c.phase q → P
    unbound q m = absurd (subst (λ (x : Phase). MayBind x q) at m)

    -- its first block is honest
    first_block : (port : ℕ) → SendsHonestly w e (out_to port (data_packet file 1) c)
    first_block port =
        let puts : PutsBlock w.past e 1 (block_of file 1) = record { file = file; began = began; is_block = refl } in
        sends_it w h e c is port (data_packet file 1) (start-reads_back file there.may).decoded (inl puts)

    -- the ACK of the request binds the client, which sends its first block: the invariant still holds
    pub binds-holds : (port : ℕ) → Holds (after_client e c (put_answered true port file c) w)
    binds-holds port =
        moves-holds w h e c is (sending port (sender_start file)) (Some (out_to port (data_packet file 1) c))
        (record {
          pursuing = record { began = began; bounds = IsSender-start file there.may };
          sending = first_block port;
          binding = binds_there w h e c is port (data_packet file 1) (in_phase (sending port (sender_start file)) c) (λ q same. same) (λ q m. unbound q m);
          still = λ q m. unbound q m;
          sends = λ new. never_sent (phase_state c.phase) state.Running (λ apart. cc) new;
          gets = λ new f given. never_got (phase_state c.phase) state.Running (λ apart. cc) new;
        })

    -- an ACK to a put that is not bound keeps the invariant
    pub answered-holds : (first : Bool) (port : ℕ) → Holds (after_client e c (put_answered first port file c) w)
    answered-holds true port = binds-holds port
    answered-holds false port = stays-holds w h e c is

  -- ---- it sends

  module _ (peer : ℕ) (s : Sender) (at : c.phase ≡ sending peer s) (there : IsPutting w.past e s) where
    -- it is bound to this port only
    bound_there : (q : ℕ) → MayBind c.phase q → q ≡ peer
    bound_there q m = subst (λ (x : Phase). MayBind x q) at m

    -- what its sender sends is a block of the file
    block_sends : (a : SendAnswer) → (out : Option Packet) → IfSome out ReadsBack →
        IfSome out (λ p. p ≡ data_packet s.file a.sender.current) → IfSome (sends_to peer out c) (SendsHonestly w e)
    block_sends a None back sends = tt
    block_sends a (Some p) back sends =
        let puts : PutsBlock w.past e a.sender.current (block_of s.file a.sender.current) = record { file = s.file; began = there.began; is_block = refl } in
        sends_it w h e c is peer p back.decoded (subst (Says w.past e (record { host = c.server.host; port = peer })) (sym sends) (inl puts))

    -- and binds it to no other port
    block_binds : (next : Sender) → (out : Option Packet) → IfSome (sends_to peer out c) (BindsTo w c (in_phase (sending peer next) c))
    block_binds next None = tt
    block_binds next (Some p) = binds_there w h e c is peer p (in_phase (sending peer next) c) (λ q same. same) bound_there

    -- it is newly finished only once the server has taken the file, if the ports are its own
    abbrev pub Finishes : SendAnswer → Type 0
    Finishes a = a.sender.state ≡ send.Finished → (s.state ≡ send.Finished) ⊎ (IsOwn w e → HasTaken w.past e s.file)

    -- a client that newly counts its file as sent was running
    was_running : s.state ≡ send.Finished → phase_state c.phase ≡ state.Running → state.Sent ≡ state.Running
    was_running finished running =
        sym (ap (λ (x : Phase). phase_state x) at ∙ ap (λ (x : SendState). send_state x) finished) ∙ running

    -- if it newly does, the server has taken the file
    is_sent : (a : SendAnswer) → Finishes a → newly_sent (phase_state c.phase) (send_state a.sender.state) ≡ true → IsSent w.past e
    is_sent a finishes new =
        let both = newly_sent-from (phase_state c.phase) (send_state a.sender.state) new in
        ⊎_elim
        (λ (was : s.state ≡ send.Finished). let apart : state.Sent ≡ state.Running = was_running was both.0 in absurd cc)
        (λ (taken : IsOwn w e → HasTaken w.past e s.file). record { file = s.file; began = there.began; is_taken = taken })
        (finishes (sent_finished a.sender.state both.1))

    -- a step of the sender keeps the invariant
    pub sent-holds : (a : SendAnswer) → KeepsSender s a → Finishes a → Holds (after_client e c (put_sent peer a c) w)
    sent-holds a k finishes =
        moves-holds w h e c is (sending peer a.sender) (sends_to peer a.out c)
        (record {
          pursuing = record { began = subst (HasPut w.past e) (sym k.file) there.began; bounds = k.fits there.bounds };
          sending = block_sends a a.out (sends-reads_back s a k there.bounds) k.sends;
          binding = block_binds a.sender a.out;
          still = bound_there;
          sends = is_sent a finishes;
          gets = λ new f given. never_got (phase_state c.phase) (send_state a.sender.state) (not_got a.sender.state) new;
        })

    -- an ACK arrives
    pub acked-holds : (n : ℕ) → (IsOwn w e → AcksPut w.past e n) → Holds (after_client e c (put_sent peer (sender_ack n s) c) w)
    acked-holds n said =
        let last : (n ≡ s.current) × (n ≡ block_count s.file) → IsOwn w e → HasTaken w.past e s.file =
        λ by own.
        let acks = said own in
        let same = one_put w.past e own acks.file s.file acks.began there.began in
        subst (HasTaken w.past e) same (acks.is_taken (by.1 ∙ ap block_count (sym same))) in
        sent-holds (sender_ack n s) (sender_ack-keeps n s) (λ finished. ⊎_elim (λ was. inl was) (λ by. inr (last by)) (sender_ack-finishes n s finished))

    -- a time-out
    waited_in : (state : SendState) → Holds (after_client e c (put_waited state peer (sender_timeout s) c) w)
    waited_in send.Running = sent-holds (sender_timeout s) (sender_timeout-keeps s) (λ finished. inl (sender_timeout-finishes s finished))
    waited_in send.Finished = sent-holds (sender_timeout s) (sender_timeout-keeps s) (λ finished. inl (sender_timeout-finishes s finished))
    waited_in send.TimedOut = fails-holds w h e c is cause.TimedOut

    -- a time-out of a put that is bound keeps the invariant
    pub put_waits-holds : Holds (after_client e c (put_waits peer (sender_timeout s) c) w)
    put_waits-holds = waited_in (sender_timeout s).sender.state
