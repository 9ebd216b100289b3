-- A DATA arrives at a receiver of the server, and the invariant still holds.
use Rattle.std.proofs.Common.{◌≡◌, ℕ, ◌≤◌, List, length, Option, None, Some, IfSome, Result, Ok, Err, refl, ap, sym, ◌∙◌, subst}
use Rattle.tftp_packet.specs.declared.sizes.TheConstants.{BLOCK_SIZE}
use Rattle.tftp_packet.specs.declared.refusal.Refusal.TheVariants.{OutOfMemory, NotKept}
use Rattle.tftp_packet.specs.Packet.{Packet, ack}
use Rattle.tftp_packet.specs.Blocks.{block_of}
use Rattle.tftp_ends.specs.declared.recv_state.RecvState.TheVariants as recv
use Rattle.tftp_ends.specs.declared.recv_fault.RecvFault.{RecvFault}
use Rattle.tftp_ends.specs.Ends.{Receiver, DataAnswer, TakeAnswer, receiver_data, receiver_take, dgram_of, sent_of, answer_of, IsReceiver, refusal_of}
use Rattle.tftp_ends.proofs.Steps.{ReadsBack, KeepsReceiver, receiver_data-keeps, receiver_take-keeps, acks-reads_back}
use Rattle.archive_table.specs.Table.{Maps, Grant, all, no_memory, unkept, memory_verdict, Taken, Transfer, TableAnswer, receiving, transfer_at, sends_from, refusal_dgram, file_come, file_asked, block_answered, data_at, IsMerged}
use Rattle.archive_model.specs.World.{World, after_transfer, to_write, Extends}
use Rattle.archive_theorem.specs.Headline.{IsOwn}
use Rattle.archive_model.proofs.Places.{Has, Has-last}
use Rattle.archive_theorem.proofs.Claim_Past.{HasPut, HasTaken, PutsBlock, AcksPut, HasCome, ReceivesPut, IsReceivingAt, IsRunning, IsBound, IsTakenFrom}
use Rattle.archive_theorem.proofs.Claim_Lasts.{put-lasts, opened-lasts}
use Rattle.archive_theorem.proofs.Claim_Owns.{one_put}
use Rattle.archive_theorem.proofs.Claim_Invariant.{Holds}
use Rattle.archive_theorem.proofs.Server_Sends.{from_port, honest_refusal, sends_packet, goes_on-holds, closes-holds}
use Rattle.archive_theorem.proofs.Server_Acks.{acks-put, ack_says}
use Rattle.archive_theorem.proofs.Server_Merges.{best-taken}
use Rattle.archive_theorem.proofs.Server_Takes.{Taking, taken_of, world_taken, takes-holds, taken-extends}
use Rattle.archive_theorem.proofs.Server_Blocks.{HoldsOrTaken, data-come, data-running, take-state, take-count, take-stops, take-gone, none-come, some-come}

-- if a file is taken, it has made the collections
abbrev pub MergesTaken : World → TableAnswer → Type 0
MergesTaken w a = (u : Taken) → a.step.taken ≡ Some u → IsMerged u.file w.server.maps a.server.maps

module _ (w : World) (h : Holds w) (port : ℕ) (t : Transfer) (is : transfer_at port w.server ≡ Some t) (r : Receiver)
    (end : t.end ≡ receiving r) (there : IsReceivingAt w.past t.peer port r) (n : ℕ) (body : List ℕ) (short : length body ≤ BLOCK_SIZE)
    (grant : Grant) where
  -- the receiver's answer, and what is then taken out of it
  abbrev came : DataAnswer
  came = receiver_data (memory_verdict grant) n body r

  abbrev took : TakeAnswer
  took = receiver_take came.receiver

  -- the receiver's step keeps what each does
  keeps : KeepsReceiver r came.receiver (sent_of came.result)
  keeps = receiver_data-keeps (memory_verdict grant) n body r short

  -- it is within its bounds after the DATA
  bounds : IsReceiver came.receiver
  bounds = keeps.fits there.bounds

  -- and after its file is taken out
  took_bounds : IsReceiver took.receiver
  took_bounds = (receiver_take-keeps came.receiver).fits bounds

  -- what is sent is an ACK that reads back
  reads_back : (out : Option Packet) → came.result ≡ Ok out → IfSome out ReadsBack
  reads_back out e =
      subst (λ (x : Result (Option Packet) RecvFault). IfSome (sent_of x) ReadsBack) e
      (acks-reads_back r came.receiver (sent_of came.result) keeps there.bounds)

  -- what is sent is the ACK of its last block
  acked : (out : Option Packet) → came.result ≡ Ok out → IfSome out (λ p. p ≡ ack took.receiver.count)
  acked out e =
      let sends = subst (λ (x : Result (Option Packet) RecvFault). IfSome (sent_of x) (λ p. p ≡ ack came.receiver.count)) e keeps.sends in
      subst (λ (k : ℕ). IfSome out (λ p. p ≡ ack k)) (sym (take-count came.receiver)) sends

  -- ---- no file is handed out

  -- it still receives the put
  put_goes_on : (p : ReceivesPut w.past t.peer r) → HoldsOrTaken w t.peer p.file r came.receiver → took.file ≡ None → ReceivesPut w.past t.peer took.receiver
  put_goes_on p held none =
      record { file = p.file; began = p.began; come = none-come w t.peer p.file r came.receiver held none }

  -- its ACK is that of a block of the put
  acks_of : ReceivesPut w.past t.peer took.receiver → AcksPut w.past t.peer took.receiver.count
  acks_of p = acks-put w t.peer p.file took.receiver took.receiver.state refl took_bounds p.began p.come

  -- if it still waits for blocks, it did before
  onward : IsRunning (receiving took.receiver) → IsRunning t.end
  onward running =
      subst IsRunning (sym end) (data-running (memory_verdict grant) n body r (sym (take-state came.receiver) ∙ running))

  -- if no file is handed out the invariant holds
  goes_on : (whose : IsOwn w t.peer → ReceivesPut w.past t.peer took.receiver) → (out : Option Packet) → came.result ≡ Ok out →
      Holds (after_transfer (file_asked None grant w.server.maps port t.peer took.receiver (dgram_of out) w.server) w)
  goes_on whose out e =
      let next : IsReceivingAt w.past t.peer port took.receiver = record { bounds = took_bounds; count = there.count; opened = there.opened; whose = whose } in
      let says = ack_says w port t.peer out took.receiver.count (acked out e) (λ own. acks_of (whose own)) in
      goes_on-holds w h port t (receiving took.receiver) (dgram_of out) is next onward (sends_packet w port t.peer out (reads_back out e) says)

  -- ---- a file is handed out

  module _ (file : List ℕ) (given : took.file ≡ Some file) (maps : Maps) (out : Option Packet) (e : came.result ≡ Ok out) where
    -- the world after it is taken
    abbrev after : World
    after = world_taken maps port t file took.receiver (sends_from port t.peer (dgram_of out)) w

    grows : Extends w.past after.past
    grows = taken-extends w maps port t file took.receiver (sends_from port t.peer (dgram_of out))

    -- a put's file is handed out whole, for the first time
    pub record IsGiven : Type 0 where
      pub began : HasPut w.past t.peer file
      pub running : r.state ≡ recv.Running
      pub complete : took.receiver.state ≡ recv.Complete

    -- it is the put's, if the peer's ports are its own
    given_put : (p : ReceivesPut w.past t.peer r) → HoldsOrTaken w t.peer p.file r came.receiver → IsGiven
    given_put p held =
        let whole = some-come w t.peer p.file r came.receiver file bounds held given in
        record {
          began = subst (HasPut w.past t.peer) (sym whole.0) p.began;
          running = whole.1;
          complete = take-state came.receiver ∙ whole.2;
        }

    -- it is among the files taken
    has_taken : HasTaken after.past t.peer file
    has_taken = record { among = Has-last w.taken (taken_of t file) }

    -- the receiver has all of the put
    receives : IsGiven → ReceivesPut after.past t.peer took.receiver
    receives g =
        record {
          file = file;
          began = put-lasts grows t.peer file g.began;
          come = subst (HasCome after.past t.peer file took.receiver) (sym g.complete) (has_taken, take-gone came.receiver file given);
        }

    -- so it may acknowledge the last block
    acks_taken : IsGiven → AcksPut after.past t.peer took.receiver.count
    acks_taken g = record { file = file; began = put-lasts grows t.peer file g.began; is_taken = λ last. has_taken }

    -- the file was taken where its client is bound
    takes_from : IsBound w.past t.peer port → IsGiven → IsTakenFrom w.past t.peer file port
    takes_from bound g = record { began = g.began; bound = bound }

    -- no file was taken from there before
    fresh_from : IsBound w.past t.peer port → (IsOwn w t.peer → IsGiven) → IsOwn w t.peer → (u : Taken) → Has w.taken u → u.peer ≡ t.peer → ⊥
    fresh_from bound whose own u has same =
        h.untaken port t is (subst IsRunning (sym end) (whose own).running) own u has same bound

    -- so all is shown that taking it needs
    taking : IsBound w.past t.peer port → IsMerged file w.server.maps maps → (IsOwn w t.peer → IsGiven) →
        Taking w maps port t file took.receiver (sends_from port t.peer (dgram_of out))
    taking bound merged whose =
        record {
          is = is;
          there = record {
            bounds = took_bounds;
            count = there.count;
            opened = opened-lasts grows t.peer port to_write there.count there.opened;
            whose = λ own. receives (whose own);
          };
          stopped = take-stops came.receiver file given;
          honest = sends_packet after port t.peer out (reads_back out e)
              (ack_says after port t.peer out took.receiver.count (acked out e) (λ own. acks_taken (whose own)));
          count = there.count;
          opened = there.opened;
          whose = λ own. takes_from bound (whose own);
          fresh = fresh_from bound whose;
          best = best-taken w.taken (taken_of t file) w.server.maps maps h.best merged;
        }

    -- by what was granted
    file_grant : (g : Grant) → IsBound w.past t.peer port → (IsOwn w t.peer → IsGiven) →
        MergesTaken w (file_come g maps port t.peer file took.receiver (dgram_of out) w.server) →
        Holds (after_transfer (file_come g maps port t.peer file took.receiver (dgram_of out) w.server) w)
    file_grant all bound whose joined =
        takes-holds w h maps port t file took.receiver (sends_from port t.peer (dgram_of out)) (taking bound (joined (taken_of t file) refl) whose)
    file_grant no_memory bound whose joined =
        closes-holds w h port t.peer (Some (refusal_dgram OutOfMemory)) (honest_refusal w (from_port w port) t.peer OutOfMemory)
    file_grant unkept bound whose joined =
        closes-holds w h port t.peer (Some (refusal_dgram NotKept)) (honest_refusal w (from_port w port) t.peer NotKept)

  -- ---- the step

  -- what arrives is from the peer, a block of its put
  module _ (maps : Maps) (bound : IsBound w.past t.peer port) (received : IsOwn w t.peer → PutsBlock w.past t.peer n body) where
    -- what the receiver has, if the peer's ports are its own
    abbrev Held : Type 0
    Held = (p : ReceivesPut w.past t.peer r) × HoldsOrTaken w t.peer p.file r came.receiver

    -- it has the first blocks of the put
    held : IsOwn w t.peer → Held
    held own =
        let p = there.whose own in
        let puts = received own in
        let same = one_put w.past t.peer own puts.file p.file puts.began p.began in
        (p, data-come w t.peer p.file r (memory_verdict grant) n body (puts.is_block ∙ ap (λ (f : List ℕ). block_of f n) same) p.come)

    -- whether or not a file is handed out
    file_found : (found : Option (List ℕ)) → took.file ≡ found → (out : Option Packet) → came.result ≡ Ok out →
        MergesTaken w (file_asked found grant maps port t.peer took.receiver (dgram_of out) w.server) →
        Holds (after_transfer (file_asked found grant maps port t.peer took.receiver (dgram_of out) w.server) w)
    file_found None none out e joined = goes_on (λ own. let x = held own in put_goes_on x.0 x.1 none) out e
    file_found (Some file) given out e joined =
        file_grant file given maps out e grant bound (λ own. let x = held own in given_put file given maps out e x.0 x.1) joined

    -- whether or not the block was taken
    block_in : (result : Result (Option Packet) RecvFault) → came.result ≡ result →
        MergesTaken w (block_answered (answer_of result) grant maps port t.peer came.receiver w.server) →
        Holds (after_transfer (block_answered (answer_of result) grant maps port t.peer came.receiver w.server) w)
    block_in (Ok out) e joined = file_found took.file refl out e joined
    block_in (Err fault) e joined =
        closes-holds w h port t.peer (Some (refusal_dgram (refusal_of fault))) (honest_refusal w (from_port w port) t.peer (refusal_of fault))

    -- a DATA to a receiver of the server keeps the invariant
    pub data-holds : MergesTaken w (data_at (receiving r) grant maps port t.peer n body w.server) →
        Holds (after_transfer (data_at (receiving r) grant maps port t.peer n body w.server) w)
    data-holds joined = block_in came.result refl joined
