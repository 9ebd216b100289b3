-- What every event keeps of a pair, and what follows.
use Rattle.std.proofs.Common.{◌≡◌, ◌⊎◌, ℕ, ◌≤◌, List, [], ◌∷◌, length, slice_get, Option, None, Some, IfSome, refl, ap, sym, ◌∙◌, subst, arith, inl, inr, ⊎_elim}
use Rattle.tftp_packet.specs.Packet.{Packet, read, write, data_block, ack, error}
use Rattle.tftp_packet.specs.Blocks.{block_count, block_of, first_blocks}
use Rattle.tftp_packet.proofs.Cutting.{length-block_of-le, joined_first}
use Rattle.tftp_ends.specs.declared.send_state.SendState.TheVariants as sending
use Rattle.tftp_ends.specs.Ends.{Verdict, Receiver, SendAnswer, data_packet, sender_ack, sender_timeout, receiver_data, receiver_timeout, receiver_take, sent_of, HoldsFirst, IsReceiver}
use Rattle.tftp_ends.specs.Pair.{Pair, PairEvent, deliver, sender_times_out, receiver_times_out, take_file, pair_start, sent_after, taken_after, after_ack, after_data, after_sender_timeout, after_receiver_timeout, after_take, after_packet, after_event, after_events, pair_run, HasFirstBlocks, FinishesWhole, SendsOnce, IsTakenOnce}
use Rattle.tftp_ends.proofs.Steps.{KeepsSender, sender_ack-keeps, sender_ack-sends, sender_ack-finishes, sender_timeout-keeps, sender_timeout-sends, sender_timeout-finishes, KeepsReceiver, IsReceiver-start, receiver_data-keeps, receiver_timeout-keeps, receiver_take-keeps}
use Rattle.tftp_ends.proofs.Holding.{receiver_data-holds, receiver_data-next, receiver_timeout-same, receiver_take-gives, ended-whole, last-ended, IsSameOrNext}
use Rattle.tftp_ends.proofs.Network.{IsHonest, AllHonest, AllHonest-data, AllHonest-ack, IsHonest-at, once_acked, once_again, count-acks}

-- its bytes are the first blocks of the file, or the whole file was taken out
abbrev pub HasBytes : (file : List ℕ) → Receiver → (taken : List (List ℕ)) → Type 0
HasBytes file r taken =
    ((taken ≡ []) × HoldsFirst file r) ⊎ ((taken ≡ file ∷ []) × (r.file ≡ None) × (r.count ≡ block_count file))

-- the file, the packets sent and both ends agree: what holds at the start and after each event
pub record Keeps (file : List ℕ) (p : Pair) : Type 0 where
  pub file_is : p.sender.file ≡ file
  pub within : p.sender.current ≤ block_count file
  pub come : p.receiver.count ≤ p.sender.current
  pub honest : AllHonest file p.sender.current p.receiver.count p.sent
  pub bounds : IsReceiver p.receiver
  pub bytes : HasBytes file p.receiver p.taken
  pub finished : p.sender.state ≡ sending.Finished → p.receiver.count ≡ block_count file
  pub once : SendsOnce p

-- it holds of this pair
module _ (file : List ℕ) (p : Pair) (k : Keeps file p) where
  count_is : block_count p.sender.file ≡ block_count file
  count_is = ap block_count k.file_is

  -- ---- the sender

  -- after a sender's step, its block is one of the file's
  sender_within : (a : SendAnswer) → KeepsSender p.sender a → a.sender.current ≤ block_count file
  sender_within a s = omega (arith, s.within (omega (arith, k.within, count_is)), count_is)

  -- after it, each packet sent is a block of the file or the ACK of one
  sender_honest : (a : SendAnswer) → KeepsSender p.sender a → AllHonest file a.sender.current p.receiver.count (sent_after p.sent a.out)
  sender_honest a s =
      AllHonest-data file p.sender.current a.sender.current p.receiver.count p.sent a.out s.onward k.honest
      (subst (λ (f : List ℕ). IfSome a.out (λ q. q ≡ data_packet f a.sender.current)) k.file_is s.sends)

  -- an ACK of a block that the receiver has arrives at the sender
  ack_keeps : (n : ℕ) → n ≤ p.receiver.count → Keeps file (after_ack (sender_ack n p.sender) p)
  ack_keeps n came =
      let a = sender_ack n p.sender in
      let s = sender_ack-keeps n p.sender in
      record {
        file_is = s.file ∙ k.file_is;
        within = sender_within a s;
        come = omega (arith, k.come, s.onward);
        honest = sender_honest a s;
        bounds = k.bounds;
        bytes = k.bytes;
        finished = λ e. ⊎_elim k.finished (λ last. omega (arith, last.0, last.1, count_is, k.come)) (sender_ack-finishes n p.sender e);
        once = once_acked p.sent p.resent p.sender a k.once (sender_ack-sends n p.sender);
      }

  -- the sender times out
  sender_timeout_keeps : Keeps file (after_sender_timeout (sender_timeout p.sender) p)
  sender_timeout_keeps =
      let a = sender_timeout p.sender in
      let s = sender_timeout-keeps p.sender in
      record {
        file_is = s.file ∙ k.file_is;
        within = sender_within a s;
        come = omega (arith, k.come, s.onward);
        honest = sender_honest a s;
        bounds = k.bounds;
        bytes = k.bytes;
        finished = λ e. k.finished (sender_timeout-finishes p.sender e);
        once = once_again p.sent p.resent p.sender a k.once (sender_timeout-sends p.sender);
      }

  -- ---- the receiver

  -- after a receiver's step, each packet sent is a block of the file or the ACK of one
  receiver_honest : (next : Receiver) (out : Option Packet) → KeepsReceiver p.receiver next out → AllHonest file p.sender.current next.count (sent_after p.sent out)
  receiver_honest next out s = AllHonest-ack file p.sender.current p.receiver.count next.count p.sent out s.onward k.honest s.sends

  -- after a DATA of the file
  data_bytes : (n : ℕ) (body : List ℕ) → n ≤ p.sender.current → body ≡ block_of file n → (verdict : Verdict) → HasBytes file (receiver_data verdict n body p.receiver).receiver p.taken
  data_bytes n body came is_block verdict =
      ⊎_elim
      (λ held. inl (held.0, receiver_data-holds file p.receiver held.1 verdict n body is_block))
      (λ gone.
      ⊎_elim
      (λ same. inr (gone.0, ap (λ (r : Receiver). r.file) same ∙ gone.1, ap (λ (r : Receiver). r.count) same ∙ gone.2))
      (λ next. absurd (omega (arith, next.0, gone.2, k.within)))
      (receiver_data-next verdict n body p.receiver))
      k.bytes

  -- a receiver has no block that the sender has not reached
  data_come : (n : ℕ) (next : Receiver) → n ≤ p.sender.current → IsSameOrNext n p.receiver next → next.count ≤ p.sender.current
  data_come n next came (inl same) = omega (arith, ap (λ (r : Receiver). r.count) same, k.come)
  data_come n next came (inr is_next) = omega (arith, is_next.0, is_next.1)

  -- a finished sender's receiver has all blocks, and keeps them
  data_finished : (n : ℕ) (next : Receiver) → n ≤ p.sender.current → IsSameOrNext n p.receiver next → p.sender.state ≡ sending.Finished → next.count ≡ block_count file
  data_finished n next came (inl same) e = ap (λ (r : Receiver). r.count) same ∙ k.finished e
  data_finished n next came (inr is_next) e = absurd (omega (arith, is_next.0, k.finished e, k.within))

  -- a block of the file arrives at the receiver
  data_keeps : (n : ℕ) (body : List ℕ) → n ≤ p.sender.current → body ≡ block_of file n → (verdict : Verdict) → Keeps file (after_data (receiver_data verdict n body p.receiver) p)
  data_keeps n body came is_block verdict =
      let a = receiver_data verdict n body p.receiver in
      let s = receiver_data-keeps verdict n body p.receiver (omega (arith, ap length is_block, length-block_of-le file n)) in
      let next = receiver_data-next verdict n body p.receiver in
      record {
        file_is = k.file_is;
        within = k.within;
        come = data_come n a.receiver came next;
        honest = receiver_honest a.receiver (sent_of a.result) s;
        bounds = s.fits k.bounds;
        bytes = data_bytes n body came is_block verdict;
        finished = data_finished n a.receiver came next;
        once = count-acks p.sent a.receiver.count (sent_of a.result) s.sends ∙ k.once;
      }

  -- the receiver times out
  receiver_timeout_keeps : Keeps file (after_receiver_timeout (receiver_timeout p.receiver) p)
  receiver_timeout_keeps =
      let a = receiver_timeout p.receiver in
      let s = receiver_timeout-keeps p.receiver in
      let same = receiver_timeout-same p.receiver in
      record {
        file_is = k.file_is;
        within = k.within;
        come = omega (arith, same.0, k.come);
        honest = receiver_honest a.receiver a.out s;
        bounds = s.fits k.bounds;
        bytes = ⊎_elim (λ held. inl (held.0, same.1 ∙ held.1 ∙ ap (λ (n : ℕ). Some (first_blocks file n)) (sym same.0))) (λ gone. inr (gone.0, same.1 ∙ gone.1, same.0 ∙ gone.2)) k.bytes;
        finished = λ e. same.0 ∙ k.finished e;
        once = count-acks p.sent a.receiver.count a.out s.sends ∙ k.once;
      }

  -- the file is asked for
  given : (r : Receiver) (taken : List (List ℕ)) → r.file ≡ Some file → taken ≡ [] → taken_after taken r.file ≡ file ∷ []
  given r taken whole none = ap (λ ts. taken_after ts r.file) none ∙ ap (taken_after []) whole

  -- the receiver is asked for the file
  take_keeps : Keeps file (after_take (receiver_take p.receiver) p)
  take_keeps =
      let a = receiver_take p.receiver in
      let s = receiver_take-keeps p.receiver in
      ⊎_elim
      (λ same.
      let count = ap (λ (r : Receiver). r.count) same.0 in
      let kept = ap (λ (r : Receiver). r.file) same.0 in
      let none = ap (taken_after p.taken) same.1 in
      record {
        file_is = k.file_is;
        within = k.within;
        come = omega (arith, count, k.come);
        honest = receiver_honest a.receiver None s;
        bounds = s.fits k.bounds;
        bytes = ⊎_elim (λ held. inl (none ∙ held.0, kept ∙ held.1 ∙ ap (λ (n : ℕ). Some (first_blocks file n)) (sym count))) (λ gone. inr (none ∙ gone.0, kept ∙ gone.1, count ∙ gone.2)) k.bytes;
        finished = λ e. count ∙ k.finished e;
        once = k.once;
      })
      (λ gives.
      record {
        file_is = k.file_is;
        within = k.within;
        come = omega (arith, gives.1, k.come);
        honest = receiver_honest a.receiver None s;
        bounds = s.fits k.bounds;
        bytes = ⊎_elim (λ held. let whole = ended-whole file p.receiver held.1 k.bounds gives.0 in
            inr (ap (taken_after p.taken) gives.3 ∙ given p.receiver p.taken whole.1 held.0, gives.2, gives.1 ∙ whole.0))
            (λ gone. inr (ap (taken_after p.taken) (gives.3 ∙ gone.1) ∙ gone.0, gives.2, gives.1 ∙ gone.2)) k.bytes;
        finished = λ e. gives.1 ∙ k.finished e;
        once = k.once;
      })
      (receiver_take-gives p.receiver)

  -- ---- an event

  -- a packet that was sent before arrives
  packet_keeps : (packet : Option Packet) → IfSome packet (IsHonest file p.sender.current p.receiver.count) → (verdict : Verdict) → Keeps file (after_packet packet verdict p)
  packet_keeps None honest verdict = k
  packet_keeps (Some (read name mode)) honest verdict = k
  packet_keeps (Some (write name mode)) honest verdict = k
  packet_keeps (Some (data_block n body)) honest verdict = data_keeps n body honest.0 honest.1 verdict
  packet_keeps (Some (ack n)) honest verdict = ack_keeps n honest
  packet_keeps (Some (error code text)) honest verdict = k

  -- any event
  event_keeps : (event : PairEvent) → Keeps file (after_event event p)
  event_keeps (deliver index verdict) =
      packet_keeps (slice_get p.sent index) (IsHonest-at file p.sender.current p.receiver.count p.sent index k.honest) verdict
  event_keeps sender_times_out = sender_timeout_keeps
  event_keeps receiver_times_out = receiver_timeout_keeps
  event_keeps take_file = take_keeps

-- ---- a run

-- any events
events_keep : (file : List ℕ) (events : List PairEvent) (p : Pair) → Keeps file p → Keeps file (after_events events p)
events_keep file [] p k = k
events_keep file (event ∷ events) p k = events_keep file events (after_event event p) (event_keeps file p k event)

-- it holds at the start
start_keeps : (file : List ℕ) → Keeps file (pair_start file)
start_keeps file =
    record {
      file_is = refl;
      within = omega arith;
      come = omega arith;
      honest = ((omega arith, refl), tt);
      bounds = IsReceiver-start;
      bytes = inl (refl, refl);
      finished = λ e. absurd cc;
      once = refl;
    }

-- it holds after each run
run_keeps : (file : List ℕ) (events : List PairEvent) → Keeps file (pair_run file events)
run_keeps file events = events_keep file events (pair_start file) (start_keeps file)

-- ---- what follows

-- until the file is taken out, the receiver's bytes are the first blocks
held_from : (file : List ℕ) (r : Receiver) (taken : List (List ℕ)) → HasBytes file r taken → taken ≡ [] → HoldsFirst file r
held_from file r taken (inl held) none = held.1
held_from file r taken (inr gone) none = let both : [] ≡ file ∷ [] = sym none ∙ gone.0 in absurd cc

-- in each run the receiver has the first blocks of the file until it is taken out
pub first_blocks_held : (file : List ℕ) (events : List PairEvent) → HasFirstBlocks file (pair_run file events)
first_blocks_held file events none =
    let p = pair_run file events in
    held_from file p.receiver p.taken (run_keeps file events).bytes none ∙ ap Some (sym (joined_first file p.receiver.count))

-- if the sender has finished, the receiver has the whole file
whole_from : (file : List ℕ) (p : Pair) → Keeps file p → p.sender.state ≡ sending.Finished → p.taken ≡ [] → p.receiver.file ≡ Some file
whole_from file p k finished none =
    let holds = held_from file p.receiver p.taken k.bytes none in
    (ended-whole file p.receiver holds k.bounds (last-ended file p.receiver holds k.bounds (k.finished finished))).1

-- in each run a sender finishes only if the receiver has the whole file
pub finishes_whole : (file : List ℕ) (events : List PairEvent) → FinishesWhole file (pair_run file events)
finishes_whole file events = whole_from file (pair_run file events) (run_keeps file events)

-- in each run there is one DATA for each block, and one for each time-out that made the sender send
pub sends_once : (file : List ℕ) (events : List PairEvent) → SendsOnce (pair_run file events)
sends_once file events = (run_keeps file events).once

-- what was taken out is nothing, or the file once
taken_from : (file : List ℕ) (r : Receiver) (taken : List (List ℕ)) → HasBytes file r taken → (taken ≡ []) ⊎ (taken ≡ file ∷ [])
taken_from file r taken (inl held) = inl held.0
taken_from file r taken (inr gone) = inr gone.0

-- in each run at most one file is taken out, and it is the sender's
pub taken_once : (file : List ℕ) (events : List PairEvent) → IsTakenOnce file (pair_run file events)
taken_once file events = taken_from file (pair_run file events).receiver (pair_run file events).taken (run_keeps file events).bytes
