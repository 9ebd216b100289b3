-- What each step of one end keeps, and what it sends. Nothing here is about two ends. `Holding` has what a receiver
-- knows of the file.
use Rattle.std.proofs.Common.{◌≡◌, ◌≢◌, ◌⊎◌, ℕ, ◌+◌, ◌*◌, ◌^◌, ◌<◌, ◌≤◌, Bool, true, false, ◌==◌, List, length, Option, None, Some, IsSome, IfSome, Ok, refl, sym, ◌∙◌, subst, arith, inl, inr, length-append}
use Rattle.std.proofs.lemmas.Bool.{eqb-true, eqb-false}
use Rattle.std.proofs.lemmas.Bool.Decides.{nat_tests}
use Rattle.tftp_packet.specs.declared.sizes.TheConstants.{BLOCK_SIZE}
use Rattle.tftp_packet.specs.Packet.{Packet, ack, HasPacketFields, encode}
use Rattle.tftp_packet.specs.Blocks.{block_count}
use Rattle.tftp_packet.specs.Decode.{decode_bytes}
use Rattle.tftp_packet.proofs.Cutting.{length-block_of-le}
use Rattle.tftp_packet.proofs.Packets.{decode_bytes-encode}
use Rattle.tftp_ends.specs.declared.limits.TheConstants.{MAX_BLOCKS, MAX_FILE, MISSES, DALLY}
use Rattle.tftp_ends.specs.declared.send_state.SendState.{SendState}
use Rattle.tftp_ends.specs.declared.send_state.SendState.TheVariants as sending
use Rattle.tftp_ends.specs.declared.recv_state.RecvState.{RecvState}
use Rattle.tftp_ends.specs.declared.recv_state.RecvState.TheVariants as receiving
use Rattle.tftp_ends.specs.Ends.{Verdict, granted, refused, Sender, SendAnswer, Receiver, data_packet, sender_start, sender_goes_on, sender_acked, sender_ack_in, sender_ack, sender_missed, sender_timeout_in, sender_timeout, receiver_start, receiver_appends, state_after, receiver_takes, receiver_next, receiver_again, is_last_come, is_past, receiver_running, receiver_data_in, receiver_data, receiver_waits, receiver_missed, receiver_dallied, receiver_timeout_in, receiver_timeout, receiver_gives, receiver_take_in, receiver_take, sent_of, IsSender, HasReceivedSize, IsReceiver}

-- ---- packets that read back

-- the fields are in range, so the bytes are decoded as this packet
pub record ReadsBack (p : Packet) : Type 0 where
  pub fields : HasPacketFields p
  pub decoded : decode_bytes (encode p) ≡ Ok p

-- a DATA whose block number fits in two bytes reads back
pub data-reads_back : (file : List ℕ) (k : ℕ) → k < 2 ^ 16 → ReadsBack (data_packet file k)
data-reads_back file k fits =
    let fields : HasPacketFields (data_packet file k) = (fits, length-block_of-le file k) in
    record { fields = fields; decoded = decode_bytes-encode (data_packet file k) fields (omega (arith, length-block_of-le file k)) }

-- an ACK whose block number fits in two bytes reads back
pub ack-reads_back : (n : ℕ) → n < 2 ^ 16 → ReadsBack (ack n)
ack-reads_back n fits = record { fields = fits; decoded = decode_bytes-encode (ack n) fits (omega arith) }

-- ---- the sender

-- the sender's number after an ACK, and what is sent: nothing, or the next block
abbrev pub GoesOn : Sender → SendAnswer → Type 0
GoesOn s a =
    ((a.out ≡ None) × (a.sender.current ≡ s.current))
    ⊎ ((a.out ≡ Some (data_packet s.file (s.current + 1))) × (a.sender.current ≡ s.current + 1))

-- what a time-out does: nothing is sent, or the current block again
abbrev pub SendsAgain : Sender → SendAnswer → Type 0
SendsAgain s a = (a.sender.current ≡ s.current) × ((a.out ≡ None) ⊎ (a.out ≡ Some (data_packet s.file s.current)))

-- what each step of a sender keeps
pub record KeepsSender (s : Sender) (a : SendAnswer) : Type 0 where
  pub file : a.sender.file ≡ s.file
  pub onward : s.current ≤ a.sender.current
  pub within : s.current ≤ block_count s.file → a.sender.current ≤ block_count s.file
  -- what it sends is the block of its file with its current number
  pub sends : IfSome a.out (λ p. p ≡ data_packet s.file a.sender.current)
  pub fits : IsSender s → IsSender a.sender

-- a sender that does nothing
stays_keeps : (s : Sender) → KeepsSender s (record { sender = s; out = None })
stays_keeps s = record { file = refl; onward = omega arith; within = λ w. w; sends = tt; fits = λ h. h }

-- a sender that only changes its state
ends_keeps : (state : SendState) (s : Sender) → KeepsSender s (record { sender = record s { state = state }; out = None })
ends_keeps state s =
    record {
      file = refl;
      onward = omega arith;
      within = λ w. w;
      sends = tt;
      fits = λ h. record { size = h.size; counted = h.counted; within = h.within; patient = h.patient };
    }

-- the current block was acknowledged
goes_on_keeps : (last : Bool) (s : Sender) → (s.current == block_count s.file) ≡ last → KeepsSender s (sender_goes_on last s)
goes_on_keeps true s is_last = ends_keeps sending.Finished s
goes_on_keeps false s is_last =
    let other : s.current ≡ block_count s.file → ⊥ = eqb-false _ _ is_last in
    let next : s.current ≤ block_count s.file → s.current + 1 ≤ block_count s.file = λ w. omega arith in
    record {
      file = refl;
      onward = omega arith;
      within = next;
      sends = refl;
      fits = λ h. record { size = h.size; counted = omega arith; within = next h.within; patient = omega arith };
    }

-- an ACK, of the current block or another
acked_keeps : (current : Bool) (s : Sender) → KeepsSender s (sender_acked current s)
acked_keeps true s = goes_on_keeps (s.current == block_count s.file) s refl
acked_keeps false s = stays_keeps s

ack_in_keeps : (state : SendState) (n : ℕ) (s : Sender) → KeepsSender s (sender_ack_in state n s)
ack_in_keeps sending.Running n s = acked_keeps (n == s.current) s
ack_in_keeps sending.Finished n s = stays_keeps s
ack_in_keeps sending.TimedOut n s = stays_keeps s

-- an ACK keeps the sender's file and bounds, and makes it send at most its current block
pub sender_ack-keeps : (n : ℕ) (s : Sender) → KeepsSender s (sender_ack n s)
sender_ack-keeps n s = ack_in_keeps s.state n s

-- a time-out, the last one or not
missed_keeps : (last : Bool) (s : Sender) → (s.misses + 1 == MISSES) ≡ last → KeepsSender s (sender_missed last s)
missed_keeps true s is_last = ends_keeps sending.TimedOut s
missed_keeps false s is_last =
    let other : s.misses + 1 ≡ MISSES → ⊥ = eqb-false _ _ is_last in
    record {
      file = refl;
      onward = omega arith;
      within = λ w. w;
      sends = refl;
      fits = λ h. record { size = h.size; counted = h.counted; within = h.within; patient = omega (arith, h.patient) };
    }

timeout_in_keeps : (state : SendState) (s : Sender) → KeepsSender s (sender_timeout_in state s)
timeout_in_keeps sending.Running s = missed_keeps (s.misses + 1 == MISSES) s refl
timeout_in_keeps sending.Finished s = stays_keeps s
timeout_in_keeps sending.TimedOut s = stays_keeps s

-- a time-out keeps the sender's file and bounds, and makes it send at most its current block
pub sender_timeout-keeps : (s : Sender) → KeepsSender s (sender_timeout s)
sender_timeout-keeps s = timeout_in_keeps s.state s

-- a new sender of a file that is not too long is within its bounds
pub IsSender-start : (file : List ℕ) → length file ≤ MAX_FILE → IsSender (sender_start file)
IsSender-start file short =
    record { size = short; counted = omega arith; within = omega arith; patient = omega arith }

-- the numbers of a file's blocks fit in two bytes
pub current-fits : (s : Sender) → IsSender s → s.current < 2 ^ 16
current-fits s fits = omega (arith, fits.size, fits.within)

-- the DATA with which a sender begins reads back
pub start-reads_back : (file : List ℕ) → length file ≤ MAX_FILE → ReadsBack (data_packet file 1)
start-reads_back file short = data-reads_back file 1 (omega arith)

-- if what is sent is the DATA of a block whose number fits in two bytes, it reads back
reads_back_from : (file : List ℕ) (k : ℕ) (out : Option Packet) → k < 2 ^ 16 → IfSome out (λ p. p ≡ data_packet file k) → IfSome out ReadsBack
reads_back_from file k None fits sends = tt
reads_back_from file k (Some p) fits sends = subst ReadsBack (sym sends) (data-reads_back file k fits)

-- whatever a sender within its bounds sends reads back
pub sends-reads_back : (s : Sender) (a : SendAnswer) → KeepsSender s a → IsSender s → IfSome a.out ReadsBack
sends-reads_back s a k fits = reads_back_from s.file a.sender.current a.out (current-fits a.sender (k.fits fits)) k.sends

-- ---- exactly what is sent

-- the current block was acknowledged: nothing is sent if it is the last, and otherwise the next one
goes_on_sends : (last : Bool) (s : Sender) → GoesOn s (sender_goes_on last s)
goes_on_sends true s = inl (refl, refl)
goes_on_sends false s = inr (refl, refl)

-- an ACK of another block makes it send nothing
acked_sends : (current : Bool) (s : Sender) → GoesOn s (sender_acked current s)
acked_sends true s = goes_on_sends (s.current == block_count s.file) s
acked_sends false s = inl (refl, refl)

ack_in_sends : (state : SendState) (n : ℕ) (s : Sender) → GoesOn s (sender_ack_in state n s)
ack_in_sends sending.Running n s = acked_sends (n == s.current) s
ack_in_sends sending.Finished n s = inl (refl, refl)
ack_in_sends sending.TimedOut n s = inl (refl, refl)

-- an ACK makes a sender send nothing or the next block, never the current one again
pub sender_ack-sends : (n : ℕ) (s : Sender) → GoesOn s (sender_ack n s)
sender_ack-sends n s = ack_in_sends s.state n s

-- the last time-out makes it send nothing, and each before it the current block
missed_sends : (last : Bool) (s : Sender) → SendsAgain s (sender_missed last s)
missed_sends true s = (refl, inl refl)
missed_sends false s = (refl, inr refl)

timeout_in_sends : (state : SendState) (s : Sender) → SendsAgain s (sender_timeout_in state s)
timeout_in_sends sending.Running s = missed_sends (s.misses + 1 == MISSES) s
timeout_in_sends sending.Finished s = (refl, inl refl)
timeout_in_sends sending.TimedOut s = (refl, inl refl)

-- a time-out makes a sender send nothing or the current block again
pub sender_timeout-sends : (s : Sender) → SendsAgain s (sender_timeout s)
sender_timeout-sends s = timeout_in_sends s.state s

-- ---- how it finishes

-- it was finished before, or this is the ACK of the last block
abbrev pub FinishesBy : (n : ℕ) → Sender → SendAnswer → Type 0
FinishesBy n s a =
    a.sender.state ≡ sending.Finished → (s.state ≡ sending.Finished) ⊎ ((n ≡ s.current) × (n ≡ block_count s.file))

-- it is finished once the last block is acknowledged
goes_on_finishes : (n : ℕ) (last : Bool) (s : Sender) → n ≡ s.current → (s.current == block_count s.file) ≡ last → FinishesBy n s (sender_goes_on last s)
goes_on_finishes n true s same is_last finished = inr (same, same ∙ eqb-true _ _ is_last)
goes_on_finishes n false s same is_last finished = absurd cc

-- an ACK of another block does not finish it
acked_finishes : (n : ℕ) (current : Bool) (s : Sender) → (n == s.current) ≡ current → FinishesBy n s (sender_acked current s)
acked_finishes n true s is_current = goes_on_finishes n (s.current == block_count s.file) s (eqb-true _ _ is_current) refl
acked_finishes n false s is_current = λ finished. inl finished

ack_in_finishes : (state : SendState) (n : ℕ) (s : Sender) → FinishesBy n s (sender_ack_in state n s)
ack_in_finishes sending.Running n s = acked_finishes n (n == s.current) s refl
ack_in_finishes sending.Finished n s = λ finished. inl finished
ack_in_finishes sending.TimedOut n s = λ finished. inl finished

-- a sender is newly finished only by the ACK of the last block
pub sender_ack-finishes : (n : ℕ) (s : Sender) → FinishesBy n s (sender_ack n s)
sender_ack-finishes n s = ack_in_finishes s.state n s

-- a time-out in which a sender gives up or sends again does not finish it
missed_finishes : (last : Bool) (s : Sender) → (sender_missed last s).sender.state ≡ sending.Finished → s.state ≡ sending.Finished
missed_finishes true s finished = absurd cc
missed_finishes false s finished = absurd cc

timeout_in_finishes : (state : SendState) (s : Sender) → (sender_timeout_in state s).sender.state ≡ sending.Finished → s.state ≡ sending.Finished
timeout_in_finishes sending.Running s = missed_finishes (s.misses + 1 == MISSES) s
timeout_in_finishes sending.Finished s = λ finished. finished
timeout_in_finishes sending.TimedOut s = λ finished. finished

-- no time-out finishes a sender
pub sender_timeout-finishes : (s : Sender) → (sender_timeout s).sender.state ≡ sending.Finished → s.state ≡ sending.Finished
sender_timeout-finishes s = timeout_in_finishes s.state s

-- ---- the receiver

-- what each step of a receiver keeps
pub record KeepsReceiver (r next : Receiver) (out : Option Packet) : Type 0 where
  pub onward : r.count ≤ next.count
  -- what it sends is the ACK of the last block received, or ACK 0
  pub sends : IfSome out (λ p. p ≡ ack next.count)
  pub fits : IsReceiver r → IsReceiver next

-- a receiver that does nothing
same_keeps : (r : Receiver) → KeepsReceiver r r None
same_keeps r = record { onward = omega arith; sends = tt; fits = λ h. h }

-- a block other than the next one
again_keeps : (last : Bool) (r : Receiver) → KeepsReceiver r (receiver_again last r).receiver (sent_of (receiver_again last r).result)
again_keeps true r = record { onward = omega arith; sends = refl; fits = λ h. h }
again_keeps false r = same_keeps r

-- the next block is not one too many
before_last : (n : ℕ) (body : List ℕ) → is_past n body ≡ false → length body ≡ BLOCK_SIZE → n ≡ MAX_BLOCKS → ⊥
before_last n body before full last = grind (arith, nat_tests)

-- the bounds after a block that was taken, by whether it is full
module _ (n : ℕ) (body : List ℕ) (r : Receiver) (h : IsReceiver r) (short : length body ≤ BLOCK_SIZE)
    (running : r.state ≡ receiving.Running) (is_next : n ≡ r.count + 1) (before : is_past n body ≡ false) where
  -- its length fits its count and its state
  taken_size : (full : Bool) → (length body == BLOCK_SIZE) ≡ full → (file : Option (List ℕ)) →
      IfSome file (HasReceivedSize r.state r.count) →
      IfSome (receiver_appends file body) (HasReceivedSize (state_after full) (r.count + 1))
  taken_size full is_full None size = tt
  taken_size true is_full (Some bytes) size =
      let old : length bytes ≡ BLOCK_SIZE * r.count = subst (λ s. HasReceivedSize s r.count bytes) running size in
      let whole : length body ≡ BLOCK_SIZE = eqb-true _ _ is_full in
      omega (arith, length-append bytes body)
  taken_size false is_full (Some bytes) size =
      let old : length bytes ≡ BLOCK_SIZE * r.count = subst (λ s. HasReceivedSize s r.count bytes) running size in
      let other : length body ≡ BLOCK_SIZE → ⊥ = eqb-false _ _ is_full in
      omega (arith, length-append bytes body)

  -- a file that is present grows, and stays present
  taken_held : (file : Option (List ℕ)) → IsSome file → IsSome (receiver_appends file body)
  taken_held None held = held
  taken_held (Some bytes) held = refl

  -- unless this block is short there is room for another
  taken_room : (full : Bool) → (length body == BLOCK_SIZE) ≡ full → state_after full ≡ receiving.Running → r.count + 1 < MAX_BLOCKS
  taken_room true is_full goes_on =
      let other : n ≡ MAX_BLOCKS → ⊥ = before_last n body before (eqb-true _ _ is_full) in
      omega (arith, h.room running)
  taken_room false is_full goes_on = absurd cc

  -- so the receiver is within its bounds
  taken_fits : IsReceiver (receiver_takes granted body r).receiver
  taken_fits =
      record {
        size = taken_size (length body == BLOCK_SIZE) refl r.file h.size;
        held = λ _. taken_held r.file (h.held running);
        room = taken_room (length body == BLOCK_SIZE) refl;
        within = omega (arith, h.room running);
        patient = omega arith;
        dally = λ _. omega arith;
      }

-- the next block, whether or not memory was granted
takes_keeps : (n : ℕ) (body : List ℕ) (r : Receiver) → length body ≤ BLOCK_SIZE → r.state ≡ receiving.Running → n ≡ r.count + 1 →
    is_past n body ≡ false → (verdict : Verdict) →
    KeepsReceiver r (receiver_takes verdict body r).receiver (sent_of (receiver_takes verdict body r).result)
takes_keeps n body r short running is_next before granted =
    record { onward = omega arith; sends = refl; fits = λ h. taken_fits n body r h short running is_next before }
takes_keeps n body r short running is_next before refused = same_keeps r

-- the next block, where it may be one too many
next_keeps : (n : ℕ) (body : List ℕ) (r : Receiver) → length body ≤ BLOCK_SIZE → r.state ≡ receiving.Running → n ≡ r.count + 1 →
    (past : Bool) → is_past n body ≡ past → (verdict : Verdict) →
    KeepsReceiver r (receiver_next past verdict body r).receiver (sent_of (receiver_next past verdict body r).result)
next_keeps n body r short running is_next true is verdict = same_keeps r
next_keeps n body r short running is_next false is verdict = takes_keeps n body r short running is_next is verdict

-- any block while the receiver is running
running_keeps : (n : ℕ) (body : List ℕ) (r : Receiver) → length body ≤ BLOCK_SIZE → r.state ≡ receiving.Running →
    (verdict : Verdict) (next : Bool) → (n == r.count + 1) ≡ next →
    KeepsReceiver r (receiver_running next verdict n body r).receiver (sent_of (receiver_running next verdict n body r).result)
running_keeps n body r short running verdict true is_next = next_keeps n body r short running (eqb-true _ _ is_next) (is_past n body) refl verdict
running_keeps n body r short running verdict false is_next = again_keeps (is_last_come n r) r

data_in_keeps : (state : RecvState) (n : ℕ) (body : List ℕ) (r : Receiver) → length body ≤ BLOCK_SIZE → r.state ≡ state →
    (verdict : Verdict) → KeepsReceiver r (receiver_data_in state verdict n body r).receiver
    (sent_of (receiver_data_in state verdict n body r).result)
data_in_keeps receiving.Running n body r short is verdict = running_keeps n body r short is verdict (n == r.count + 1) refl
data_in_keeps receiving.Complete n body r short is verdict = again_keeps (is_last_come n r) r
data_in_keeps receiving.TimedOut n body r short is verdict = same_keeps r
data_in_keeps receiving.Over n body r short is verdict = same_keeps r

-- a DATA whose body is no longer than a block keeps the receiver within its bounds
pub receiver_data-keeps : (verdict : Verdict) (n : ℕ) (body : List ℕ) (r : Receiver) → length body ≤ BLOCK_SIZE →
    KeepsReceiver r (receiver_data verdict n body r).receiver (sent_of (receiver_data verdict n body r).result)
receiver_data-keeps verdict n body r short = data_in_keeps r.state n body r short refl verdict

-- it no longer waits, in a state in which nothing more is received
stops_keeps : (state : RecvState) (r : Receiver) → state ≢ receiving.Running → state ≢ receiving.Complete →
    (IsReceiver r → IfSome r.file (HasReceivedSize state r.count)) →
    KeepsReceiver r (receiver_waits r.misses state None r).receiver None
stops_keeps state r idle done size =
    record {
      onward = omega arith;
      sends = tt;
      fits = λ h. record {
        size = size h;
        held = λ e. absurd (idle e);
        room = λ e. absurd (idle e);
        within = h.within;
        patient = h.patient;
        dally = λ e. absurd (done e);
      };
    }

-- it still waits, in its current state
waits_keeps : (state : RecvState) (out : Option Packet) (r : Receiver) → r.state ≡ state → IfSome out (λ p. p ≡ ack r.count) →
    (IsReceiver r → r.misses + 1 < MISSES) → (IsReceiver r → state ≡ receiving.Complete → r.misses + 1 < DALLY)
    → KeepsReceiver r (receiver_waits (r.misses + 1) state out r).receiver out
waits_keeps state out r is sends patient dally =
    record {
      onward = omega arith;
      sends = sends;
      fits = λ h. record {
        size = subst (λ s. IfSome r.file (HasReceivedSize s r.count)) is h.size;
        held = λ e. h.held (is ∙ e);
        room = λ e. h.room (is ∙ e);
        within = h.within;
        patient = patient h;
        dally = dally h;
      };
    }

-- a time-out while blocks are missing
missed_receiver : (last : Bool) (r : Receiver) → r.state ≡ receiving.Running → (r.misses + 1 == MISSES) ≡ last → KeepsReceiver r (receiver_missed last r).receiver (receiver_missed last r).out
missed_receiver true r running is_last =
    stops_keeps receiving.TimedOut r (λ e. cc) (λ e. cc) (λ h. subst (λ s. IfSome r.file (HasReceivedSize s r.count)) running h.size)
missed_receiver false r running is_last =
    let other : r.misses + 1 ≡ MISSES → ⊥ = eqb-false _ _ is_last in
    waits_keeps receiving.Running (Some (ack r.count)) r running refl (λ h. omega (arith, h.patient, other)) (λ h e. absurd cc)

-- a time-out while it dallies
dallied_receiver : (last : Bool) (r : Receiver) → r.state ≡ receiving.Complete → (r.misses + 1 == DALLY) ≡ last → KeepsReceiver r (receiver_dallied last r).receiver (receiver_dallied last r).out
dallied_receiver true r complete is_last =
    stops_keeps receiving.Over r (λ e. cc) (λ e. cc) (λ h. subst (λ s. IfSome r.file (HasReceivedSize s r.count)) complete h.size)
dallied_receiver false r complete is_last =
    let other : r.misses + 1 ≡ DALLY → ⊥ = eqb-false _ _ is_last in
    waits_keeps receiving.Complete None r complete tt (λ h. omega (arith, h.dally complete, other)) (λ h e. omega (arith, h.dally complete, other))

timeout_in_receiver : (state : RecvState) (r : Receiver) → r.state ≡ state → KeepsReceiver r (receiver_timeout_in state r).receiver (receiver_timeout_in state r).out
timeout_in_receiver receiving.Running r is = missed_receiver (r.misses + 1 == MISSES) r is refl
timeout_in_receiver receiving.Complete r is = dallied_receiver (r.misses + 1 == DALLY) r is refl
timeout_in_receiver receiving.TimedOut r is = same_keeps r
timeout_in_receiver receiving.Over r is = same_keeps r

-- a time-out keeps the receiver within its bounds
pub receiver_timeout-keeps : (r : Receiver) → KeepsReceiver r (receiver_timeout r).receiver (receiver_timeout r).out
receiver_timeout-keeps r = timeout_in_receiver r.state r refl

-- the file is handed out by a receiver that no longer runs
gives_keeps : (r : Receiver) → (r.state ≡ receiving.Running → ⊥) → KeepsReceiver r (receiver_gives r).receiver None
gives_keeps r ended =
    record {
      onward = omega arith;
      sends = tt;
      fits = λ h. record {
        size = tt;
        held = λ e. absurd (ended e);
        room = λ e. absurd (ended e);
        within = h.within;
        patient = h.patient;
        dally = h.dally;
      };
    }

take_in_keeps : (state : RecvState) (r : Receiver) → r.state ≡ state → KeepsReceiver r (receiver_take_in state r).receiver None
take_in_keeps receiving.Running r is = same_keeps r
take_in_keeps receiving.Complete r is = gives_keeps r (λ e. cc)
take_in_keeps receiving.TimedOut r is = same_keeps r
take_in_keeps receiving.Over r is = gives_keeps r (λ e. cc)

-- a request for its file keeps the receiver within its bounds
pub receiver_take-keeps : (r : Receiver) → KeepsReceiver r (receiver_take r).receiver None
receiver_take-keeps r = take_in_keeps r.state r refl

-- a new receiver is within its bounds
pub IsReceiver-start : IsReceiver receiver_start
IsReceiver-start =
    record { size = refl; held = λ _. refl; room = λ _. omega arith; within = omega arith; patient = omega arith; dally = λ e. absurd cc }

-- an ACK, which is all that a receiver within its bounds sends, reads back
acks_back_from : (n : ℕ) (out : Option Packet) → n < 2 ^ 16 → IfSome out (λ p. p ≡ ack n) → IfSome out ReadsBack
acks_back_from n None fits sends = tt
acks_back_from n (Some p) fits sends = subst ReadsBack (sym sends) (ack-reads_back n fits)

-- whatever a receiver within its bounds sends reads back
pub acks-reads_back : (r next : Receiver) (out : Option Packet) → KeepsReceiver r next out → IsReceiver r → IfSome out ReadsBack
acks-reads_back r next out k fits =
    let after = k.fits fits in
    acks_back_from next.count out (omega (arith, after.within)) k.sends
