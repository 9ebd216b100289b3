-- What an answer of the server does to its transfers, and which ERRORs it sends: for requests, for datagrams at a port and for
-- time-outs.
use Rattle.std.proofs.Common.{◌≡◌, ◌⊎◌, ℕ, ◌≤◌, Bool, true, false, ◌==◌, cond, nat_cmp, nat_lt, List, length, drop, Option, None, Some, IfSome, Result, Ok, Err, refl, ap, sym, ◌∙◌, subst, inl, inr}
use Rattle.tftp_packet.specs.declared.endpoint.Endpoint.{Endpoint}
use Rattle.tftp_packet.specs.declared.out.Out.{Out}
use Rattle.tftp_packet.specs.declared.packet_fault.PacketFault.{PacketFault}
use Rattle.tftp_packet.specs.declared.refusal.Refusal.{Refusal}
use Rattle.tftp_packet.specs.declared.refusal.Refusal.TheVariants.{OctetOnly, NoSuchFile, ServerBusy, CollectionTooLong, OutOfMemory, UnknownTransfer, NotKept}
use Rattle.tftp_packet.specs.declared.sizes.TheConstants.{MAX_DATAGRAM, BLOCK_SIZE}
use Rattle.tftp_packet.specs.Packet.{Packet, read, write, data_block, ack, error, is_octet, encode, data_bytes, ack_bytes}
use Rattle.tftp_packet.specs.declared.packet_fault.PacketFault.TheVariants.{Short, TooLong, BadBlock}
use Rattle.byteorder.specs.Endian.{big_number}
use Rattle.tftp_packet.specs.Refusal.{refusal_packet}
use Rattle.tftp_packet.specs.Decode.{decode_bytes}
use Rattle.tftp_packet.proofs.Sent.{data_size, sent_refusal}
use Rattle.tftp_ends.specs.declared.send_state.SendState.{SendState}
use Rattle.tftp_ends.specs.declared.send_state.SendState.TheVariants as send
use Rattle.tftp_ends.specs.declared.recv_state.RecvState.{RecvState}
use Rattle.tftp_ends.specs.declared.recv_state.RecvState.TheVariants as recv
use Rattle.tftp_ends.specs.declared.recv_fault.RecvFault.{RecvFault}
use Rattle.tftp_ends.specs.Input.{input_from_peer, input_from_other, input_of_packet}
use Rattle.tftp_ends.specs.Ends.{Verdict, granted, refused, dgram_of, answer_of, sent_of, Sender, SendAnswer, sender_ack, sender_timeout, sender_start, data_packet, Receiver, RecvAnswer, DataAnswer, receiver_start, receiver_data, receiver_data_in, receiver_again, is_last_come, receiver_take, receiver_take_in, receiver_timeout, refusal_of, IsEnded}
use Rattle.tftp_ends.proofs.Steps.{sender_ack-keeps, sender_timeout-keeps, receiver_data-keeps, receiver_timeout-keeps}
use Rattle.tws_file.specs.declared.«ruleset».Ruleset.{Ruleset}
use Rattle.tws_file.specs.Names.{ruleset_named}
use Rattle.tws_best.specs.Best.{Collected, collection_text}
use Rattle.archive_table.specs.Table.{Table, Maps, Grant, all, no_memory, unkept, memory_verdict, End, Transfer, sending, receiving, TableAnswer, at_port, transfer_at, table_stays, replies, out_from, refusal_dgram, sends_from, opens_if, refuses, goes_on, closes, takes, map_of, has_slot, has_long_text, read_fits, read_with_slot, read_named, read_asked, write_with_slot, write_asked, request_by_packet, request_decoded, table_request, is_same, transfer_input_decoded, file_come, file_asked, block_answered, data_at, ack_at, sending_goes_on, receiving_goes_on, transfer_by_input, datagram_at, table_datagram, waits_at, timeout_at, table_timeout}
use Rattle.archive_theorem.proofs.Keyed.{NewOrOld, IsApart, lookup-set, lookup-remove, lookup-removed, lookup-insert_entry}
use Rattle.archive_theorem.proofs.Claim_Invariant.{exact_port}

-- ---- what is no ERROR that ends a transfer

-- the bytes are no ERROR, or that of an unknown transfer
abbrev pub IsHarmless : List ℕ → Type 0
IsHarmless bytes = (code : ℕ) (text : List ℕ) → decode_bytes bytes ≡ Ok (error code text) → code ≡ 5

-- by the length of what follows the opcode
data_harmless : (short long cut : Bool) (n : ℕ) (body : List ℕ) (code : ℕ) (text : List ℕ) →
    cond short (Err Short) (cond long (Err TooLong) (cond cut (Err BadBlock) (Ok (data_block n body)))) ≡ Ok (error code text) → code ≡ 5
data_harmless true long cut n body code text is = absurd cc
data_harmless false true cut n body code text is = absurd cc
data_harmless false false true n body code text is = absurd cc
data_harmless false false false n body code text is = absurd cc

ack_harmless : (short long whole : Bool) (n : ℕ) (code : ℕ) (text : List ℕ) →
    cond short (Err Short) (cond long (Err TooLong) (cond whole (Ok (ack n)) (Err BadBlock))) ≡ Ok (error code text) → code ≡ 5
ack_harmless true long whole n code text is = absurd cc
ack_harmless false true whole n code text is = absurd cc
ack_harmless false false true n code text is = absurd cc
ack_harmless false false false n code text is = absurd cc

pub data-harmless : (n : ℕ) (body : List ℕ) → IsHarmless (encode (data_block n body))
unfolding decode_bytes encode
data-harmless n body code text is =
    let bytes : List ℕ = data_bytes n body in
    let rest : List ℕ = drop 2 bytes in
    data_harmless (nat_lt (length bytes) 2) (nat_lt MAX_DATAGRAM (length bytes)) (nat_lt (length rest) 2) (big_number 2 rest) (drop 2 rest) code text is

pub ack-harmless : (n : ℕ) → IsHarmless (encode (ack n))
unfolding decode_bytes encode
ack-harmless n code text is =
    let bytes : List ℕ = ack_bytes n in
    let rest : List ℕ = drop 2 bytes in
    ack_harmless (nat_lt (length bytes) 2) (nat_lt MAX_DATAGRAM (length bytes)) (length rest == 2) (big_number 2 rest) code text is

pub unknown-harmless : IsHarmless (refusal_dgram UnknownTransfer)
unknown-harmless code text is =
    let both : Ok (refusal_packet UnknownTransfer) ≡ Ok (error code text) = sym (sent_refusal UnknownTransfer) ∙ is in
    cc

-- what a sender sends, and what a receiver sends
data_out : (file : List ℕ) (n : ℕ) (out : Option Packet) → IfSome out (λ p. p ≡ data_packet file n) → IfSome (dgram_of out) IsHarmless
data_out file n None sends = tt
data_out file n (Some p) sends = subst (λ (x : Packet). IsHarmless (encode x)) (sym sends) (data-harmless n _)

ack_out : (n : ℕ) (out : Option Packet) → IfSome out (λ p. p ≡ ack n) → IfSome (dgram_of out) IsHarmless
ack_out n None sends = tt
ack_out n (Some p) sends = subst (λ (x : Packet). IsHarmless (encode x)) (sym sends) (ack-harmless n)

-- ---- a receiver

-- a repeated block changes nothing, and is no fault
again_same : (last : Bool) (r : Receiver) → (receiver_again last r).receiver ≡ r
again_same true r = refl
again_same false r = refl

again_ok : {P : Type 0} (last : Bool) (r : Receiver) (e : RecvFault) → (receiver_again last r).result ≡ Err e → P
again_ok true r e fails = absurd cc
again_ok false r e fails = absurd cc

-- ---- an answer at a port

-- a transfer has this peer at a port
pub record IsWith (s : Table) (port : ℕ) (peer : Endpoint) : Type 0 where
  pub transfer : Transfer
  pub is : transfer_at port s ≡ Some transfer
  pub same : transfer.peer ≡ peer

-- a receiver that waits for blocks, or has a whole file that was not taken
abbrev pub HasUntaken : End → Type 0
HasUntaken (sending e) = ⊥
HasUntaken (receiving r) = (r.state ≡ recv.Running) ⊎ (IsEnded r.state × ((file : List ℕ) × (r.file ≡ Some file)))

handed_by : (state : RecvState) (r : Receiver) → r.state ≡ state → (file : List ℕ) → (receiver_take_in state r).file ≡ Some file → HasUntaken (receiving r)
handed_by recv.Running r is file given = absurd cc
handed_by recv.Complete r is file given = inr (subst IsEnded (sym is) tt, (file, given))
handed_by recv.TimedOut r is file given = absurd cc
handed_by recv.Over r is file given = inr (subst IsEnded (sym is) tt, (file, given))

handed_same : (r : Receiver) (state : RecvState) → r.state ≡ state → (file : List ℕ) → (receiver_take r).file ≡ Some file → HasUntaken (receiving r)
handed_same r state is file given = handed_by r.state r refl file given

-- the transfer at the port ends, which had taken no file, and its peer is told
pub record Closes (port : ℕ) (s : Table) (a : TableAnswer) (o : Out) : Type 0 where
  pub transfer : Transfer
  pub is : transfer_at port s ≡ Some transfer
  pub to : o.to ≡ transfer.peer
  pub from : o.from_port ≡ port
  pub untaken : HasUntaken transfer.end
  pub gone : transfer_at port a.server ≡ None
  pub none : a.step.taken ≡ None

-- what an answer at a port does: no transfer is new, and what is sent is no such ERROR, or says that this transfer ends;
-- a file that is taken is from its peer
pub record AnswersAt (port : ℕ) (s : Table) (a : TableAnswer) : Type 0 where
  pub stays : (q : ℕ) (u : Transfer) → transfer_at q a.server ≡ Some u → IsWith s q u.peer
  pub sends : IfSome a.step.out (λ o. IsHarmless o.dgram ⊎ Closes port s a o)
  pub takes : IfSome a.step.taken (λ t. IsWith s port t.peer)

module _ (s : Table) (apart : IsApart at_port exact_port s.live) where
  kept : (q : ℕ) (u : Transfer) → transfer_at q s ≡ Some u → IsWith s q u.peer
  kept q u is = record { transfer = u; is = is; same = refl }

  stays_at : (port : ℕ) → AnswersAt port s (table_stays s)
  stays_at port = record { stays = kept; sends = tt; takes = tt }

  replies_at : (port : ℕ) (from : Endpoint) → AnswersAt port s (replies (out_from port from (refusal_packet UnknownTransfer)) s)
  replies_at port from = record { stays = kept; sends = inl unknown-harmless; takes = tt }

  module _ (port : ℕ) (t : Transfer) (is : transfer_at port s ≡ Some t) where
    with_peer : IsWith s port t.peer
    with_peer = record { transfer = t; is = is; same = refl }

    -- what is sent from the port is harmless
    harmless_from : (a : TableAnswer) (out : Option (List ℕ)) → IfSome out IsHarmless →
        IfSome (sends_from port t.peer out) (λ o. IsHarmless o.dgram ⊎ Closes port s a o)
    harmless_from a None sends = tt
    harmless_from a (Some dgram) sends = inl sends

    written : (u : Transfer) → u.peer ≡ t.peer → (q : ℕ) (v : Transfer) → NewOrOld at_port exact_port s.live port u q v → IsWith s q v.peer
    written u same q v (inr old) = kept q v old
    written u same q v (inl new) =
        record { transfer = t; is = ap (λ (p : ℕ). transfer_at p s) new.0 ∙ is; same = sym same ∙ ap (λ (x : Transfer). x.peer) (sym new.1) }

    goes_on_at : (end : End) (out : Option (List ℕ)) → IfSome out IsHarmless → AnswersAt port s (goes_on port t.peer end out s)
    goes_on_at end out sends =
        let next : Transfer = record { peer = t.peer; end = end } in
        record {
          stays = λ q u e. written next refl q u (lookup-set at_port exact_port s.live port next q u e);
          sends = harmless_from (goes_on port t.peer end out s) out sends;
          takes = tt;
        }

    closed_stays : (out : Option (List ℕ)) (q : ℕ) (u : Transfer) → transfer_at q (closes port t.peer out s).server ≡ Some u → IsWith s q u.peer
    closed_stays out q u e = kept q u (lookup-remove at_port exact_port s.live port q u apart e)

    closes_at : (out : Option (List ℕ)) → IfSome out IsHarmless → AnswersAt port s (closes port t.peer out s)
    closes_at out sends =
        record { stays = closed_stays out; sends = harmless_from (closes port t.peer out s) out sends; takes = tt }

    refuses_at : (why : Refusal) → HasUntaken t.end → AnswersAt port s (closes port t.peer (Some (refusal_dgram why)) s)
    refuses_at why untaken =
        record {
          stays = closed_stays (Some (refusal_dgram why));
          sends = inr
              (record {
                transfer = t;
                is = is;
                to = refl;
                from = refl;
                untaken = untaken;
                gone = lookup-removed at_port exact_port s.live port apart;
                none = refl;
              });
          takes = tt;
        }

    takes_at : (maps : Maps) (file : List ℕ) (r : Receiver) (out : Option (List ℕ)) → IfSome out IsHarmless →
        AnswersAt port s (takes maps port t.peer file r out s)
    takes_at maps file r out sends =
        let next : Transfer = record { peer = t.peer; end = receiving r } in
        record {
          stays = λ q u e. written next refl q u (lookup-set at_port exact_port s.live port next q u e);
          sends = harmless_from (takes maps port t.peer file r out s) out sends;
          takes = with_peer;
        }

    -- ---- a sender

    sender_at : (state : SendState) (e : Sender) (a : SendAnswer) → IfSome a.out (λ p. p ≡ data_packet e.file a.sender.current) →
        AnswersAt port s (sending_goes_on state port t.peer a s)
    sender_at send.Running e a sends = goes_on_at (sending a.sender) (dgram_of a.out) (data_out e.file a.sender.current a.out sends)
    sender_at send.Finished e a sends = closes_at (dgram_of a.out) (data_out e.file a.sender.current a.out sends)
    sender_at send.TimedOut e a sends = closes_at (dgram_of a.out) (data_out e.file a.sender.current a.out sends)

    -- ---- a receiver

    -- a file is handed out by one that was running, or that still had it
    handed_in : (state : RecvState) (verdict : Verdict) (n : ℕ) (body : List ℕ) (r : Receiver) → r.state ≡ state → (file : List ℕ) →
        (receiver_take (receiver_data_in state verdict n body r).receiver).file ≡ Some file → HasUntaken (receiving r)
    handed_in recv.Running verdict n body r is file given = inl is
    handed_in recv.Complete verdict n body r is file given =
        let same = again_same (is_last_come n r) r in
        handed_same r recv.Complete is file (subst (λ (x : Receiver). (receiver_take x).file ≡ Some file) same given)
    handed_in recv.TimedOut verdict n body r is file given = handed_same r recv.TimedOut is file given
    handed_in recv.Over verdict n body r is file given = handed_same r recv.Over is file given

    -- a fault comes only while blocks are missing
    fault_in : (state : RecvState) (verdict : Verdict) (n : ℕ) (body : List ℕ) (r : Receiver) (e : RecvFault) → r.state ≡ state →
        (receiver_data_in state verdict n body r).result ≡ Err e → r.state ≡ recv.Running
    fault_in recv.Running verdict n body r e is fails = is
    fault_in recv.Complete verdict n body r e is fails = again_ok (is_last_come n r) r e fails
    fault_in recv.TimedOut verdict n body r e is fails = absurd cc
    fault_in recv.Over verdict n body r e is fails = absurd cc

    module _ (grant : Grant) (maps : Maps) (n : ℕ) (body : List ℕ) (short : length body ≤ BLOCK_SIZE) (r : Receiver) (end : t.end ≡ receiving r) where
      abbrev came : DataAnswer
      came = receiver_data (memory_verdict grant) n body r

      untaken_by : HasUntaken (receiving r) → HasUntaken t.end
      untaken_by has = subst HasUntaken (sym end) has

      come_at : (g : Grant) (file : List ℕ) (next : Receiver) (out : Option (List ℕ)) → IfSome out IsHarmless → HasUntaken (receiving r) →
          AnswersAt port s (file_come g maps port t.peer file next out s)
      come_at all file next out sends untaken = takes_at maps file next out sends
      come_at no_memory file next out sends untaken = refuses_at OutOfMemory (untaken_by untaken)
      come_at unkept file next out sends untaken = refuses_at NotKept (untaken_by untaken)

      file_at : (found : Option (List ℕ)) → (receiver_take came.receiver).file ≡ found → (out : Option (List ℕ)) → IfSome out IsHarmless →
          AnswersAt port s (file_asked found grant maps port t.peer (receiver_take came.receiver).receiver out s)
      file_at (Some file) given out sends =
          come_at grant file (receiver_take came.receiver).receiver out sends (handed_in r.state (memory_verdict grant) n body r refl file given)
      file_at None given out sends = goes_on_at (receiving (receiver_take came.receiver).receiver) out sends

      block_at : (result : Result (Option Packet) RecvFault) → came.result ≡ result →
          AnswersAt port s (block_answered (answer_of result) grant maps port t.peer came.receiver s)
      block_at (Ok out) is_result =
          let k = receiver_data-keeps (memory_verdict grant) n body r short in
          let sends = subst (λ (x : Result (Option Packet) RecvFault). IfSome (sent_of x) (λ p. p ≡ ack came.receiver.count)) is_result k.sends in
          file_at (receiver_take came.receiver).file refl (dgram_of out) (ack_out came.receiver.count out sends)
      block_at (Err e) is_result = refuses_at (refusal_of e) (untaken_by (inl (fault_in r.state (memory_verdict grant) n body r e refl is_result)))

    data_answers : (grant : Grant) (maps : Maps) (n : ℕ) (body : List ℕ) → length body ≤ BLOCK_SIZE → (end : End) → t.end ≡ end →
        AnswersAt port s (data_at end grant maps port t.peer n body s)
    data_answers grant maps n body short (sending e) end = stays_at port
    data_answers grant maps n body short (receiving r) end =
        block_at grant maps n body short r end (receiver_data (memory_verdict grant) n body r).result refl

    ack_answers : (n : ℕ) (end : End) → AnswersAt port s (ack_at end port t.peer n s)
    ack_answers n (sending e) = sender_at (sender_ack n e).sender.state e (sender_ack n e) (sender_ack-keeps n e).sends
    ack_answers n (receiving r) = stays_at port

    -- ---- a time-out

    receiver_at : (state : RecvState) (a : RecvAnswer) → IfSome a.out (λ p. p ≡ ack a.receiver.count) →
        AnswersAt port s (receiving_goes_on state port t.peer a s)
    receiver_at recv.Running a sends = goes_on_at (receiving a.receiver) (dgram_of a.out) (ack_out a.receiver.count a.out sends)
    receiver_at recv.Complete a sends = goes_on_at (receiving a.receiver) (dgram_of a.out) (ack_out a.receiver.count a.out sends)
    receiver_at recv.TimedOut a sends = closes_at (dgram_of a.out) (ack_out a.receiver.count a.out sends)
    receiver_at recv.Over a sends = closes_at (dgram_of a.out) (ack_out a.receiver.count a.out sends)

    waits_answers : (end : End) → AnswersAt port s (waits_at end port t.peer s)
    waits_answers (sending e) = sender_at (sender_timeout e).sender.state e (sender_timeout e) (sender_timeout-keeps e).sends
    waits_answers (receiving r) = receiver_at (receiver_timeout r).receiver.state (receiver_timeout r) (receiver_timeout-keeps r).sends

    -- ---- a datagram

    module _ (grant : Grant) (maps : Maps) (from : Endpoint) (bytes : List ℕ) where
      peer_at : (p : Packet) → decode_bytes bytes ≡ Ok p → AnswersAt port s (transfer_by_input (input_from_peer p) grant maps port from t s)
      peer_at (read name mode) reads = stays_at port
      peer_at (write name mode) reads = stays_at port
      peer_at (data_block n body) reads = data_answers grant maps n body (data_size bytes n body reads) t.end refl
      peer_at (ack n) reads = ack_answers n t.end
      peer_at (error code text) reads = closes_at None tt

      other_at : (p : Packet) → AnswersAt port s (transfer_by_input (input_from_other p) grant maps port from t s)
      other_at (read name mode) = replies_at port from
      other_at (write name mode) = replies_at port from
      other_at (data_block n body) = replies_at port from
      other_at (ack n) = replies_at port from
      other_at (error code text) = stays_at port

      packet_at : (p : Packet) → decode_bytes bytes ≡ Ok p → (same : Bool) →
          AnswersAt port s (transfer_by_input (input_of_packet same p) grant maps port from t s)
      packet_at p reads true = peer_at p reads
      packet_at p reads false = other_at p

      decoded_at : (answer : Result Packet PacketFault) → decode_bytes bytes ≡ answer →
          AnswersAt port s (transfer_by_input (transfer_input_decoded t.peer from answer) grant maps port from t s)
      decoded_at (Ok p) reads = packet_at p reads (is_same from t.peer)
      decoded_at (Err e) reads = stays_at port

  found_at : (found : Option Transfer) (port : ℕ) → transfer_at port s ≡ found → (grant : Grant) (maps : Maps) (from : Endpoint) (bytes : List ℕ) →
      AnswersAt port s (datagram_at found grant maps port from bytes s)
  found_at None port is grant maps from bytes = stays_at port
  found_at (Some t) port is grant maps from bytes = decoded_at port t is grant maps from bytes (decode_bytes bytes) refl

  -- a datagram at a port
  pub datagram-answers : (grant : Grant) (maps : Maps) (port : ℕ) (from : Endpoint) (bytes : List ℕ) →
      AnswersAt port s (table_datagram grant maps port from bytes s)
  datagram-answers grant maps port from bytes = found_at (transfer_at port s) port refl grant maps from bytes

  waits_found : (found : Option Transfer) (port : ℕ) → transfer_at port s ≡ found → AnswersAt port s (timeout_at found port s)
  waits_found None port is = stays_at port
  waits_found (Some t) port is = waits_answers port t is t.end

  -- a time-out of a port
  pub timeout-answers : (port : ℕ) → AnswersAt port s (table_timeout port s)
  timeout-answers port = waits_found (transfer_at port s) port refl

-- ---- an answer to a request

-- a transfer was there before, or was opened at the spare port; what is sent is no such ERROR, or from the request port
pub record AnswersRequest (spare : ℕ) (from : Endpoint) (s : Table) (a : TableAnswer) : Type 0 where
  pub stays : (q : ℕ) (u : Transfer) → transfer_at q a.server ≡ Some u → IsWith s q u.peer ⊎ ((q ≡ spare) × (u.peer ≡ from) × (a.step.opened ≡ true))
  pub sends : IfSome a.step.out (λ o. IsHarmless o.dgram ⊎ (o.from_port ≡ s.request))

module _ (spare : ℕ) (from : Endpoint) (s : Table) where
  ignored : AnswersRequest spare from s (table_stays s)
  ignored = record { stays = λ q u is. inl (record { transfer = u; is = is; same = refl }); sends = tt }

  refuses_request : (why : Refusal) → AnswersRequest spare from s (refuses why from s)
  refuses_request why = record { stays = λ q u is. inl (record { transfer = u; is = is; same = refl }); sends = inr refl }

  new_or_old : (end : End) (q : ℕ) (u : Transfer) → NewOrOld at_port exact_port s.live spare (record { peer = from; end = end }) q u →
      IsWith s q u.peer ⊎ ((q ≡ spare) × (u.peer ≡ from) × (true ≡ true))
  new_or_old end q u (inr old) = inl (record { transfer = u; is = old; same = refl })
  new_or_old end q u (inl new) = inr (new.0, ap (λ (x : Transfer). x.peer) new.1, refl)

  opens_request : (verdict : Verdict) (end : End) (first : List ℕ) → IsHarmless first → AnswersRequest spare from s (opens_if verdict spare from end first s)
  opens_request granted end first harmless =
      record {
        stays = λ q u is. new_or_old end q u (lookup-insert_entry nat_cmp exact_port s.live spare (record { peer = from; end = end }) q u is);
        sends = inl harmless;
      }
  opens_request refused end first harmless = refuses_request OutOfMemory

  read_fits_request : (long : Bool) (verdict : Verdict) (c : Collected) → AnswersRequest spare from s (read_fits long verdict spare from c s)
  read_fits_request true verdict c = refuses_request CollectionTooLong
  read_fits_request false verdict c = opens_request verdict (sending (sender_start (collection_text c))) _ (data-harmless 1 _)

  read_slot_request : (slot : Bool) (verdict : Verdict) (c : Collected) → AnswersRequest spare from s (read_with_slot slot verdict spare from c s)
  read_slot_request true verdict c = read_fits_request (has_long_text c) verdict c
  read_slot_request false verdict c = refuses_request ServerBusy

  read_named_request : (name : Option Ruleset) (verdict : Verdict) → AnswersRequest spare from s (read_named name verdict spare from s)
  read_named_request (Some rules) verdict = read_slot_request (has_slot s) verdict (map_of rules s.maps)
  read_named_request None verdict = refuses_request NoSuchFile

  read_request : (octet : Bool) (verdict : Verdict) (name : List ℕ) → AnswersRequest spare from s (read_asked octet verdict spare from name s)
  read_request true verdict name = read_named_request (ruleset_named name) verdict
  read_request false verdict name = refuses_request OctetOnly

  write_slot_request : (slot : Bool) (verdict : Verdict) → AnswersRequest spare from s (write_with_slot slot verdict spare from s)
  write_slot_request true verdict = opens_request verdict (receiving receiver_start) (encode (ack 0)) (ack-harmless 0)
  write_slot_request false verdict = refuses_request ServerBusy

  write_request : (octet : Bool) (verdict : Verdict) → AnswersRequest spare from s (write_asked octet verdict spare from s)
  write_request true verdict = write_slot_request (has_slot s) verdict
  write_request false verdict = refuses_request OctetOnly

  packet_request : (verdict : Verdict) (p : Packet) → AnswersRequest spare from s (request_by_packet verdict spare from p s)
  packet_request verdict (read name mode) = read_request (is_octet mode) verdict name
  packet_request verdict (write name mode) = write_request (is_octet mode) verdict
  packet_request verdict (data_block n body) = ignored
  packet_request verdict (ack n) = ignored
  packet_request verdict (error code text) = ignored

  decoded_request : (verdict : Verdict) (answer : Result Packet PacketFault) → AnswersRequest spare from s (request_decoded verdict spare from answer s)
  decoded_request verdict (Ok p) = packet_request verdict p
  decoded_request verdict (Err e) = ignored

  -- a request
  pub request-answers : (verdict : Verdict) (bytes : List ℕ) → AnswersRequest spare from s (table_request verdict spare from bytes s)
  request-answers verdict bytes = decoded_request verdict (decode_bytes bytes)
