-- What the ends of a put do when its datagrams come in turn.
use Rattle.std.proofs.Common.{◌≡◌, ◌≢◌, ℕ, ◌+◌, ◌≤◌, ◌<◌, ◌^◌, Bool, true, false, ◌==◌, ◌&&◌, List, ◌++◌, length, Option, None, Some, Result, Ok, refl, ap, ◌∙◌, arith}
use Rattle.std.proofs.lemmas.Bool.{eq-eqb, ne_eqb}
use Rattle.tftp_packet.specs.declared.endpoint.Endpoint.{Endpoint}
use Rattle.tftp_packet.specs.declared.packet_fault.PacketFault.{PacketFault}
use Rattle.tftp_packet.specs.declared.sizes.TheConstants.{BLOCK_SIZE}
use Rattle.tftp_packet.specs.Packet.{Packet, ack, encode}
use Rattle.tftp_packet.specs.Blocks.{block_count, block_of, first_blocks}
use Rattle.tftp_packet.proofs.Cutting.{first_blocks-more, block_before, last_block, file_end, numbered}
use Rattle.tftp_ends.specs.declared.limits.TheConstants.{MAX_BLOCKS, MAX_FILE}
use Rattle.tftp_ends.specs.declared.send_state.SendState.TheVariants as send
use Rattle.tftp_ends.specs.declared.recv_state.RecvState.TheVariants as recv
use Rattle.tftp_ends.specs.Ends.{granted, sender_answer, data_packet, sender_goes_on, sender_acked, Receiver, receiver_start, state_after, is_past, receiver_next, receiver_running}
use Rattle.tftp_ends.specs.Input.{Input, acked, block, input_of_packet}
use Rattle.tftp_ends.proofs.Steps.{data-reads_back, ack-reads_back}
use Rattle.archive_table.specs.Table.{Table, Maps, Taken, all, Transfer, receiving, at_port, transfer_at, with_live, goes_on, takes, opens, is_same, block_received, block_answered, transfer_by_input, datagram_at, table_datagram, has_slot, write_with_slot, write_asked, request_decoded, table_request, IsMerged}
use Rattle.archive_table.specs.Table as table
use Rattle.archive_client.specs.Client.{put, sending, asking, Client, operation_request, client_start, put_sent, put_answered, client_by_input, client_datagram}
use Rattle.archive_client.specs.Client as client
use Rattle.archive_model.proofs.Endpoints.{same_endpoint}
use Rattle.archive_theorem.proofs.Client_Answers.{request_fields}

-- ---- the ends

module _ (home : Endpoint) (file : List ℕ) (short : length file ≤ MAX_FILE) (e : Endpoint) (p : ℕ) (m : Maps) where
  -- the server's receiver after n blocks, and after the last one, whose file it has handed out
  abbrev pub blocks_in : (n : ℕ) → Receiver
  blocks_in n = record { count = n; file = Some (first_blocks file n); misses = 0; state = recv.Running }

  abbrev pub all_in : (n : ℕ) → Receiver
  all_in n = record { count = n; file = None; misses = 0; state = recv.Complete }

  -- the server's transfer after n blocks
  abbrev pub receives : (n : ℕ) → Transfer
  receives n = record { peer = e; end = receiving (blocks_in n) }

  -- the client that has sent block n
  abbrev pub block_out : (n : ℕ) → Client
  block_out n =
      record { port = e.port; server = home; phase = sending p (record { file = file; current = n; misses = 0; state = send.Running }) }

  -- the blocks' numbers fit in two bytes
  few_blocks : block_count file < 65536
  few_blocks = numbered file short

  and_false : (b : Bool) → b && false ≡ false
  and_false true = refl
  and_false false = refl

  -- ---- a block arrives at the server

  module _ (s : Table) (n : ℕ) (found : transfer_at p s ≡ Some (receives n)) (within : n + 1 ≤ block_count file) where
    abbrev body : List ℕ
    body = block_of file (n + 1)

    small : n + 1 < 2 ^ 16
    small = let few = few_blocks in omega (arith, few, within)

    -- to the transfer the datagram means this block
    received_block : table.transfer_input e e (encode (data_packet file (n + 1))) ≡ block (n + 1) body
    received_block =
        ap (λ (x : Result Packet PacketFault). table.transfer_input_decoded e e x) (data-reads_back file (n + 1) small).decoded
        ∙ ap (λ (b : Bool). input_of_packet b (data_packet file (n + 1))) (same_endpoint e)

    -- it is the next one
    next_comes : table_datagram all m p e (encode (data_packet file (n + 1))) s ≡ block_received
        (receiver_next (is_past (n + 1) body) granted body (blocks_in n)) all m p e s
    next_comes =
        ap (λ (o : Option Transfer). datagram_at o all m p e (encode (data_packet file (n + 1))) s) found
        ∙ ap (λ (x : Input). transfer_by_input x all m p e (receives n) s) received_block
        ∙ ap (λ (b : Bool). block_received (receiver_running b granted (n + 1) body (blocks_in n)) all m p e s) (eq-eqb (n + 1) (n + 1) refl)

    -- it is taken and acknowledged
    takes_block : is_past (n + 1) body ≡ false → (full : Bool) → (length body == BLOCK_SIZE) ≡ full →
        table_datagram all m p e (encode (data_packet file (n + 1))) s ≡ block_answered (Ok (Some (encode (ack (n + 1))))) all m p e
        (record { count = n + 1; file = Some (first_blocks file (n + 1)); misses = 0; state = state_after full }) s
    takes_block not_past full is =
        next_comes
        ∙ ap (λ (b : Bool). block_received (receiver_next b granted body (blocks_in n)) all m p e s) not_past
        ∙ ap (λ (b : Bool). block_answered (Ok (Some (encode (ack (n + 1))))) all m p e
        (record { count = n + 1; file = Some (first_blocks file n ++ body); misses = 0; state = state_after b }) s) is
        ∙ ap (λ (f : List ℕ). block_answered (Ok (Some (encode (ack (n + 1))))) all m p e
        (record { count = n + 1; file = Some f; misses = 0; state = state_after full }) s) (first_blocks-more file n)

    -- it is not the last: the transfer goes on
    pub block-taken : n + 1 < block_count file →
        table_datagram all m p e (encode (data_packet file (n + 1))) s ≡ goes_on p e (receiving (blocks_in (n + 1))) (Some (encode (ack (n + 1)))) s
    block-taken more =
        let few = few_blocks in
        let full = eq-eqb (length body) BLOCK_SIZE (block_before file (n + 1) (omega arith) more) in
        let below : n + 1 ≢ MAX_BLOCKS = λ is. omega (arith, is, few, more) in
        takes_block (ap (λ (b : Bool). b && (length body == BLOCK_SIZE)) (ne_eqb (n + 1) MAX_BLOCKS below)) true full

    -- it is the last: the file is taken
    pub last-taken : n + 1 ≡ block_count file →
        table_datagram all m p e (encode (data_packet file (n + 1))) s ≡ takes m p e file (all_in (n + 1)) (Some (encode (ack (n + 1)))) s
    last-taken is =
        let less : length body < BLOCK_SIZE = last_block file (n + 1) (omega (arith, is)) in
        let other : length body ≢ BLOCK_SIZE = λ same. omega (arith, same, less) in
        let not_full = ne_eqb (length body) BLOCK_SIZE other in
        takes_block (ap (λ (b : Bool). (n + 1 == MAX_BLOCKS) && b) not_full ∙ and_false (n + 1 == MAX_BLOCKS)) false not_full
        ∙ ap (λ (f : List ℕ). takes m p e f (all_in (n + 1)) (Some (encode (ack (n + 1)))) s) (file_end file (n + 1) (omega arith) less)

  -- ---- an ACK arrives at the client

  -- the server's endpoint of the transfer
  abbrev pub from_server : Endpoint
  from_server = record { host = home.host; port = p }

  -- to the client an ACK from there means that ACK
  received_ack : (n : ℕ) → n < 2 ^ 16 → client.client_input home.host (Some p) from_server (encode (ack n)) ≡ acked n
  received_ack n small =
      ap (λ (b : Bool). client.client_input_at b (Some p) p (encode (ack n))) (eq-eqb home.host home.host refl)
      ∙ ap (λ (x : Result Packet PacketFault). client.client_input_decoded (Some p) p x) (ack-reads_back n small).decoded
      ∙ ap (λ (b : Bool). input_of_packet b (ack n)) (eq-eqb p p refl)

  -- it acknowledges the client's current block
  ack_comes : (n : ℕ) → n < 2 ^ 16 →
      client_datagram granted from_server (encode (ack n)) (block_out n) ≡ put_sent p
      (sender_goes_on (n == block_count file) (record { file = file; current = n; misses = 0; state = send.Running })) (block_out n)
  ack_comes n small =
      ap (λ (x : Input). client_by_input x granted p (block_out n)) (received_ack n small)
      ∙ ap (λ (b : Bool). put_sent p (sender_acked b (record { file = file; current = n; misses = 0; state = send.Running })) (block_out n)) (eq-eqb n n refl)

  -- it is not the last: the client sends the next one
  pub block-acked : (n : ℕ) → n < block_count file →
      client_datagram granted from_server (encode (ack n)) (block_out n) ≡ put_sent p
      (sender_answer file (n + 1) 0 send.Running (Some (data_packet file (n + 1)))) (block_out n)
  block-acked n more =
      let few = few_blocks in
      let other : n ≢ block_count file = λ is. omega (arith, is, more) in
      ack_comes n (omega (arith, few, more))
      ∙ ap (λ (b : Bool). put_sent p (sender_goes_on b (record { file = file; current = n; misses = 0; state = send.Running })) (block_out n))
      (ne_eqb n (block_count file) other)

  -- it is the last: the client has finished
  pub last-acked : (n : ℕ) → n ≡ block_count file →
      client_datagram granted from_server (encode (ack n)) (block_out n) ≡ put_sent p (sender_answer file n 0 send.Finished None) (block_out n)
  last-acked n is =
      let few = few_blocks in
      ack_comes n (omega (arith, few, is))
      ∙ ap (λ (b : Bool). put_sent p (sender_goes_on b (record { file = file; current = n; misses = 0; state = send.Running })) (block_out n))
      (eq-eqb n (block_count file) is)

  -- ---- the request and its answer

  -- the request opens the transfer, if there is a slot
  pub request-opens : (s : Table) → has_slot s ≡ true →
      table_request granted p e (encode (operation_request (put file))) s ≡ opens p e (receiving receiver_start) (encode (ack 0)) s
  request-opens s position =
      ap (λ (x : Result Packet PacketFault). request_decoded granted p e x s) (request_fields (put file))
      ∙ ap (λ (b : Bool). write_with_slot b granted p e s) position

  -- its ACK makes the client send the first block
  pub first-acked : client_datagram granted from_server (encode (ack 0))
      (client_start e.port home (put file)) ≡ put_answered true p file (client_start e.port home (put file))
  first-acked =
      let c = client_start e.port home (put file) in
      ap (λ (b : Bool). client_by_input (client.client_input_at b None p (encode (ack 0))) granted p c) (eq-eqb home.host home.host refl)
      ∙ ap (λ (x : Result Packet PacketFault). client_by_input (client.client_input_decoded None p x) granted p c) (ack-reads_back 0 (omega arith)).decoded
