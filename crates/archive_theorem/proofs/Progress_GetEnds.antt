-- What the ends of a get do when its datagrams come in turn.
use Rattle.std.proofs.Common.{◌≡◌, ◌≢◌, ℕ, ◌+◌, ◌≤◌, ◌<◌, ◌^◌, Bool, true, false, ◌==◌, ◌&&◌, List, ◌++◌, length, Option, None, Some, Result, Ok, refl, ap, ◌∙◌, arith}
use Rattle.std.proofs.lemmas.Bool.{eq-eqb, ne_eqb}
use Rattle.tftp_packet.specs.declared.endpoint.Endpoint.{Endpoint}
use Rattle.tftp_packet.specs.declared.packet_fault.PacketFault.{PacketFault}
use Rattle.tftp_packet.specs.declared.sizes.TheConstants.{BLOCK_SIZE}
use Rattle.tftp_packet.specs.Packet.{Packet, ack, encode}
use Rattle.tftp_packet.specs.Blocks.{block_count, block_of, first_blocks}
use Rattle.tftp_packet.proofs.Cutting.{first_blocks-more, block_before, last_block, file_end, numbered}
use Rattle.tftp_ends.specs.declared.limits.TheConstants.{MAX_BLOCKS, MAX_FILE}
use Rattle.tftp_ends.specs.declared.send_state.SendState.TheVariants as send
use Rattle.tftp_ends.specs.declared.recv_state.RecvState.TheVariants as recv
use Rattle.tftp_ends.specs.Ends.{granted, Sender, data_packet, sender_start, sender_goes_on, sender_acked, Receiver, receiver_start, receiver_data, state_after, is_past, receiver_next, receiver_running}
use Rattle.tftp_ends.specs.Input.{Input, acked, input_of_packet}
use Rattle.tftp_ends.proofs.Steps.{data-reads_back, ack-reads_back}
use Rattle.tws_file.specs.declared.«ruleset».Ruleset.{Ruleset}
use Rattle.tws_best.specs.Best.{collection_text}
use Rattle.archive_table.specs.Table.{Table, Maps, all, Transfer, sending, goes_on, closes, opens, map_of, has_slot, has_long_text, transfer_at, transfer_by_input, datagram_at, table_datagram, read_fits, read_with_slot, read_named, request_decoded, table_request}
use Rattle.archive_table.specs.Table as table
use Rattle.archive_client.specs.Client.{get, receiving, Client, ClientAnswer, moves, out_to, operation_request, client_start, get_took, get_sent, client_by_input, client_datagram}
use Rattle.archive_client.specs.Client as client
use Rattle.archive_model.proofs.Endpoints.{same_endpoint}
use Rattle.archive_theorem.proofs.Client_Answers.{request_fields, own_name}

module _ (home : Endpoint) (text : List ℕ) (short : length text ≤ MAX_FILE) (e : Endpoint) (p : ℕ) where
  -- the client's receiver after n blocks, and after the last one
  abbrev pub blocks_in : (n : ℕ) → Receiver
  blocks_in n = record { count = n; file = Some (first_blocks text n); misses = 0; state = recv.Running }

  abbrev pub all_in : (n : ℕ) → Receiver
  all_in n = record { count = n; file = Some text; misses = 0; state = recv.Complete }

  -- the client with this receiver
  abbrev pub fetching : Receiver → Client
  fetching r = record { port = e.port; server = home; phase = receiving p r }

  -- the client that has n blocks
  abbrev pub has_blocks : (n : ℕ) → Client
  has_blocks n = fetching (blocks_in n)

  -- the server's transfer that has sent block n
  abbrev pub sender_at : (n : ℕ) → Sender
  sender_at n = record { file = text; current = n; misses = 0; state = send.Running }

  -- the server's transfer that has sent block n
  abbrev pub serves : (n : ℕ) → Transfer
  serves n = record { peer = e; end = sending (sender_at n) }

  -- the server's endpoint of the transfer
  abbrev pub from_server : Endpoint
  from_server = record { host = home.host; port = p }

  -- the blocks' numbers fit in two bytes
  few_blocks : block_count text < 65536
  few_blocks = numbered text short

  and_false : (b : Bool) → b && false ≡ false
  and_false true = refl
  and_false false = refl

  -- ---- an ACK arrives at the server

  module _ (m : Maps) (s : Table) (n : ℕ) (found : transfer_at p s ≡ Some (serves n)) (more : n < block_count text) where
    -- to the transfer the datagram means this ACK
    received_ack : table.transfer_input e e (encode (ack n)) ≡ acked n
    received_ack =
        let few = few_blocks in
        ap (λ (x : Result Packet PacketFault). table.transfer_input_decoded e e x) (ack-reads_back n (omega (arith, few, more))).decoded
        ∙ ap (λ (b : Bool). input_of_packet b (ack n)) (same_endpoint e)

    -- the server sends the next block
    pub block-asked : table_datagram all m p e (encode (ack n)) s ≡ goes_on p e (sending (sender_at (n + 1))) (Some (encode (data_packet text (n + 1)))) s
    block-asked =
        let other : n ≢ block_count text = λ is. omega (arith, is, more) in
        ap (λ (o : Option Transfer). datagram_at o all m p e (encode (ack n)) s) found
        ∙ ap (λ (x : Input). transfer_by_input x all m p e (serves n) s) received_ack
        ∙ ap (λ (b : Bool). table.sender_answered p e (sender_acked b (sender_at n)) s) (eq-eqb n n refl)
        ∙ ap (λ (b : Bool). table.sender_answered p e (sender_goes_on b (sender_at n)) s) (ne_eqb n (block_count text) other)

  -- the last ACK closes the transfer
  pub last-asked : (m : Maps) (s : Table) (n : ℕ) → transfer_at p s ≡ Some (serves n) → n ≡ block_count text →
      table_datagram all m p e (encode (ack n)) s ≡ closes p e None s
  last-asked m s n found is =
      let few = few_blocks in
      ap (λ (o : Option Transfer). datagram_at o all m p e (encode (ack n)) s) found
      ∙ ap (λ (x : Result Packet PacketFault). transfer_by_input (table.transfer_input_decoded e e x) all m p e (serves n) s)
      (ack-reads_back n (omega (arith, few, is))).decoded
      ∙ ap (λ (b : Bool). transfer_by_input (input_of_packet b (ack n)) all m p e (serves n) s) (same_endpoint e)
      ∙ ap (λ (b : Bool). table.sender_answered p e (sender_acked b (sender_at n)) s) (eq-eqb n n refl)
      ∙ ap (λ (b : Bool). table.sender_answered p e (sender_goes_on b (sender_at n)) s) (eq-eqb n (block_count text) is)

  -- ---- a block arrives at the client

  module _ (c : Client) (n : ℕ) (within : n + 1 ≤ block_count text) where
    abbrev body : List ℕ
    body = block_of text (n + 1)

    -- it is taken and acknowledged
    takes_block : is_past (n + 1) body ≡ false → (full : Bool) → (length body == BLOCK_SIZE) ≡ full →
        get_sent p (receiver_data granted (n + 1) body (blocks_in n)) c ≡ get_took p
        (record { count = n + 1; file = Some (first_blocks text (n + 1)); misses = 0; state = state_after full })
        (Ok (Some (ack (n + 1)))) c
    takes_block not_past full is =
        ap (λ (b : Bool). get_sent p (receiver_running b granted (n + 1) body (blocks_in n)) c) (eq-eqb (n + 1) (n + 1) refl)
        ∙ ap (λ (b : Bool). get_sent p (receiver_next b granted body (blocks_in n)) c) not_past
        ∙ ap (λ (b : Bool). get_took p
        (record { count = n + 1; file = Some (first_blocks text n ++ body); misses = 0; state = state_after b })
        (Ok (Some (ack (n + 1)))) c) is
        ∙ ap (λ (f : List ℕ). get_took p (record { count = n + 1; file = Some f; misses = 0; state = state_after full }) (Ok (Some (ack (n + 1)))) c)
        (first_blocks-more text n)

    -- it is not the last
    pub block-got : n + 1 < block_count text →
        get_sent p (receiver_data granted (n + 1) body (blocks_in n)) c ≡ moves (receiving p (blocks_in (n + 1))) (Some (out_to p (ack (n + 1)) c)) c
    block-got more =
        let few = few_blocks in
        let full = eq-eqb (length body) BLOCK_SIZE (block_before text (n + 1) (omega arith) more) in
        let below : n + 1 ≢ MAX_BLOCKS = λ is. omega (arith, is, few, more) in
        takes_block (ap (λ (b : Bool). b && (length body == BLOCK_SIZE)) (ne_eqb (n + 1) MAX_BLOCKS below)) true full

    -- it is the last: the client has the whole text
    pub last-got : n + 1 ≡ block_count text →
        get_sent p (receiver_data granted (n + 1) body (blocks_in n)) c ≡ moves (receiving p (all_in (n + 1))) (Some (out_to p (ack (n + 1)) c)) c
    last-got is =
        let less : length body < BLOCK_SIZE = last_block text (n + 1) (omega (arith, is)) in
        let other : length body ≢ BLOCK_SIZE = λ same. omega (arith, same, less) in
        let not_full = ne_eqb (length body) BLOCK_SIZE other in
        takes_block (ap (λ (b : Bool). (n + 1 == MAX_BLOCKS) && b) not_full ∙ and_false (n + 1 == MAX_BLOCKS)) false not_full
        ∙ ap (λ (f : List ℕ). moves (receiving p (record { count = n + 1; file = Some f; misses = 0; state = recv.Complete }))
        (Some (out_to p (ack (n + 1)) c)) c) (file_end text (n + 1) (omega arith) less)

  small : (n : ℕ) → n + 1 ≤ block_count text → n + 1 < 2 ^ 16
  small n within = let few = few_blocks in omega (arith, few, within)

  -- it is bound
  pub block-received : (n : ℕ) → n + 1 ≤ block_count text →
      client_datagram granted from_server (encode (data_packet text (n + 1))) (has_blocks n) ≡ get_sent p
      (receiver_data granted (n + 1) (block_of text (n + 1)) (blocks_in n)) (has_blocks n)
  block-received n within =
      let c = has_blocks n in
      let bytes = encode (data_packet text (n + 1)) in
      ap (λ (b : Bool). client_by_input (client.client_input_at b (Some p) p bytes) granted p c) (eq-eqb home.host home.host refl)
      ∙ ap (λ (x : Result Packet PacketFault). client_by_input (client.client_input_decoded (Some p) p x) granted p c)
      (data-reads_back text (n + 1) (small n within)).decoded
      ∙ ap (λ (b : Bool). client_by_input (input_of_packet b (data_packet text (n + 1))) granted p c) (eq-eqb p p refl)

  -- it binds
  pub first-received : (rules : Ruleset) → 1 ≤ block_count text →
      client_datagram granted from_server (encode (data_packet text 1)) (client_start e.port home (get rules)) ≡ get_sent p
      (receiver_data granted 1 (block_of text 1) receiver_start) (client_start e.port home (get rules))
  first-received rules within =
      let c = client_start e.port home (get rules) in
      let bytes = encode (data_packet text 1) in
      ap (λ (b : Bool). client_by_input (client.client_input_at b None p bytes) granted p c) (eq-eqb home.host home.host refl)
      ∙ ap (λ (x : Result Packet PacketFault). client_by_input (client.client_input_decoded None p x) granted p c)
      (data-reads_back text 1 (small 0 within)).decoded

-- ---- the request

-- the request opens the transfer, if there is a slot and the text is not too long
pub read-opens : (rules : Ruleset) (e : Endpoint) (p : ℕ) (s : Table) → has_slot s ≡ true → has_long_text (map_of rules s.maps) ≡ false →
    table_request granted p e (encode (operation_request (get rules))) s ≡ opens p e
    (sending (sender_start (collection_text (map_of rules s.maps)))) (encode (data_packet (collection_text (map_of rules s.maps)) 1)) s
read-opens rules e p s position fits =
    ap (λ (x : Result Packet PacketFault). request_decoded granted p e x s) (request_fields (get rules))
    ∙ ap (λ (o : Option Ruleset). read_named o granted p e s) (own_name rules)
    ∙ ap (λ (b : Bool). read_with_slot b granted p e (map_of rules s.maps) s) position
    ∙ ap (λ (b : Bool). read_fits b granted p e (map_of rules s.maps) s) fits
