-- A datagram arrives at a client, or the client times out, and the invariant still holds.
use Rattle.std.proofs.Common.{◌≡◌, ℕ, ◌+◌, Bool, true, false, ◌==◌, List, Option, None, Some, Result, Ok, Err, refl, ap, ◌∙◌, subst, arith, sym}
use Rattle.std.proofs.lemmas.Bool.{eqb-true}
use Rattle.tftp_packet.specs.declared.endpoint.Endpoint.{Endpoint}
use Rattle.tftp_packet.specs.declared.packet_fault.PacketFault.{PacketFault}
use Rattle.tftp_packet.specs.Packet.{Packet, read, write, data_block, ack, error, octet, encode}
use Rattle.tftp_packet.specs.Blocks.{block_of}
use Rattle.tftp_packet.specs.Decode.{decode_bytes}
use Rattle.tftp_packet.proofs.Packets.{decode_bytes-encode}
use Rattle.tftp_packet.proofs.Sent.{data_size}
use Rattle.tftp_ends.specs.declared.limits.TheConstants.{MISSES}
use Rattle.tftp_ends.specs.Ends.{Verdict, Receiver}
use Rattle.tftp_ends.specs.Input.{Input, nothing, stray, refusal, acked, block, input_from_peer, input_from_other, input_of_packet}
use Rattle.tws_file.specs.declared.«ruleset».Ruleset.{Ruleset}
use Rattle.tws_file.specs.declared.«ruleset».Ruleset.TheVariants.{Lynx, Ms}
use Rattle.tws_file.specs.Names.{file_name_of, upload_name, ruleset_named}
use Rattle.tftp_packet.specs.declared.cause.Cause.TheVariants as cause
use Rattle.archive_client.specs.declared.state.State.TheVariants as state
use Rattle.archive_client.specs.Client.{Operation, put, get, Phase, asking, sending, receiving, failed, Client, operation_request, request_out, phase_state, phase_peer, is_over, client_input_decoded, client_input_at, client_input, ack_received, data_received, refusal_received, client_by_input, client_unless_over, client_datagram, asks_again, phase_waits, client_timeout, client_input_at_port}
use Rattle.archive_model.specs.World.{Datagram, World, after_client, client_at, asked_of, to_write, to_read, asked_decoded, asked_named}
use Rattle.archive_theorem.specs.Headline.{IsOwn}
use Rattle.archive_model.proofs.Places.{Has}
use Rattle.archive_theorem.proofs.Claim_Past.{Serves, ServesBlock, Says, Binds, IsAskingFor, IsGetting, IsPursuing, MayBind}
use Rattle.archive_theorem.proofs.Claim_Owns.{one_served}
use Rattle.archive_theorem.proofs.Claim_Invariant.{Holds}
use Rattle.archive_theorem.proofs.Client_Changes.{never_sent, never_got, moves-holds, stays-holds, fails-holds, stray-holds, sends_it}
use Rattle.archive_theorem.proofs.Client_Puts.{acked_by, answered-holds, acked-holds, put_waits-holds}
use Rattle.archive_theorem.proofs.Client_Gets.{served_by, took-holds, get_answered-holds, get_refused-holds, get_waits-holds, get_running}

-- ---- what an ACK or a DATA for the client is

module _ (d : Datagram) where
  -- it is from the port that the client is bound to, if it is bound
  abbrev FromPeer : Option ℕ → Type 0
  FromPeer None = Unit {0}
  FromPeer (Some peer) = d.source.port ≡ peer

  -- from the server's host, and from the port that the client is bound to
  abbrev Knows : (host : ℕ) → Option ℕ → Input → Type 0
  Knows host peer nothing = Unit {0}
  Knows host peer stray = Unit {0}
  Knows host peer (refusal code) = Unit {0}
  Knows host peer (acked n) = (d.source.host ≡ host) × (decode_bytes d.bytes ≡ Ok (ack n)) × FromPeer peer
  Knows host peer (block n body) = (d.source.host ≡ host) × (decode_bytes d.bytes ≡ Ok (data_block n body)) × FromPeer peer

  -- a packet from the peer
  from_peer_knows : (host : ℕ) (peer : Option ℕ) (p : Packet) → d.source.host ≡ host → decode_bytes d.bytes ≡ Ok p → FromPeer peer →
      Knows host peer (input_from_peer p)
  from_peer_knows host peer (read name mode) ours reads from = tt
  from_peer_knows host peer (write name mode) ours reads from = tt
  from_peer_knows host peer (data_block n body) ours reads from = (ours, reads, from)
  from_peer_knows host peer (ack n) ours reads from = (ours, reads, from)
  from_peer_knows host peer (error code text) ours reads from = tt

  -- a packet from another endpoint, of which nothing is known
  from_other_knows : (host : ℕ) (peer : Option ℕ) (p : Packet) → Knows host peer (input_from_other p)
  from_other_knows host peer (read name mode) = tt
  from_other_knows host peer (write name mode) = tt
  from_other_knows host peer (data_block n body) = tt
  from_other_knows host peer (ack n) = tt
  from_other_knows host peer (error code text) = tt

  packet_knows : (host peer : ℕ) (p : Packet) → d.source.host ≡ host → decode_bytes d.bytes ≡ Ok p → (same : Bool) →
      (d.source.port == peer) ≡ same → Knows host (Some peer) (input_of_packet same p)
  packet_knows host peer p ours reads true same = from_peer_knows host (Some peer) p ours reads (eqb-true _ _ same)
  packet_knows host peer p ours reads false same = from_other_knows host (Some peer) p

  at_port_knows : (host : ℕ) (peer : Option ℕ) (p : Packet) → d.source.host ≡ host → decode_bytes d.bytes ≡ Ok p →
      Knows host peer (client_input_at_port peer d.source.port p)
  at_port_knows host None p ours reads = from_peer_knows host None p ours reads tt
  at_port_knows host (Some peer) p ours reads = packet_knows host peer p ours reads (d.source.port == peer) refl

  decoded_knows : (host : ℕ) (peer : Option ℕ) (answer : Result Packet PacketFault) → d.source.host ≡ host → decode_bytes d.bytes ≡ answer →
      Knows host peer (client_input_decoded peer d.source.port answer)
  decoded_knows host peer (Ok p) ours reads = at_port_knows host peer p ours reads
  decoded_knows host peer (Err fault) ours reads = tt

  at_knows : (host : ℕ) (peer : Option ℕ) (ours : Bool) → (d.source.host == host) ≡ ours → Knows host peer (client_input_at ours peer d.source.port d.bytes)
  at_knows host peer true ours = decoded_knows host peer (decode_bytes d.bytes) (eqb-true _ _ ours) refl
  at_knows host peer false ours = tt

  -- whatever the datagram means, that is known of it
  received_knows : (host : ℕ) (peer : Option ℕ) → Knows host peer (client_input host peer d.source d.bytes)
  received_knows host peer = at_knows host peer (d.source.host == host) refl

-- ---- a datagram arrives

module _ (w : World) (h : Holds w) (d : Datagram) (among : Has w.net d) (c : Client) (is : client_at d.target w ≡ Some c) (verdict : Verdict) where
  abbrev e : Endpoint
  e = d.target

  abbrev host : ℕ
  host = c.server.host

  -- a datagram from the server's host
  from_server : d.source.host ≡ host → d.source.host ≡ w.home.host
  from_server same = same ∙ ap (λ (x : Endpoint). x.host) (h.clients e c is).server

  -- an ACK
  ack_row : (n : ℕ) (phase : Phase) → c.phase ≡ phase → IsPursuing w.past e phase → Knows d host (phase_peer phase) (acked n) →
      Holds (after_client e c (ack_received phase d.source.port n c) w)
  ack_row n (asking (put file) misses) at there knows = answered-holds w h e c is file misses at there (n == 0) d.source.port
  ack_row n (asking (get rules) misses) at there knows = stays-holds w h e c is
  ack_row n (sending peer s) at there knows =
      acked-holds w h e c is peer s at there n (acked_by w h d among (from_server knows.0) n knows.1)
  ack_row n (receiving peer r) at there knows = stays-holds w h e c is
  ack_row n (failed why) at there knows = stays-holds w h e c is

  -- one text is served at the port that a get is bound to
  same_text : (peer : ℕ) (r : Receiver) (there : IsGetting w.past e peer r) (n : ℕ) (body : List ℕ) → d.source.port ≡ peer →
      ServesBlock w.past d.source e n body → (own : IsOwn w e) → body ≡ block_of (there.served own).file n
  same_text peer r there n body from serves own =
      let at_peer = subst (λ (p : ℕ). Serves w.past e p serves.rules serves.file) from serves.serves in
      let served = there.served own in
      let same = one_served w.past e own peer serves.rules there.rules serves.file served.file at_peer served.serves in
      serves.is_block ∙ ap (λ (f : List ℕ). block_of f n) same

  -- a DATA
  data_row : (n : ℕ) (body : List ℕ) (phase : Phase) → c.phase ≡ phase → IsPursuing w.past e phase →
      Knows d host (phase_peer phase) (block n body) → Holds (after_client e c (data_received phase verdict d.source.port n body c) w)
  data_row n body (asking (put file) misses) at there knows = stays-holds w h e c is
  data_row n body (asking (get rules) misses) at there knows =
      let serves = served_by w h d among (from_server knows.0) n body knows.1 in
      get_answered-holds w h e c is rules misses at there verdict d.source.port n body (data_size d.bytes n body knows.1) serves.rules
      serves.file serves.serves serves.is_block (n == 1)
  data_row n body (sending peer s) at there knows = stays-holds w h e c is
  data_row n body (receiving peer r) at there knows =
      let serves = served_by w h d among (from_server knows.0) n body knows.1 in
      took-holds w h e c is peer (λ q m. subst (λ (x : Phase). MayBind x q) at m) r there
      (λ run. get_running r.state (sym (ap phase_state at) ∙ run)) verdict n body (data_size d.bytes n body knows.1)
      (same_text peer r there n body knows.2 serves)
  data_row n body (failed why) at there knows = stays-holds w h e c is

  -- an ERROR
  refusal_row : (code : ℕ) (phase : Phase) → Holds (after_client e c (refusal_received phase code c) w)
  refusal_row code (asking operation misses) = fails-holds w h e c is (cause.Refused code)
  refusal_row code (sending peer s) = fails-holds w h e c is (cause.Refused code)
  refusal_row code (receiving peer r) = get_refused-holds w h e c is r.state code
  refusal_row code (failed why) = stays-holds w h e c is

  -- any input
  received_row : (x : Input) → Knows d host (phase_peer c.phase) x → Holds (after_client e c (client_by_input x verdict d.source.port c) w)
  received_row nothing knows = stays-holds w h e c is
  received_row stray knows = stray-holds w h e c is d.source.port
  received_row (refusal code) knows = refusal_row code c.phase
  received_row (acked n) knows = ack_row n c.phase refl (h.clients e c is).phase knows
  received_row (block n body) knows = data_row n body c.phase refl (h.clients e c is).phase knows

  -- whether or not the client is over
  unless_over : (over : Bool) → Holds (after_client e c (client_unless_over over verdict d.source d.bytes c) w)
  unless_over true = stays-holds w h e c is
  unless_over false = received_row (client_input host (phase_peer c.phase) d.source d.bytes) (received_knows d host (phase_peer c.phase))

  -- a datagram that arrives at a client keeps the invariant
  pub client_datagram-holds : Holds (after_client d.target c (client_datagram verdict d.source d.bytes c) w)
  client_datagram-holds = unless_over (is_over c)

-- ---- the request

-- the request of an operation reads back
pub request_fields : (operation : Operation) → decode_bytes (encode (operation_request operation)) ≡ Ok (operation_request operation)
request_fields (put file) = decode_bytes-encode (write upload_name octet) (refl, refl) (omega arith)
request_fields (get Lynx) = decode_bytes-encode (read (file_name_of Lynx) octet) (refl, refl) (omega arith)
request_fields (get Ms) = decode_bytes-encode (read (file_name_of Ms) octet) (refl, refl) (omega arith)

-- the name that a get asks for is that of its collection
pub own_name : (rules : Ruleset) → ruleset_named (file_name_of rules) ≡ Some rules
own_name Lynx = refl
own_name Ms = refl

-- what its request asks for
pub put_asked : (file : List ℕ) → asked_of (encode (operation_request (put file))) ≡ to_write
put_asked file = ap asked_decoded (request_fields (put file))

pub get_asked : (rules : Ruleset) → asked_of (encode (operation_request (get rules))) ≡ to_read rules
get_asked rules = ap asked_decoded (request_fields (get rules)) ∙ ap asked_named (own_name rules)

-- a request says what has begun
pub request_says : (w : World) (e target : Endpoint) (operation : Operation) → IsAskingFor w.past e operation →
    Says w.past e target (operation_request operation)
request_says w e target (put file) there = record { file = file; began = record { count = there.count; among = there.among } }
request_says w e target (get rules) there =
    record { rules = rules; named = own_name rules; count = there.count; began = record { among = there.among } }

-- it binds nobody
pub request_binds : (operation : Operation) → Binds (decode_bytes (encode (operation_request operation))) → ⊥
request_binds (put file) binds = subst Binds (request_fields (put file)) binds
request_binds (get rules) binds = subst Binds (request_fields (get rules)) binds

-- ---- a time-out

module _ (w : World) (h : Holds w) (e : Endpoint) (c : Client) (is : client_at e w ≡ Some c) where
  -- before any answer
  asks_row : (last : Bool) (operation : Operation) (misses : ℕ) → c.phase ≡ asking operation misses → IsAskingFor w.past e operation →
      Holds (after_client e c (asks_again last operation misses c) w)
  asks_row true operation misses at there = fails-holds w h e c is cause.TimedOut
  asks_row false operation misses at there =
      moves-holds w h e c is (asking operation (misses + 1)) (Some (request_out operation c))
      (record {
        pursuing = record { may = there.may; count = there.count; among = there.among };
        sending = sends_it w h e c is c.server.port (operation_request operation) (request_fields operation) (request_says w e _ operation there);
        binding = λ binds. absurd (request_binds operation binds);
        still = λ q m. subst (λ (x : Phase). MayBind x q) at m;
        sends = λ new. never_sent (phase_state c.phase) state.Running (λ apart. cc) new;
        gets = λ new f given. never_got (phase_state c.phase) state.Running (λ apart. cc) new;
      })

  -- in each phase
  waits_row : (phase : Phase) → c.phase ≡ phase → IsPursuing w.past e phase → Holds (after_client e c (phase_waits phase c) w)
  waits_row (asking operation misses) at there = asks_row (misses + 1 == MISSES) operation misses at there
  waits_row (sending peer s) at there = put_waits-holds w h e c is peer s at there
  waits_row (receiving peer r) at there =
      get_waits-holds w h e c is peer (λ q m. subst (λ (x : Phase). MayBind x q) at m) r there
      (λ run. get_running r.state (sym (ap phase_state at) ∙ run))
  waits_row (failed why) at there = stays-holds w h e c is

  -- a time-out of a client keeps the invariant
  pub client_timeout-holds : Holds (after_client e c (client_timeout c) w)
  client_timeout-holds = waits_row c.phase refl (h.clients e c is).phase
