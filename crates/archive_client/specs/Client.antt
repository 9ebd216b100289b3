-- A client: what it asks for, its phase, and what each datagram and each time-out does to it. RFC 1350 sections 2, 4
-- and 6. docs/FORMATS.md has it as a table.
use Rattle.std.specs.Prelude.{◌≡◌, ◌≢◌, ℕ, ◌+◌, ◌<◌, ◌≤◌, nat_lt, Bool, true, false, ◌==◌, List, length, Option, None, Some, IsSome, Result, Ok, Err}
use Rattle.tftp_packet.specs.declared.endpoint.Endpoint.{Endpoint}
use Rattle.tftp_packet.specs.declared.out.Out.{Out}
use Rattle.tftp_packet.specs.declared.packet_fault.PacketFault.{PacketFault}
use Rattle.tftp_packet.specs.declared.refusal.Refusal.TheVariants.{UnknownTransfer}
use Rattle.tftp_packet.specs.Packet.{Packet, read, write, ack, octet, encode}
use Rattle.tftp_packet.specs.Blocks.{block_count}
use Rattle.tftp_packet.specs.Refusal.{refusal_packet}
use Rattle.tftp_packet.specs.Decode.{decode_bytes}
use Rattle.tftp_ends.specs.declared.limits.TheConstants.{MAX_FILE, MISSES}
use Rattle.tftp_ends.specs.declared.send_state.SendState.{SendState}
use Rattle.tftp_ends.specs.declared.send_state.SendState.TheVariants as send
use Rattle.tftp_ends.specs.declared.recv_state.RecvState.{RecvState}
use Rattle.tftp_ends.specs.declared.recv_state.RecvState.TheVariants as recv
use Rattle.tftp_ends.specs.declared.recv_fault.RecvFault.{RecvFault}
use Rattle.tftp_ends.specs.declared.recv_fault.RecvFault.TheVariants as fault
use Rattle.tftp_ends.specs.Input.{Input, nothing, stray, refusal, acked, block, input_from_peer, input_of_packet}
use Rattle.tftp_ends.specs.Ends.{Verdict, granted, refused, Sender, SendAnswer, sender_start, sender_ack, sender_timeout, data_packet, IsSender, Receiver, RecvAnswer, DataAnswer, receiver_start, receiver_data, receiver_timeout, receiver_take, refusal_of, IsReceiver}
use Rattle.tws_file.specs.declared.«ruleset».Ruleset.{Ruleset}
use Rattle.tws_file.specs.Names.{file_name_of, upload_name}
use Rattle.tftp_packet.specs.declared.cause.Cause.{Cause}
use Rattle.tftp_packet.specs.declared.cause.Cause.TheVariants as cause
use Rattle.archive_client.specs.declared.state.State.{State}
use Rattle.archive_client.specs.declared.state.State.TheVariants as state

-- ---- what a client is

pub data Operation : Type 0 where
  -- to send this file
  put : (file : List ℕ) → Operation
  -- to fetch the collection of this ruleset
  get : (rules : Ruleset) → Operation

pub data Phase : Type 0 where
  -- The request was sent and nothing that answers it has arrived yet. The time-outs in a row are counted.
  asking : (operation : Operation) (misses : ℕ) → Phase
  -- A put that is bound to this port of the server's host, and its end of the transfer.
  sending : (peer : ℕ) (sender : Sender) → Phase
  -- A get that is bound to this port, and its end of the transfer.
  receiving : (peer : ℕ) (receiver : Receiver) → Phase
  failed : (why : Cause) → Phase

pub record Client : Type 0 where
  -- its own port
  pub port : ℕ
  -- the server that it talks to
  pub server : Endpoint
  pub phase : Phase

-- the client after a call, and the datagram that it sends
pub record ClientAnswer : Type 0 where
  pub client : Client
  pub out : Option Out

abbrev pub in_phase : Phase → Client → Client
in_phase phase c = record { port = c.port; server = c.server; phase = phase }

-- a packet to a port of the server's host
abbrev pub out_to : (port : ℕ) → Packet → Client → Out
out_to port packet c =
    record { from_port = c.port; to = record { host = c.server.host; port = port }; dgram = encode packet }

-- the same for what an end sends
abbrev pub sends_to : (port : ℕ) → Option Packet → Client → Option Out
sends_to port None c = None
sends_to port (Some packet) c = Some (out_to port packet c)

abbrev pub client_stays : Client → ClientAnswer
client_stays c = record { client = c; out = None }

abbrev pub moves : Phase → Option Out → Client → ClientAnswer
moves phase out c = record { client = in_phase phase c; out = out }

abbrev pub fails : Cause → Client → ClientAnswer
fails why c = moves (failed why) None c

-- ---- the start

abbrev pub operation_request : Operation → Packet
operation_request (put file) = write upload_name octet
operation_request (get rules) = read (file_name_of rules) octet

-- the request goes to the server's port
abbrev pub request_out : Operation → Client → Out
request_out operation c = out_to c.server.port (operation_request operation) c

abbrev pub client_start : (port : ℕ) → Endpoint → Operation → Client
client_start port server operation = record { port = port; server = server; phase = asking operation 0 }

-- ---- what a client reports

-- for a put that is bound
abbrev pub send_state : SendState → State
send_state send.Running = state.Running
send_state send.Finished = state.Sent
send_state send.TimedOut = state.Failed cause.TimedOut

-- for a get that is bound
abbrev pub recv_state : RecvState → State
recv_state recv.Running = state.Running
recv_state recv.Complete = state.Got
recv_state recv.TimedOut = state.Failed cause.TimedOut
recv_state recv.Over = state.Got

abbrev pub phase_state : Phase → State
phase_state (asking operation misses) = state.Running
phase_state (sending peer s) = send_state s.state
phase_state (receiving peer r) = recv_state r.state
phase_state (failed why) = state.Failed why

abbrev pub state_of : Client → State
state_of c = phase_state c.phase

abbrev pub is_send_over : SendState → Bool
is_send_over send.Running = false
is_send_over send.Finished = true
is_send_over send.TimedOut = true

-- with the whole file it still dallies, in case its last ACK was lost
abbrev pub is_recv_over : RecvState → Bool
is_recv_over recv.Running = false
is_recv_over recv.Complete = false
is_recv_over recv.TimedOut = true
is_recv_over recv.Over = true

-- whether nothing has any further effect
abbrev pub is_phase_over : Phase → Bool
is_phase_over (asking operation misses) = false
is_phase_over (sending peer s) = is_send_over s.state
is_phase_over (receiving peer r) = is_recv_over r.state
is_phase_over (failed why) = true

abbrev pub is_over : Client → Bool
is_over c = is_phase_over c.phase

-- ---- a datagram: what it means to the client

-- the port that the client is bound to
abbrev pub phase_peer : Phase → Option ℕ
phase_peer (asking operation misses) = None
phase_peer (sending peer s) = Some peer
phase_peer (receiving peer r) = Some peer
phase_peer (failed why) = None

-- Until there is a peer, any port of the host may answer.
abbrev pub client_input_at_port : (peer : Option ℕ) (port : ℕ) → Packet → Input
client_input_at_port None port packet = input_from_peer packet
client_input_at_port (Some peer) port packet = input_of_packet (port == peer) packet

abbrev pub client_input_decoded : (peer : Option ℕ) (port : ℕ) → Result Packet PacketFault → Input
client_input_decoded peer port (Ok packet) = client_input_at_port peer port packet
client_input_decoded peer port (Err e) = nothing

-- whether the datagram comes from the server's host
abbrev pub client_input_at : (ours : Bool) (peer : Option ℕ) (port : ℕ) → (bytes : List ℕ) → Input
client_input_at true peer port bytes = client_input_decoded peer port (decode_bytes bytes)
client_input_at false peer port bytes = nothing

abbrev pub client_input : (host : ℕ) (peer : Option ℕ) → (from : Endpoint) (bytes : List ℕ) → Input
client_input host peer from bytes = client_input_at (from.host == host) peer from.port bytes

-- ---- an ACK

-- whether it is the ACK of the request: then the client binds to its port and sends the first block
abbrev pub put_answered : (first : Bool) → (port : ℕ) (file : List ℕ) → Client → ClientAnswer
put_answered true port file c =
    moves (sending port (sender_start file)) (Some (out_to port (data_packet file 1) c)) c
put_answered false port file c = client_stays c

abbrev pub put_sent : (peer : ℕ) → SendAnswer → Client → ClientAnswer
put_sent peer answer c = moves (sending peer answer.sender) (sends_to peer answer.out c) c

abbrev pub ack_asked : Operation → (port n : ℕ) → Client → ClientAnswer
ack_asked (put file) port n c = put_answered (n == 0) port file c
ack_asked (get rules) port n c = client_stays c

abbrev pub ack_received : Phase → (port n : ℕ) → Client → ClientAnswer
ack_received (asking operation misses) port n c = ack_asked operation port n c
ack_received (sending peer s) port n c = put_sent peer (sender_ack n s) c
ack_received (receiving peer r) port n c = client_stays c
ack_received (failed why) port n c = client_stays c

-- ---- a DATA

abbrev pub cause_of : RecvFault → Cause
cause_of fault.Memory = cause.Memory
cause_of fault.TooLong = cause.TooLong

-- A refused block fails the client, which sends the server an ERROR with the reason.
abbrev pub get_took : (peer : ℕ) → Receiver → Result (Option Packet) RecvFault → Client → ClientAnswer
get_took peer r (Ok out) c = moves (receiving peer r) (sends_to peer out c) c
get_took peer r (Err e) c = moves (failed (cause_of e)) (Some (out_to peer (refusal_packet (refusal_of e)) c)) c

abbrev pub get_sent : (peer : ℕ) → DataAnswer → Client → ClientAnswer
get_sent peer answer c = get_took peer answer.receiver answer.result c

-- whether it is the first block: then the client binds to its port and takes it
abbrev pub get_answered : (first : Bool) → Verdict → (port n : ℕ) (body : List ℕ) → Client → ClientAnswer
get_answered true verdict port n body c = get_sent port (receiver_data verdict n body receiver_start) c
get_answered false verdict port n body c = client_stays c

abbrev pub data_asked : Operation → Verdict → (port n : ℕ) (body : List ℕ) → Client → ClientAnswer
data_asked (put file) verdict port n body c = client_stays c
data_asked (get rules) verdict port n body c = get_answered (n == 1) verdict port n body c

abbrev pub data_received : Phase → Verdict → (port n : ℕ) (body : List ℕ) → Client → ClientAnswer
data_received (asking operation misses) verdict port n body c = data_asked operation verdict port n body c
data_received (sending peer s) verdict port n body c = client_stays c
data_received (receiving peer r) verdict port n body c = get_sent peer (receiver_data verdict n body r) c
data_received (failed why) verdict port n body c = client_stays c

-- ---- an ERROR

-- once the whole file has been received, an ERROR has no effect
abbrev pub get_refused : RecvState → (code : ℕ) → Client → ClientAnswer
get_refused recv.Running code c = fails (cause.Refused code) c
get_refused recv.Complete code c = client_stays c
get_refused recv.TimedOut code c = client_stays c
get_refused recv.Over code c = client_stays c

abbrev pub refusal_received : Phase → (code : ℕ) → Client → ClientAnswer
refusal_received (asking operation misses) code c = fails (cause.Refused code) c
refusal_received (sending peer s) code c = fails (cause.Refused code) c
refusal_received (receiving peer r) code c = get_refused r.state code c
refusal_received (failed why) code c = client_stays c

-- ---- a datagram: the step

abbrev pub client_by_input : Input → Verdict → (port : ℕ) → Client → ClientAnswer
client_by_input nothing verdict port c = client_stays c
client_by_input stray verdict port c = moves c.phase (Some (out_to port (refusal_packet UnknownTransfer) c)) c
client_by_input (refusal code) verdict port c = refusal_received c.phase code c
client_by_input (acked n) verdict port c = ack_received c.phase port n c
client_by_input (block n body) verdict port c = data_received c.phase verdict port n body c

abbrev pub client_unless_over : (over : Bool) → Verdict → (from : Endpoint) (bytes : List ℕ) → Client → ClientAnswer
client_unless_over true verdict from bytes c = client_stays c
client_unless_over false verdict from bytes c =
    client_by_input (client_input c.server.host (phase_peer c.phase) from bytes) verdict from.port c

-- a datagram is received
abbrev pub client_datagram : Verdict → (from : Endpoint) (bytes : List ℕ) → Client → ClientAnswer
client_datagram verdict from bytes c = client_unless_over (is_over c) verdict from bytes c

-- the verdict that a step was given, judged by where it leaves the client; for a step that allocates nothing, the
-- verdict has no effect
abbrev pub cause_verdict : Cause → Verdict
cause_verdict (cause.Refused code) = granted
cause_verdict cause.TimedOut = granted
cause_verdict cause.TooLong = granted
cause_verdict cause.Memory = refused

abbrev pub phase_verdict : Phase → Verdict
phase_verdict (asking operation misses) = granted
phase_verdict (sending peer s) = granted
phase_verdict (receiving peer r) = granted
phase_verdict (failed why) = cause_verdict why

abbrev pub verdict_after : Client → Verdict
verdict_after c = phase_verdict c.phase

-- ---- a time-out

-- whether it is the time-out that fails the client
abbrev pub asks_again : (last : Bool) → Operation → (misses : ℕ) → Client → ClientAnswer
asks_again true operation misses c = fails cause.TimedOut c
asks_again false operation misses c = moves (asking operation (misses + 1)) (Some (request_out operation c)) c

-- an end that gives up fails its client
abbrev pub put_waited : SendState → (peer : ℕ) → SendAnswer → Client → ClientAnswer
put_waited send.Running peer answer c = put_sent peer answer c
put_waited send.Finished peer answer c = put_sent peer answer c
put_waited send.TimedOut peer answer c = fails cause.TimedOut c

abbrev pub put_waits : (peer : ℕ) → SendAnswer → Client → ClientAnswer
put_waits peer answer c = put_waited answer.sender.state peer answer c

abbrev pub get_stays : (peer : ℕ) → RecvAnswer → Client → ClientAnswer
get_stays peer answer c = moves (receiving peer answer.receiver) (sends_to peer answer.out c) c

abbrev pub get_waited : RecvState → (peer : ℕ) → RecvAnswer → Client → ClientAnswer
get_waited recv.Running peer answer c = get_stays peer answer c
get_waited recv.Complete peer answer c = get_stays peer answer c
get_waited recv.TimedOut peer answer c = fails cause.TimedOut c
get_waited recv.Over peer answer c = get_stays peer answer c

abbrev pub get_waits : (peer : ℕ) → RecvAnswer → Client → ClientAnswer
get_waits peer answer c = get_waited answer.receiver.state peer answer c

abbrev pub phase_waits : Phase → Client → ClientAnswer
phase_waits (asking operation misses) c = asks_again (misses + 1 == MISSES) operation misses c
phase_waits (sending peer s) c = put_waits peer (sender_timeout s) c
phase_waits (receiving peer r) c = get_waits peer (receiver_timeout r) c
phase_waits (failed why) c = client_stays c

-- one time-out
abbrev pub client_timeout : Client → ClientAnswer
client_timeout c = phase_waits c.phase c

-- ---- the file

abbrev pub phase_file : Phase → Option (List ℕ)
phase_file (asking operation misses) = None
phase_file (sending peer s) = None
phase_file (receiving peer r) = (receiver_take r).file
phase_file (failed why) = None

-- the file of a get that has all of it, otherwise the client
abbrev pub file_or : Option (List ℕ) → Client → Result (List ℕ) Client
file_or (Some file) c = Ok file
file_or None c = Err c

abbrev pub file_or_client : Client → Result (List ℕ) Client
file_or_client c = file_or (phase_file c.phase) c

-- ---- the invariant

-- whether it is a put whose file has more bytes than can be sent
abbrev pub is_too_long : Operation → Bool
is_too_long (put file) = nat_lt MAX_FILE (length file)
is_too_long (get rules) = false

abbrev pub IsOperation : Operation → Type 0
IsOperation (put file) = length file ≤ MAX_FILE
IsOperation (get rules) = Unit {0}

-- for a phase: its end is within bounds, has not given up and still has its file
pub record IsSendingPhase (s : Sender) : Type 0 where
  pub bounds : IsSender s
  pub alive : s.state ≢ send.TimedOut

pub record IsReceivingPhase (r : Receiver) : Type 0 where
  pub bounds : IsReceiver r
  pub whole : IsSome r.file
  pub alive : r.state ≢ recv.TimedOut

abbrev pub IsPhase : Phase → Type 0
IsPhase (asking operation misses) = IsOperation operation × (misses < MISSES)
IsPhase (sending peer s) = IsSendingPhase s
IsPhase (receiving peer r) = IsReceivingPhase r
IsPhase (failed why) = Unit {0}

pub record IsClient (c : Client) : Type 0 where
  pub phase : IsPhase c.phase

-- ---- terms of the laws

-- the client is bound to this port
abbrev pub IsBoundTo : (port : ℕ) → Phase → Type 0
IsBoundTo port (asking operation misses) = ⊥
IsBoundTo port (sending peer s) = peer ≡ port
IsBoundTo port (receiving peer r) = peer ≡ port
IsBoundTo port (failed why) = ⊥

-- it is bound to this port, or has failed
abbrev pub IsBoundToStill : (port : ℕ) → Phase → Type 0
IsBoundToStill port (asking operation misses) = ⊥
IsBoundToStill port (sending peer s) = peer ≡ port
IsBoundToStill port (receiving peer r) = peer ≡ port
IsBoundToStill port (failed why) = Unit {0}

-- the datagram is the ACK of the last block, from the port that a put is bound to
abbrev pub IsLastAck : Phase → (from : Endpoint) (bytes : List ℕ) → Type 0
IsLastAck (asking operation misses) from bytes = ⊥
IsLastAck (sending peer s) from bytes = (from.port ≡ peer) × (decode_bytes bytes ≡ Ok (ack (block_count s.file)))
IsLastAck (receiving peer r) from bytes = ⊥
IsLastAck (failed why) from bytes = ⊥
