-- The server: its state, and what each datagram and each time-out does to it. RFC 1350 sections 2, 4 and 6. What an end
-- does is defined in tftp_ends; docs/FORMATS.md has the rest as a table.
use Rattle.std.specs.Prelude.{◌≡◌, ◌≢◌, ℕ, ◌<◌, ◌≤◌, Bool, true, false, ◌==◌, ◌&&◌, nat_lt, List, [], ◌∷◌, ◌++◌, length, Contains, Option, None, Some, option_map, unwrap_or, Result, Ok, Err}
use Rattle.std.specs.Str.{bytes_eq}
use Rattle.std.specs.Ordering.{nat_cmp}
use Rattle.std.specs.List.{All}
use Rattle.std.specs.Map.{lookup, remove_entry, set_value, keys_of, values_of}
use Rattle.std.specs.BTreeMap.{is_at, insert_entry}
use Rattle.std.specs.BTreeMap.Range.{entries_between}
use Rattle.std.specs.declared.ops.Bound.TheVariants.{Excluded, Unbounded}
use Rattle.tftp_packet.specs.declared.endpoint.Endpoint.{Endpoint}
use Rattle.tftp_packet.specs.declared.out.Out.{Out}
use Rattle.tftp_packet.specs.declared.packet_fault.PacketFault.{PacketFault}
use Rattle.tftp_packet.specs.declared.refusal.Refusal.{Refusal}
use Rattle.tftp_packet.specs.declared.refusal.Refusal.TheVariants.{OctetOnly, NoSuchFile, ServerBusy, CollectionTooLong, OutOfMemory, UnknownTransfer, NotKept}
use Rattle.tftp_packet.specs.Packet.{Packet, read, write, data_block, ack, error, is_octet, encode}
use Rattle.tftp_packet.specs.Refusal.{refusal_packet}
use Rattle.tftp_packet.specs.Decode.{decode_bytes}
use Rattle.tftp_ends.specs.declared.limits.TheConstants.{MAX_FILE}
use Rattle.tftp_ends.specs.declared.send_state.SendState.{SendState}
use Rattle.tftp_ends.specs.declared.send_state.SendState.TheVariants as send
use Rattle.tftp_ends.specs.declared.recv_state.RecvState.{RecvState}
use Rattle.tftp_ends.specs.declared.recv_state.RecvState.TheVariants as recv
use Rattle.tftp_ends.specs.declared.recv_fault.RecvFault.{RecvFault}
use Rattle.tftp_ends.specs.Input.{Input, nothing, stray, refusal, acked, block, input_of_packet}
use Rattle.tftp_ends.specs.Ends.{Verdict, granted, refused, dgram_of, answer_of, Sender, SendAnswer, sender_start, sender_ack, sender_timeout, data_packet, IsSender, Receiver, RecvAnswer, DataAnswer, TakeAnswer, receiver_start, receiver_data, receiver_timeout, receiver_take, refusal_of, IsReceiver, IsEnded}
use Rattle.tws_file.specs.declared.«ruleset».Ruleset.{Ruleset}
use Rattle.tws_file.specs.declared.«ruleset».Ruleset.TheVariants.{Lynx, Ms}
use Rattle.tws_file.specs.Text.{File, IsText}
use Rattle.tws_file.specs.Names.{ruleset_named}
use Rattle.tws_best.specs.Best.{Collected, IsBestOf, solutions_of, collection_text}
use Rattle.archive_table.specs.declared.limits.TheConstants.{LIVE}

-- ---- what a server is

pub data End : Type 0 where
  -- a file is sent
  sending : (sender : Sender) → End
  -- A file is received. Once it is whole it has been taken out, and its end waits for a repeated last block.
  receiving : (receiver : Receiver) → End

pub record Transfer : Type 0 where
  -- the peer's endpoint
  pub peer : Endpoint
  pub end : End

-- the collection of each ruleset: a finite map from keys to bodies
pub record Maps : Type 0 where
  pub lynx : Collected
  pub ms : Collected

pub record Table : Type 0 where
  -- the port at which requests arrive
  pub request : ℕ
  pub maps : Maps
  -- the transfers, a finite map from their ports, in the order of the ports
  pub live : List (ℕ × Transfer)

-- a collection without solutions
abbrev pub empty_collection : Ruleset → Collected
empty_collection rules = record { «ruleset» = rules; entries = [] }

abbrev pub empty_maps : Maps
empty_maps = record { lynx = empty_collection Lynx; ms = empty_collection Ms }

-- a server with empty collections and no transfer
abbrev pub empty_table : (request : ℕ) → Table
empty_table request = record { request = request; maps = empty_maps; live = [] }

-- a file that was received whole, and the endpoint that sent it
pub record Taken : Type 0 where
  pub peer : Endpoint
  pub file : List ℕ

-- what a call returns: at most one datagram to send, whether a transfer was opened, a file that was taken, and whether
-- the transfer at the port was closed
pub record Step : Type 0 where
  pub out : Option Out
  pub opened : Bool
  pub taken : Option Taken
  pub closed : Bool

-- the server after a call, and what the call returns
pub record TableAnswer : Type 0 where
  pub server : Table
  pub step : Step

-- ---- the finite map of transfers

abbrev pub at_port : (port : ℕ) → ℕ → Bool
at_port port = is_at (nat_cmp port)

abbrev pub transfer_at : (port : ℕ) → Table → Option Transfer
transfer_at port s = lookup (at_port port) s.live

abbrev pub with_live : List (ℕ × Transfer) → Table → Table
with_live live s = record { request = s.request; maps = s.maps; live = live }

-- the peer of the transfer at a port
abbrev pub peer_at : (port : ℕ) → Table → Option Endpoint
peer_at port s = option_map (λ t. t.peer) (transfer_at port s)

abbrev pub is_complete : RecvState → Bool
is_complete recv.Running = false
is_complete recv.Complete = true
is_complete recv.TimedOut = false
is_complete recv.Over = false

abbrev pub is_done : End → Bool
is_done (sending s) = false
is_done (receiving r) = is_complete r.state

-- whether the transfer at a port dallies: it has received its whole file, and waits only for a repeated last block
abbrev pub is_dallying : (port : ℕ) → Table → Bool
is_dallying port s = unwrap_or (option_map (λ t. is_done t.end) (transfer_at port s)) false

-- the first of these ports
abbrev pub first_live : {T : Type 0} → List (ℕ × T) → Option ℕ
first_live [] = None
first_live (e ∷ es) = Some e.0

-- the least live port above `after`
abbrev pub port_above : (after : ℕ) → Table → Option ℕ
port_above after s = first_live (entries_between nat_cmp (Excluded after) Unbounded s.live)

-- ---- answers

abbrev pub empty_step : Step
empty_step = record { out = None; opened = false; taken = None; closed = false }

abbrev pub table_stays : Table → TableAnswer
table_stays s = record { server = s; step = empty_step }

abbrev pub out_from : (port : ℕ) → Endpoint → Packet → Out
out_from port to packet = record { from_port = port; to = to; dgram = encode packet }

abbrev pub refusal_dgram : Refusal → List ℕ
refusal_dgram why = encode (refusal_packet why)

-- the same for what an end sends
abbrev pub sends_from : (port : ℕ) → Endpoint → Option (List ℕ) → Option Out
sends_from port to None = None
sends_from port to (Some dgram) = Some (record { from_port = port; to = to; dgram = dgram })

-- sends a datagram and changes nothing
abbrev pub replies : Out → Table → TableAnswer
replies out s = record { server = s; step = record { out = Some out; opened = false; taken = None; closed = false } }

-- an error from the request port
abbrev pub refuses : Refusal → (from : Endpoint) → Table → TableAnswer
refuses why from s = replies (out_from s.request from (refusal_packet why)) s

-- a transfer is opened at a port and sends its first packet from there
abbrev pub opens : (port : ℕ) → (from : Endpoint) → End → (first : List ℕ) → Table → TableAnswer
opens port from end first s =
    record {
      server = with_live (insert_entry nat_cmp s.live port (record { peer = from; end = end })) s;
      step = record { out = Some (record { from_port = port; to = from; dgram = first }); opened = true; taken = None; closed = false };
    }

-- the transfer at a port goes on
abbrev pub goes_on : (port : ℕ) → (peer : Endpoint) → End → Option (List ℕ) → Table → TableAnswer
goes_on port peer end out s =
    record {
      server = with_live (set_value (at_port port) s.live (record { peer = peer; end = end })) s;
      step = record { out = sends_from port peer out; opened = false; taken = None; closed = false };
    }

-- the transfer at a port ends
abbrev pub closes : (port : ℕ) → (peer : Endpoint) → Option (List ℕ) → Table → TableAnswer
closes port peer out s =
    record {
      server = with_live (remove_entry (at_port port) s.live) s;
      step = record { out = sends_from port peer out; opened = false; taken = None; closed = true };
    }

-- ---- requests

abbrev pub map_of : Ruleset → Maps → Collected
map_of Lynx maps = maps.lynx
map_of Ms maps = maps.ms

abbrev pub has_slot : Table → Bool
has_slot s = nat_lt (length s.live) LIVE

abbrev pub has_long_text : Collected → Bool
has_long_text c = nat_lt MAX_FILE (length (collection_text c))

-- whether there is memory for the transfer
abbrev pub opens_if : Verdict → (spare : ℕ) → (from : Endpoint) → End → (first : List ℕ) → Table → TableAnswer
opens_if granted spare from end first s = opens spare from end first s
opens_if refused spare from end first s = refuses OutOfMemory from s

-- a request to read: the collection's current text is sent
abbrev pub read_opens : Verdict → (spare : ℕ) → (from : Endpoint) → Collected → Table → TableAnswer
read_opens verdict spare from c s =
    opens_if verdict spare from (sending (sender_start (collection_text c))) (encode (data_packet (collection_text c) 1)) s

-- whether the text has too many bytes
abbrev pub read_fits : (long : Bool) → Verdict → (spare : ℕ) → (from : Endpoint) → Collected → Table → TableAnswer
read_fits true verdict spare from c s = refuses CollectionTooLong from s
read_fits false verdict spare from c s = read_opens verdict spare from c s

-- whether there is a slot for one more transfer
abbrev pub read_with_slot : (slot : Bool) → Verdict → (spare : ℕ) → (from : Endpoint) → Collected → Table → TableAnswer
read_with_slot true verdict spare from c s = read_fits (has_long_text c) verdict spare from c s
read_with_slot false verdict spare from c s = refuses ServerBusy from s

-- which collection is meant
abbrev pub read_named : Option Ruleset → Verdict → (spare : ℕ) → (from : Endpoint) → Table → TableAnswer
read_named (Some rules) verdict spare from s = read_with_slot (has_slot s) verdict spare from (map_of rules s.maps) s
read_named None verdict spare from s = refuses NoSuchFile from s

-- whether the mode is octet
abbrev pub read_asked : (octet : Bool) → Verdict → (spare : ℕ) → (from : Endpoint) → (name : List ℕ) → Table → TableAnswer
read_asked true verdict spare from name s = read_named (ruleset_named name) verdict spare from s
read_asked false verdict spare from name s = refuses OctetOnly from s

abbrev pub write_opens : Verdict → (spare : ℕ) → (from : Endpoint) → Table → TableAnswer
write_opens verdict spare from s = opens_if verdict spare from (receiving receiver_start) (encode (ack 0)) s

abbrev pub write_with_slot : (slot : Bool) → Verdict → (spare : ℕ) → (from : Endpoint) → Table → TableAnswer
write_with_slot true verdict spare from s = write_opens verdict spare from s
write_with_slot false verdict spare from s = refuses ServerBusy from s

-- a request to write: the name has no effect
abbrev pub write_asked : (octet : Bool) → Verdict → (spare : ℕ) → (from : Endpoint) → Table → TableAnswer
write_asked true verdict spare from s = write_with_slot (has_slot s) verdict spare from s
write_asked false verdict spare from s = refuses OctetOnly from s

abbrev pub request_by_packet : Verdict → (spare : ℕ) → (from : Endpoint) → Packet → Table → TableAnswer
request_by_packet verdict spare from (read name mode) s = read_asked (is_octet mode) verdict spare from name s
request_by_packet verdict spare from (write name mode) s = write_asked (is_octet mode) verdict spare from s
request_by_packet verdict spare from (data_block n body) s = table_stays s
request_by_packet verdict spare from (ack n) s = table_stays s
request_by_packet verdict spare from (error code text) s = table_stays s

abbrev pub request_decoded : Verdict → (spare : ℕ) → (from : Endpoint) → Result Packet PacketFault → Table → TableAnswer
request_decoded verdict spare from (Ok packet) s = request_by_packet verdict spare from packet s
request_decoded verdict spare from (Err e) s = table_stays s

-- a datagram is received at the request port; the port `spare` is free for a transfer
abbrev pub table_request : Verdict → (spare : ℕ) → (from : Endpoint) → (bytes : List ℕ) → Table → TableAnswer
table_request verdict spare from bytes s = request_decoded verdict spare from (decode_bytes bytes) s

-- The verdict, judged by whether a transfer was opened. On a request that is refused for another cause it has no
-- effect.
abbrev pub request_verdict : (opened : Bool) → Verdict
request_verdict true = granted
request_verdict false = refused

-- ---- a datagram at a transfer's port: what it means to the transfer

abbrev pub is_same : Endpoint → Endpoint → Bool
is_same a b = (a.host == b.host) && (a.port == b.port)

abbrev pub transfer_input_decoded : (peer from : Endpoint) → Result Packet PacketFault → Input
transfer_input_decoded peer from (Ok packet) = input_of_packet (is_same from peer) packet
transfer_input_decoded peer from (Err e) = nothing

abbrev pub transfer_input : (peer from : Endpoint) → (bytes : List ℕ) → Input
transfer_input peer from bytes = transfer_input_decoded peer from (decode_bytes bytes)

-- ---- a datagram: the step

-- What a step is granted. On a step that asks for nothing it has no effect.
pub data Grant : Type 0 where
  -- all memory, and a collection that has to be kept is kept
  all : Grant
  -- memory is refused
  no_memory : Grant
  -- the collection is not kept
  unkept : Grant

abbrev pub memory_verdict : Grant → Verdict
memory_verdict all = granted
memory_verdict no_memory = refused
memory_verdict unkept = granted

-- the file is taken: the collections become `maps`, and the end waits
abbrev pub takes : (maps : Maps) → (port : ℕ) → (peer : Endpoint) → (file : List ℕ) → Receiver → Option (List ℕ) → Table → TableAnswer
takes maps port peer file r out s =
    record {
      server = record { request = s.request; maps = maps; live = set_value (at_port port) s.live (record { peer = peer; end = receiving r }) };
      step = record { out = sends_from port peer out; opened = false; taken = Some (record { peer = peer; file = file }); closed = false };
    }

-- the whole file was received
abbrev pub file_come : Grant → (maps : Maps) → (port : ℕ) → (peer : Endpoint) → (file : List ℕ) → Receiver → Option (List ℕ) → Table → TableAnswer
file_come all maps port peer file r out s = takes maps port peer file r out s
file_come no_memory maps port peer file r out s = closes port peer (Some (refusal_dgram OutOfMemory)) s
file_come unkept maps port peer file r out s = closes port peer (Some (refusal_dgram NotKept)) s

-- whether this block completes the file
abbrev pub file_asked : Option (List ℕ) → Grant → (maps : Maps) → (port : ℕ) → (peer : Endpoint) → Receiver → Option (List ℕ) → Table → TableAnswer
file_asked (Some file) grant maps port peer r out s = file_come grant maps port peer file r out s
file_asked None grant maps port peer r out s = goes_on port peer (receiving r) out s

abbrev pub block_taken : TakeAnswer → Grant → (maps : Maps) → (port : ℕ) → (peer : Endpoint) → Option (List ℕ) → Table → TableAnswer
block_taken a grant maps port peer out s = file_asked a.file grant maps port peer a.receiver out s

-- a refused block closes the transfer, with an ERROR to the peer
abbrev pub block_answered : Result (Option (List ℕ)) RecvFault → Grant → (maps : Maps) → (port : ℕ) → (peer : Endpoint) → Receiver → Table → TableAnswer
block_answered (Ok out) grant maps port peer r s = block_taken (receiver_take r) grant maps port peer out s
block_answered (Err e) grant maps port peer r s = closes port peer (Some (refusal_dgram (refusal_of e))) s

abbrev pub block_received : DataAnswer → Grant → (maps : Maps) → (port : ℕ) → (peer : Endpoint) → Table → TableAnswer
block_received a grant maps port peer s = block_answered (answer_of a.result) grant maps port peer a.receiver s

abbrev pub data_at : End → Grant → (maps : Maps) → (port : ℕ) → (peer : Endpoint) → (n : ℕ) (body : List ℕ) → Table → TableAnswer
data_at (sending r) grant maps port peer n body s = table_stays s
data_at (receiving r) grant maps port peer n body s =
    block_received (receiver_data (memory_verdict grant) n body r) grant maps port peer s

-- a sender that is over closes its transfer
abbrev pub sending_goes_on : SendState → (port : ℕ) → (peer : Endpoint) → SendAnswer → Table → TableAnswer
sending_goes_on send.Running port peer a s = goes_on port peer (sending a.sender) (dgram_of a.out) s
sending_goes_on send.Finished port peer a s = closes port peer (dgram_of a.out) s
sending_goes_on send.TimedOut port peer a s = closes port peer (dgram_of a.out) s

abbrev pub sender_answered : (port : ℕ) → (peer : Endpoint) → SendAnswer → Table → TableAnswer
sender_answered port peer a s = sending_goes_on a.sender.state port peer a s

abbrev pub ack_at : End → (port : ℕ) → (peer : Endpoint) → (n : ℕ) → Table → TableAnswer
ack_at (sending e) port peer n s = sender_answered port peer (sender_ack n e) s
ack_at (receiving r) port peer n s = table_stays s

abbrev pub transfer_by_input : Input → Grant → (maps : Maps) → (port : ℕ) → (from : Endpoint) → Transfer → Table → TableAnswer
transfer_by_input nothing grant maps port from t s = table_stays s
transfer_by_input stray grant maps port from t s = replies (out_from port from (refusal_packet UnknownTransfer)) s
transfer_by_input (refusal code) grant maps port from t s = closes port t.peer None s
transfer_by_input (acked n) grant maps port from t s = ack_at t.end port t.peer n s
transfer_by_input (block n body) grant maps port from t s = data_at t.end grant maps port t.peer n body s

-- a port that is not live: nothing happens
abbrev pub datagram_at : Option Transfer → Grant → (maps : Maps) → (port : ℕ) → (from : Endpoint) → (bytes : List ℕ) → Table → TableAnswer
datagram_at (Some t) grant maps port from bytes s = transfer_by_input (transfer_input t.peer from bytes) grant maps port from t s
datagram_at None grant maps port from bytes s = table_stays s

-- A datagram is received at a port. If a file is taken the collections become `maps`; nothing else changes them.
abbrev pub table_datagram : Grant → (maps : Maps) → (port : ℕ) → (from : Endpoint) → (bytes : List ℕ) → Table → TableAnswer
table_datagram grant maps port from bytes s = datagram_at (transfer_at port s) grant maps port from bytes s

-- ---- a time-out

-- a receiver that is over closes its transfer
abbrev pub receiving_goes_on : RecvState → (port : ℕ) → (peer : Endpoint) → RecvAnswer → Table → TableAnswer
receiving_goes_on recv.Running port peer a s = goes_on port peer (receiving a.receiver) (dgram_of a.out) s
receiving_goes_on recv.Complete port peer a s = goes_on port peer (receiving a.receiver) (dgram_of a.out) s
receiving_goes_on recv.TimedOut port peer a s = closes port peer (dgram_of a.out) s
receiving_goes_on recv.Over port peer a s = closes port peer (dgram_of a.out) s

abbrev pub receiver_answered : (port : ℕ) → (peer : Endpoint) → RecvAnswer → Table → TableAnswer
receiver_answered port peer a s = receiving_goes_on a.receiver.state port peer a s

abbrev pub waits_at : End → (port : ℕ) → (peer : Endpoint) → Table → TableAnswer
waits_at (sending e) port peer s = sender_answered port peer (sender_timeout e) s
waits_at (receiving r) port peer s = receiver_answered port peer (receiver_timeout r) s

abbrev pub timeout_at : Option Transfer → (port : ℕ) → Table → TableAnswer
timeout_at (Some t) port s = waits_at t.end port t.peer s
timeout_at None port s = table_stays s

-- a time-out at a port
abbrev pub table_timeout : (port : ℕ) → Table → TableAnswer
table_timeout port s = timeout_at (transfer_at port s) port s

-- ---- the grant, judged by the datagram that is sent

abbrev pub grant_by : (no_room unsaved : Bool) → Grant
grant_by true unsaved = no_memory
grant_by false true = unkept
grant_by false false = all

abbrev pub dgram_grant : List ℕ → Grant
dgram_grant dgram = grant_by (bytes_eq dgram (refusal_dgram OutOfMemory)) (bytes_eq dgram (refusal_dgram NotKept))

abbrev pub grant_of : Option Out → Grant
grant_of None = all
grant_of (Some out) = dgram_grant out.dgram

-- ---- what a file does to the collections

-- the best of what was there and of this file's solutions
pub record IsFileMerge (file : File) (old new : Collected) : Type 0 where
  pub rules : new.ruleset ≡ old.ruleset
  pub best : IsBestOf (Contains (old.entries ++ solutions_of old.ruleset (file ∷ []))) new.entries

-- a file is merged only into the collection of its own ruleset
abbrev pub MergesIntoOwn : Ruleset → File → Maps → Maps → Type 0
MergesIntoOwn Lynx file old new = IsFileMerge file old.lynx new.lynx × (new.ms ≡ old.ms)
MergesIntoOwn Ms file old new = IsFileMerge file old.ms new.ms × (new.lynx ≡ old.lynx)

-- A readable file is merged into the collection of its ruleset. Bytes that are not the text of a file change neither.
pub record IsMerged (bytes : List ℕ) (old new : Maps) : Type 0 where
  pub readable : (file : File) → IsText bytes file → MergesIntoOwn file.ruleset file old new
  pub unreadable : ((file : File) → IsText bytes file → ⊥) → new ≡ old

-- the collections before and after a call that took this file, or none
abbrev pub Merges : Option Taken → Maps → Maps → Type 0
Merges None old new = new ≡ old
Merges (Some t) old new = IsMerged t.file old new

-- ---- the invariant

-- a file that was received whole has been taken out
pub record IsReceiving (r : Receiver) : Type 0 where
  pub fits : IsReceiver r
  pub taken : IsEnded r.state → r.file ≡ None

abbrev pub IsEnd : End → Type 0
IsEnd (sending s) = IsSender s
IsEnd (receiving r) = IsReceiving r

-- each number is less than those after it
abbrev pub AreRising : List ℕ → Type 0
AreRising [] = Unit {0}
AreRising (n ∷ ns) = All (λ m. n < m) ns × AreRising ns

pub record IsTable (s : Table) : Type 0 where
  pub lynx : s.maps.lynx.ruleset ≡ Lynx
  pub ms : s.maps.ms.ruleset ≡ Ms
  pub few : length s.live ≤ LIVE
  -- the ports are in order, and the request port is not among them
  pub ordered : AreRising (keys_of s.live)
  pub apart : All (λ port. port ≢ s.request) (keys_of s.live)
  pub ends : All (λ t. IsEnd t.end) (values_of s.live)
