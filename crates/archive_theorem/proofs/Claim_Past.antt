-- What holds for each datagram of the network, for each transfer and for each client. All of it is about what has
-- happened, so it lasts; and so does what holds of an endpoint whose ports are its own, since what is own later was own
-- before.
use Rattle.std.proofs.Common.{◌≡◌, ◌≢◌, ◌⊎◌, ℕ, ◌≤◌, List, length, take, None, Some, Result, Ok, Err}
use Rattle.tftp_packet.specs.declared.endpoint.Endpoint.{Endpoint}
use Rattle.tftp_packet.specs.declared.packet_fault.PacketFault.{PacketFault}
use Rattle.tftp_packet.specs.Packet.{Packet, read, write, data_block, ack, error}
use Rattle.tftp_packet.specs.Blocks.{block_count, block_of}
use Rattle.tftp_packet.specs.Decode.{decode_bytes}
use Rattle.tftp_ends.specs.declared.recv_state.RecvState.{RecvState}
use Rattle.tftp_ends.specs.declared.recv_state.RecvState.TheVariants as recv
use Rattle.tftp_ends.specs.Ends.{Sender, IsSender, Receiver, IsReceiver, HoldsFirst}
use Rattle.tws_file.specs.declared.«ruleset».Ruleset.{Ruleset}
use Rattle.tws_best.specs.Best.{IsBestOver}
use Rattle.archive_table.specs.Table.{Taken, End, Transfer}
use Rattle.tws_file.specs.Names.{ruleset_named}
use Rattle.archive_table.specs.Table as table
use Rattle.archive_client.specs.Client.{Operation, put, get, Phase, Client, IsOperation}
use Rattle.archive_client.specs.Client as client
use Rattle.archive_model.specs.World.{Datagram, Begun, Asked, to_write, to_read, Opening, Got, Past}
use Rattle.archive_theorem.specs.Headline.{files_of, Owns}
use Rattle.archive_model.proofs.Places.{Has}

-- ---- what has happened

-- some operation has begun at the endpoint
pub record HasBegun (past : Past) (e : Endpoint) : Type 0 where
  pub begun : Begun
  pub among : Has past.begun begun
  pub client : begun.client ≡ e

-- a put of this file has begun there
pub record HasPut (past : Past) (e : Endpoint) (file : List ℕ) : Type 0 where
  pub count : ℕ
  pub among : Has past.begun (record { client = e; operation = put file; taken = count })

-- a get of this collection has begun there, when `count` files had been taken
pub record HasGet (past : Past) (e : Endpoint) (rules : Ruleset) (count : ℕ) : Type 0 where
  pub among : Has past.begun (record { client = e; operation = get rules; taken = count })

-- a stranger has sent from there
pub record IsStranger (past : Past) (e : Endpoint) : Type 0 where
  pub datagram : Datagram
  pub among : Has past.strays datagram
  pub source : datagram.source ≡ e

-- the server has opened a transfer for it at this port, when `count` files had been taken
pub record HasOpened (past : Past) (e : Endpoint) (port : ℕ) (asked : Asked) (count : ℕ) : Type 0 where
  pub among : Has past.opened (record { peer = e; port = port; asked = asked; taken = count })

-- the server has taken this file from there
pub record HasTaken (past : Past) (e : Endpoint) (file : List ℕ) : Type 0 where
  pub among : Has past.taken (record { peer = e; file = file })

-- the text is the collection over the first `count` files
pub record IsTextOf (taken : List Taken) (count : ℕ) (rules : Ruleset) (text : List ℕ) : Type 0 where
  pub within : count ≤ length taken
  pub best : IsBestOver rules (files_of (take count taken)) text

-- a transfer of this collection was opened at this port
pub record Serves (past : Past) (e : Endpoint) (port : ℕ) (rules : Ruleset) (text : List ℕ) : Type 0 where
  pub count : ℕ
  pub opened : HasOpened past e port (to_read rules) count
  pub is_text : IsTextOf past.taken count rules text

-- ---- a datagram

-- an RRQ from the endpoint of a get names its collection
pub record AsksToRead (past : Past) (source : Endpoint) (name : List ℕ) : Type 0 where
  pub rules : Ruleset
  pub named : ruleset_named name ≡ Some rules
  pub count : ℕ
  pub began : HasGet past source rules count

-- a WRQ comes from the endpoint of a put
pub record AsksToWrite (past : Past) (source : Endpoint) : Type 0 where
  pub file : List ℕ
  pub began : HasPut past source file

-- a client sends a block of its file
pub record PutsBlock (past : Past) (source : Endpoint) (n : ℕ) (body : List ℕ) : Type 0 where
  pub file : List ℕ
  pub began : HasPut past source file
  pub is_block : body ≡ block_of file n

-- the server sends a block of a collection
pub record ServesBlock (past : Past) (source target : Endpoint) (n : ℕ) (body : List ℕ) : Type 0 where
  pub ours : source.host ≡ past.home.host
  pub rules : Ruleset
  pub file : List ℕ
  pub serves : Serves past target source.port rules file
  pub is_block : body ≡ block_of file n

-- a client acknowledges a block that it fetches
pub record Fetches (past : Past) (source : Endpoint) : Type 0 where
  pub rules : Ruleset
  pub count : ℕ
  pub began : HasGet past source rules count

-- the server acknowledges a block of a put, the last one only once it has taken the file
pub record AcksPut (past : Past) (target : Endpoint) (n : ℕ) : Type 0 where
  pub file : List ℕ
  pub began : HasPut past target file
  pub is_taken : n ≡ block_count file → HasTaken past target file

-- an ACK of the server to an endpoint whose ports are its own
pub record ServerAcks (past : Past) (source target : Endpoint) (n : ℕ) : Type 0 where
  pub ours : source.host ≡ past.home.host
  pub whom : Owns past target → AcksPut past target n

-- what each packet of the server or a client says is so
abbrev pub Says : Past → (source target : Endpoint) → Packet → Type 0
Says past source target (read name mode) = AsksToRead past source name
Says past source target (write name mode) = AsksToWrite past source
Says past source target (data_block n body) = PutsBlock past source n body ⊎ ServesBlock past source target n body
Says past source target (ack n) = Fetches past source ⊎ ServerAcks past source target n
Says past source target (error code text) = Unit {0}

-- a datagram is a stranger's, or says what is so
pub record IsHonest (past : Past) (d : Datagram) : Type 0 where
  pub says : IsStranger past d.source ⊎ ((p : Packet) → decode_bytes d.bytes ≡ Ok p → Says past d.source d.target p)

-- a DATA or an ACK
abbrev pub Binds : Result Packet PacketFault → Type 0
Binds (Ok (read name mode)) = ⊥
Binds (Ok (write name mode)) = ⊥
Binds (Ok (data_block n body)) = Unit {0}
Binds (Ok (ack n)) = Unit {0}
Binds (Ok (error code text)) = ⊥
Binds (Err e) = ⊥

-- the endpoint has sent a DATA or an ACK to this port of the server
pub record IsBound (past : Past) (e : Endpoint) (port : ℕ) : Type 0 where
  pub datagram : Datagram
  pub among : Has past.net datagram
  pub source : datagram.source ≡ e
  pub target : datagram.target ≡ record { host = past.home.host; port = port }
  pub binds : Binds (decode_bytes datagram.bytes)

-- ---- a transfer

-- the server's sender at a port sends a collection to this endpoint
pub record IsServing (past : Past) (e : Endpoint) (port : ℕ) (s : Sender) : Type 0 where
  pub rules : Ruleset
  pub serves : Serves past e port rules s.file
  pub bounds : IsSender s

-- what was received of a put's file, by the receiver's state: a receiver that has had the whole file has none, since it
-- was taken
abbrev pub HasCome : Past → Endpoint → (file : List ℕ) → Receiver → RecvState → Type 0
HasCome past e file r recv.Running = HoldsFirst file r
HasCome past e file r recv.Complete = HasTaken past e file × (r.file ≡ None)
HasCome past e file r recv.TimedOut = ⊥
HasCome past e file r recv.Over = ⊥

-- what the server's receiver has is of the put at this endpoint
pub record ReceivesPut (past : Past) (e : Endpoint) (r : Receiver) : Type 0 where
  pub file : List ℕ
  pub began : HasPut past e file
  pub come : HasCome past e file r r.state

-- the server's receiver at a port, whose file is that of a put if the peer's ports are its own
pub record IsReceivingAt (past : Past) (e : Endpoint) (port : ℕ) (r : Receiver) : Type 0 where
  pub bounds : IsReceiver r
  pub count : ℕ
  pub opened : HasOpened past e port to_write count
  pub whose : Owns past e → ReceivesPut past e r

-- the end of a transfer is one of these
abbrev pub IsLiveEnd : Past → Endpoint → (port : ℕ) → End → Type 0
IsLiveEnd past e port (table.sending s) = IsServing past e port s
IsLiveEnd past e port (table.receiving r) = IsReceivingAt past e port r

-- a transfer with a peer that is not on the server's host, and its end
pub record IsLive (past : Past) (port : ℕ) (t : Transfer) : Type 0 where
  pub away : t.peer.host ≢ past.home.host
  pub end : IsLiveEnd past t.peer port t.end

-- a receiver that still waits for blocks
abbrev pub IsRunning : End → Type 0
IsRunning (table.sending s) = ⊥
IsRunning (table.receiving r) = r.state ≡ recv.Running

-- as long as blocks are missing, no file was taken from a peer that has sent to this port
abbrev pub IsUntaken : Past → (port : ℕ) → Transfer → Type 0
IsUntaken past port t =
    IsRunning t.end → Owns past t.peer → (u : Taken) → Has past.taken u → u.peer ≡ t.peer → IsBound past t.peer port → ⊥

-- ---- a client

-- a client whose request has had no answer yet
pub record IsAskingFor (past : Past) (e : Endpoint) (operation : Operation) : Type 0 where
  pub may : IsOperation operation
  pub count : ℕ
  pub among : Has past.begun (record { client = e; operation = operation; taken = count })

-- a client that sends the file of its put
pub record IsPutting (past : Past) (e : Endpoint) (s : Sender) : Type 0 where
  pub began : HasPut past e s.file
  pub bounds : IsSender s

-- what was received is of the collection that is served at the port
pub record IsServed (past : Past) (e : Endpoint) (port : ℕ) (rules : Ruleset) (r : Receiver) : Type 0 where
  pub file : List ℕ
  pub serves : Serves past e port rules file
  pub holds : HoldsFirst file r

-- a client that fetches, and what it has if its ports are its own
pub record IsGetting (past : Past) (e : Endpoint) (port : ℕ) (r : Receiver) : Type 0 where
  pub rules : Ruleset
  pub count : ℕ
  pub began : HasGet past e rules count
  pub bounds : IsReceiver r
  pub served : Owns past e → IsServed past e port rules r

-- by the phase: a client does what has begun at its endpoint
abbrev pub IsPursuing : Past → Endpoint → Phase → Type 0
IsPursuing past e (client.asking operation misses) = IsAskingFor past e operation
IsPursuing past e (client.sending port s) = IsPutting past e s
IsPursuing past e (client.receiving port r) = IsGetting past e port r
IsPursuing past e (client.failed why) = Unit {0}

-- a client has the port of its endpoint and the server's endpoint, and pursues its operation
pub record IsFaithful (past : Past) (e : Endpoint) (c : Client) : Type 0 where
  pub port : c.port ≡ e.port
  pub server : c.server ≡ past.home
  pub phase : IsPursuing past e c.phase

-- to which ports of the server a client in this phase has sent a DATA or an ACK
abbrev pub MayBind : Phase → (port : ℕ) → Type 0
MayBind (client.asking operation misses) port = ⊥
MayBind (client.sending peer s) port = port ≡ peer
MayBind (client.receiving peer r) port = port ≡ peer
MayBind (client.failed why) port = Unit {0}

-- ---- openings, files taken, files sent and fetched

-- an operation of this kind has begun at the endpoint that a transfer was opened for
abbrev pub IsAskedBy : Past → Opening → Asked → Type 0
IsAskedBy past o to_write = (file : List ℕ) × HasPut past o.peer file
IsAskedBy past o (to_read rules) = (count : ℕ) × HasGet past o.peer rules count × (count ≤ o.taken)

-- a transfer was opened for a stranger or for an operation
pub record IsOpening (past : Past) (o : Opening) : Type 0 where
  pub counted : o.taken ≤ length past.taken
  pub whose : IsStranger past o.peer ⊎ IsAskedBy past o o.asked

-- the put of a file that was taken, whose client has sent to the port where it was taken
pub record IsTakenFrom (past : Past) (e : Endpoint) (file : List ℕ) (port : ℕ) : Type 0 where
  pub began : HasPut past e file
  pub bound : IsBound past e port

-- a file was taken at a port that was opened for its peer
pub record IsTaken (past : Past) (t : Taken) : Type 0 where
  pub port : ℕ
  pub count : ℕ
  pub opened : HasOpened past t.peer port to_write count
  pub whose : Owns past t.peer → IsTakenFrom past t.peer t.file port

-- a file that counts as sent is that of a put, and was taken if the ports are its own
pub record IsSent (past : Past) (e : Endpoint) : Type 0 where
  pub file : List ℕ
  pub began : HasPut past e file
  pub is_taken : Owns past e → HasTaken past e file

-- the collection that a get has fetched, from the port that it is bound to, and no earlier than the get began
pub record IsFetched (past : Past) (g : Got) (rules : Ruleset) (count : ℕ) : Type 0 where
  pub port : ℕ
  pub serves : Serves past g.client port rules g.file
  pub since : count ≤ serves.count
  pub bound : IsBound past g.client port

-- a file that was fetched is that of a get
pub record IsGot (past : Past) (g : Got) : Type 0 where
  pub rules : Ruleset
  pub count : ℕ
  pub began : HasGet past g.client rules count
  pub whose : Owns past g.client → IsFetched past g rules count
