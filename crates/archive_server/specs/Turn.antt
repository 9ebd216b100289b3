-- What a server does at a time is a turn or a round. A *turn* visits the next live port, or the request port after the last
-- one. A *round* waits until a port is ready, and visits that one. After a visit the ports that are due time out. Defined is
-- which calls of the wire they make, in which order, and which steps of the table. What the wire returns is an argument, and
-- so is what the steps are granted.
use Rattle.std.specs.Prelude.{◌≡◌, ℕ, ◌==◌, ◌&&◌, not, Bool, true, false, ◌+◌, List, [], ◌∷◌, ◌++◌, map, fold, Option, None, Some, is_some, option_map, unwrap_or, Result, Ok, Err}
use Rattle.std.specs.List.{list_any}
use Rattle.tftp_packet.specs.declared.endpoint.Endpoint.{Endpoint}
use Rattle.tftp_packet.specs.declared.out.Out.{Out}
use Rattle.tftp_packet.specs.declared.packet_fault.PacketFault.{PacketFault}
use Rattle.tftp_packet.specs.Packet.{Packet, read, write, data_block, ack, error}
use Rattle.tftp_packet.specs.Decode.{decode_bytes}
use Rattle.tftp_ends.specs.Ends.{Verdict}
use Rattle.archive_table.specs.Table.{Table, Maps, Taken, TableAnswer, Grant, all, Merges, transfer_at, peer_at, is_same, port_above, table_request, table_datagram, table_timeout}
use Rattle.archive_table.specs.declared.limits.TheConstants.{LIVE}
use Rattle.archive_table.specs.Keeper.{Keeping, StepKeeps}
use Rattle.archive_server.specs.declared.change.Change.{Change}
use Rattle.archive_server.specs.declared.change.Change.TheVariants.{Quiet, Nothing, Dropped, Opened, Sent, Answered, Closed}
use Rattle.archive_server.specs.declared.mode.Mode.{Mode}
use Rattle.archive_server.specs.declared.mode.Mode.TheVariants.{Turn, Round}
use Rattle.archive_server.specs.declared.next.Next.{Next}
use Rattle.archive_server.specs.declared.next.Next.TheVariants as next
use Rattle.archive_server.specs.declared.policies.Policies.{Policies}
use Rattle.archive_server.specs.declared.putters.Putters.{Putters}
use Rattle.archive_server.specs.declared.putters.Putters.TheVariants.{All, Hosts}
use Rattle.archive_server.specs.declared.timer.Timer.{Timer}
use Rattle.archive_server.specs.Places.{has_room, has_memory}
use Rattle.archive_server.specs.Timers.{timed_out, timers_after, late_ports, restart, earliest}
use Rattle.archive_wire.specs.Wire.{Entry, opened, closed, came, quiet, failed, waited, Grows, Replies, Receipt, datagram, nothing, fault, sendings}

-- ---- what is returned and granted

-- In a visit to a port. What is not asked for has no effect.
pub record Answers : Type 0 where
  pub receipt : Receipt
  -- whether a datagram at the request port is let in
  pub admitted : Bool
  -- by `open`
  pub spare : Option ℕ
  -- what a request is granted
  pub verdict : Verdict
  -- what a datagram at a transfer's port is granted
  pub grant : Grant
  -- the collections after a file is taken
  pub maps : Maps
  pub replies : Replies

-- ---- after a step

abbrev pub closings : (closes : Bool) (port : ℕ) → (ok : Bool) → List Entry
closings true port ok = closed port ok ∷ []
closings false port ok = []

-- The datagram of a step is sent, then its port is closed if it is no longer needed. A send that fails is a loss, and a
-- close that fails is ignored.
abbrev pub step_calls : (closes : Bool) (port : ℕ) → Option Out → Replies → List Entry
step_calls closes port out replies = sendings out replies.sent ++ closings closes port replies.closed

-- the result of a visit or a time-out
pub record Visited : Type 0 where
  pub server : Table
  pub taken : Option Taken
  pub change : Change
  pub calls : List Entry

-- ---- a transfer's port

-- the number of the block that a datagram has or acknowledges, or 0
abbrev pub block_in : Result Packet PacketFault → ℕ
block_in (Ok (read name mode)) = 0
block_in (Ok (write name mode)) = 0
block_in (Ok (data_block n body)) = n
block_in (Ok (ack n)) = n
block_in (Ok (error code text)) = 0
block_in (Err e) = 0

-- by whether the step answers its peer
abbrev pub sent_change : (to_peer : Bool) → (port block : ℕ) → Change
sent_change true port block = Sent port block
sent_change false port block = Answered port

abbrev pub transfer_change : (closed : Bool) → Option Out → (to_peer : Bool) → (port : ℕ) → Change
transfer_change true out to_peer port = Closed port
transfer_change false (Some out) to_peer port = sent_change to_peer port (block_in (decode_bytes out.dgram))
transfer_change false None to_peer port = Nothing

abbrev pub transfer_stepped : (port : ℕ) → (to_peer : Bool) → Replies → (before : List Entry) → TableAnswer → Visited
transfer_stepped port to_peer replies before a =
    record {
      server = a.server;
      taken = a.step.taken;
      change = transfer_change a.step.closed a.step.out to_peer port;
      calls = before ++ step_calls a.step.closed port a.step.out replies;
    }

-- nothing was received
abbrev pub quiet_visit : Entry → Table → Visited
quiet_visit call s = record { server = s; taken = None; change = Quiet; calls = call ∷ [] }

-- whether this endpoint is the peer of the transfer at a port
abbrev pub is_peer : (from : Endpoint) → (port : ℕ) → Table → Bool
is_peer from port s = unwrap_or (option_map (is_same from) (peer_at port s)) false

abbrev pub transfer_received : Receipt → Answers → (port : ℕ) → Table → Visited
transfer_received (datagram from bytes) a port s =
    transfer_stepped port (is_peer from port s) a.replies (came port from bytes ∷ []) (table_datagram a.grant a.maps port from bytes s)
transfer_received nothing a port s = quiet_visit (quiet port) s
transfer_received fault a port s = quiet_visit (failed port) s

-- a visit to a transfer's port: a datagram received there is a step
abbrev pub transfer_visit : Answers → (port : ℕ) → Table → Visited
transfer_visit a port s = transfer_received a.receipt a port s

-- a time-out at a transfer's port
abbrev pub timeout_visit : Replies → (port : ℕ) → Table → Visited
timeout_visit replies port s = transfer_stepped port true replies [] (table_timeout port s)

-- ---- the request port

abbrev pub request_change : (opened : Bool) → (spare : ℕ) → Change
request_change true spare = Opened spare
request_change false spare = Nothing

-- the spare port is closed again unless a transfer was opened on it
abbrev pub request_stepped : (spare : ℕ) → Replies → (before : List Entry) → TableAnswer → Visited
request_stepped spare replies before a =
    record {
      server = a.server;
      taken = a.step.taken;
      change = request_change a.step.opened spare;
      calls = before ++ step_calls (not a.step.opened) spare a.step.out replies;
    }

-- the datagram is lost
abbrev pub lost_visit : List Entry → Table → Visited
lost_visit calls s = record { server = s; taken = None; change = Nothing; calls = calls }

-- whether a transfer can be opened on a port
abbrev pub is_usable : (spare : ℕ) → Table → Bool
is_usable spare s = not (spare == 0) && not (spare == s.request) && not (is_some (transfer_at spare s))

abbrev pub request_used : (usable : Bool) → (spare : ℕ) → Verdict → Replies → (from : Endpoint) (bytes : List ℕ) → Table → Visited
request_used true spare verdict replies from bytes s =
    request_stepped spare replies (opened (Some spare) ∷ []) (table_request verdict spare from bytes s)
request_used false spare verdict replies from bytes s = lost_visit (opened (Some spare) ∷ []) s

abbrev pub request_spared : Option ℕ → Verdict → Replies → (from : Endpoint) (bytes : List ℕ) → Table → Visited
request_spared (Some spare) verdict replies from bytes s =
    request_used (is_usable spare s) spare verdict replies from bytes s
request_spared None verdict replies from bytes s = lost_visit (opened None ∷ []) s

-- a call before those of a visit
abbrev pub preceded : Entry → Visited → Visited
preceded call v = record { server = v.server; taken = v.taken; change = v.change; calls = call ∷ v.calls }

-- the datagram of this host is lost, since it is not let in
abbrev pub dropped_visit : (host : ℕ) → Table → Visited
dropped_visit host s = record { server = s; taken = None; change = Dropped host; calls = [] }

-- A datagram that is not let in is lost.
abbrev pub request_admitted : (admitted : Bool) → Answers → (from : Endpoint) (bytes : List ℕ) → Table → Visited
request_admitted true a from bytes s = request_spared a.spare a.verdict a.replies from bytes s
request_admitted false a from bytes s = dropped_visit from.host s

abbrev pub request_received : Receipt → Answers → Table → Visited
request_received (datagram from bytes) a s =
    preceded (came s.request from bytes) (request_admitted a.admitted a from bytes s)
request_received nothing a s = quiet_visit (quiet s.request) s
request_received fault a s = quiet_visit (failed s.request) s

-- a visit to the request port: a spare port is opened for a datagram received there, which is then a step
abbrev pub request_visit : Answers → Table → Visited
request_visit a s = request_received a.receipt a s

-- ---- the keeper

-- what a step asks of the keeper: what it was granted, and the file that is taken if everything is granted
pub record Asks : Type 0 where
  pub grant : Grant
  pub wanted : Option Taken

abbrev pub received_asks : Receipt → Grant → (port : ℕ) → Table → Option Asks
received_asks (datagram from bytes) grant port s =
    Some (record { grant = grant; wanted = (table_datagram all s.maps port from bytes s).step.taken })
received_asks nothing grant port s = None
received_asks fault grant port s = None

abbrev pub transfer_asks : Answers → (port : ℕ) → Table → Option Asks
transfer_asks a port s = received_asks a.receipt a.grant port s

-- what is added to the keeper's log, if there is one
abbrev pub KeepsAsked : Option Asks → Maps → Maps → (kept now : Option (List Keeping)) → Type 0
KeepsAsked (Some a) old new kept now = StepKeeps a.grant a.wanted old new kept now
KeepsAsked None old new kept now = now ≡ kept

-- ---- time-outs, port by port

-- the table and the timers so far, and the calls that were made
pub record Walk : Type 0 where
  pub server : Table
  pub timers : List Timer
  pub calls : List Entry

abbrev pub walk_timeout : (port due : ℕ) → Walk → Visited → Walk
walk_timeout port due w v =
    record { server = v.server; timers = timed_out v.change port due w.timers; calls = w.calls ++ v.calls }

abbrev pub walk_on : (due : ℕ) → Walk → ℕ × Replies → Walk
walk_on due w e = walk_timeout e.0 due w (timeout_visit e.1 e.0 w.server)

-- Each of these ports times out, in this order. Its timer restarts unless the port is closed.
abbrev pub walk : (due : ℕ) → Table → List Timer → List (ℕ × Replies) → Walk
walk due s timers late = fold (walk_on due) (record { server = s; timers = timers; calls = [] }) late

-- ---- a visit and the time-outs after it

abbrev pub next_visit : Next → Answers → Table → Visited
next_visit next.Request a s = request_visit a s
next_visit (next.Transfer port) a s = transfer_visit a port s
next_visit next.Nowhere a s = lost_visit [] s

abbrev pub next_asks : Next → Answers → Table → Option Asks
next_asks next.Request a s = None
next_asks (next.Transfer port) a s = transfer_asks a port s
next_asks next.Nowhere a s = None

-- After a visit each port that is due times out.
abbrev pub walk_after : Mode → Visited → (late : List (ℕ × Replies)) → List Timer → Walk
walk_after mode v late timers = walk (restart mode) v.server (timers_after mode v.change timers) late

-- ---- what is let in

-- a list names a host unless it is 0
abbrev pub may_put : (host : ℕ) → Putters → Bool
may_put host All = true
may_put host (Hosts hosts) = not (host == 0) && list_any (λ h. h == host) hosts

-- whether this is a request that a host may make
abbrev pub may_ask : Putters → (host : ℕ) → Result Packet PacketFault → Bool
may_ask putters host (Ok (read name mode)) = true
may_ask putters host (Ok (write name mode)) = may_put host putters
may_ask putters host (Ok (data_block n body)) = false
may_ask putters host (Ok (ack n)) = false
may_ask putters host (Ok (error code text)) = false
may_ask putters host (Err e) = false

-- A round lets in only requests, a put only from a host that may put, only from a host that has fewer transfers than it may
-- have, apart from those that dally, and only while one more transfer may have a list of what it sends.
abbrev pub admits : Mode → List Timer → Receipt → Table → Bool
admits Turn timers receipt s = true
admits (Round now settled policies) timers (datagram from bytes) s =
    may_ask policies.putters from.host (decode_bytes bytes) && has_room from.host policies.per_host timers s && has_memory s
admits (Round now settled policies) timers nothing s = true
admits (Round now settled policies) timers fault s = true

abbrev pub next_admits : Mode → Next → List Timer → Receipt → Table → Bool
next_admits mode next.Request timers receipt s = admits mode timers receipt s
next_admits mode (next.Transfer port) timers receipt s = true
next_admits mode next.Nowhere timers receipt s = true

-- ---- by the mode

-- What a server does once it knows what it visits next: the visit, and the time-outs after it. `late` has the results of
-- the calls after each time-out.
pub record IsTurnIn (mode : Mode) (next : Next) (old new : Table) (timers left : List Timer) (taken : Bool) (calls : List Entry) (kept now : Option (List Keeping)) : Type 0 where
  pub answers : Answers
  pub admitted : answers.admitted ≡ next_admits mode next timers answers.receipt old
  pub late : List (ℕ × Replies)
  pub late_are : map (λ e. e.0) late ≡ late_ports mode (next_visit next answers old).change (timers_after mode (next_visit next answers old).change timers) (next_visit next answers old).server
  pub table : new ≡ (walk_after mode (next_visit next answers old) late timers).server
  pub timers_are : left ≡ (walk_after mode (next_visit next answers old) late timers).timers
  pub calls_are : calls ≡ (next_visit next answers old).calls ++ (walk_after mode (next_visit next answers old) late timers).calls
  pub taken_is : taken ≡ is_some (next_visit next answers old).taken
  -- the visit changes the collections as the table's calls do
  pub merges : Merges (next_visit next answers old).taken old.maps (next_visit next answers old).server.maps
  pub keeps : KeepsAsked (next_asks next answers old) old.maps (next_visit next answers old).server.maps kept now

-- ---- a turn and a round

pub record Server : Type 0 where
  pub table : Table
  -- the port visited last, initially 0
  pub last : ℕ
  -- for each live port how many quiet turns are left until it times out, or the time at which it does
  pub timers : List Timer
  -- which requests rounds let in
  pub policies : Policies

-- those that let every request in
abbrev pub open_policies : Policies
open_policies = record { per_host = LIVE; putters = All }

-- a server with this table, before its first turn or round
abbrev pub fresh_server : Policies → Table → Server
fresh_server policies table = record { table = table; last = 0; timers = []; policies = policies }

abbrev pub next_of : Option ℕ → Next
next_of (Some port) = next.Transfer port
next_of None = next.Request

-- the port to note as the last one visited, 0 if that was the request port
abbrev pub noted : Option ℕ → ℕ
noted (Some port) = port
noted None = 0

-- A turn visits the least live port above the last one, or the request port if there is none.
abbrev pub turn_next : Server → Next
turn_next s = next_of (port_above s.last s.table)

-- One turn of the server that counts its quiet turns.
pub record IsTurn (old new : Server) (taken : Bool) (calls : List Entry) (kept now : Option (List Keeping)) : Type 0 where
  pub visits : IsTurnIn Turn (turn_next old) old.table new.table old.timers new.timers taken calls kept now
  pub last : new.last ≡ noted (port_above old.last old.table)
  pub policies : new.policies ≡ old.policies

abbrev pub port_next : (is_request : Bool) → (port : ℕ) → Next
port_next true port = next.Request
port_next false port = next.Transfer port

-- A round visits the port that is ready, if one is.
abbrev pub ready_next : Option ℕ → Table → Next
ready_next (Some port) s = port_next (port == s.request) port
ready_next None s = next.Nowhere

abbrev pub noted_or : (last : ℕ) → Option ℕ → ℕ
noted_or last (Some port) = port
noted_or last None = last

-- One round: a wait, a visit to the ready port, and the time-outs of the ports that were due when all that had arrived was
-- handed out. Its time is that of the wire's clock, in milliseconds. The wait asks for the next port above the last one,
-- so that none starves if the wire returns that port.
pub record IsRound (old new : Server) (taken : Bool) (calls : List Entry) (kept now : Option (List Keeping)) : Type 0 where
  pub ready : Option ℕ
  pub time : ℕ
  pub settled : Option ℕ
  pub others : List Entry
  pub visits : IsTurnIn (Round time settled old.policies) (ready_next ready old.table) old.table new.table old.timers new.timers taken others kept now
  pub calls_are : calls ≡ waited old.last (earliest old.timers) ready time settled ∷ others
  pub last : new.last ≡ noted_or old.last ready
  pub policies : new.policies ≡ old.policies

-- ---- one after another

-- what is known of the server and its keeper before and after, of the calls, and of whether a file was taken
abbrev pub TurnOrRound : Type 1
TurnOrRound = Server → Server → Bool → List Entry → Option (List Keeping) → Option (List Keeping) → Type 0

-- a turn or round was made, and the log has grown by its calls
pub record MakesOne (Is : TurnOrRound) (old new : Server) (taken : Bool) (before after : Option (List Entry)) (kept now : Option (List Keeping)) : Type 0 where
  pub calls : List Entry
  pub made : Is old new taken calls kept now
  pub grows : Grows before after calls

abbrev pub MakesTurn : (old new : Server) (taken : Bool) (before after : Option (List Entry)) (kept now : Option (List Keeping)) → Type 0
MakesTurn old new taken before after kept now = MakesOne IsTurn old new taken before after kept now

abbrev pub MakesRound : (old new : Server) (taken : Bool) (before after : Option (List Entry)) (kept now : Option (List Keeping)) → Type 0
MakesRound old new taken before after kept now = MakesOne IsRound old new taken before after kept now

-- one more file, if one was taken
abbrev pub count_if : (took : Bool) → ℕ → ℕ
count_if true taken = taken + 1
count_if false taken = taken

-- turns or rounds one after another: how many of them took a file, and their calls
pub data ServesTurns (Is : TurnOrRound) : (count : ℕ) (old new : Server) (taken : ℕ) (calls : List Entry) (kept now : Option (List Keeping)) → Type 0 where
  none : (s : Server) (kept : Option (List Keeping)) → ServesTurns Is 0 s s 0 [] kept kept
  more : {count : ℕ} {old mid new : Server} {taken : ℕ} {calls added : List Entry} {kept between now : Option (List Keeping)} (took : Bool) → ServesTurns Is count old mid taken calls kept between → Is mid new took added between now → ServesTurns Is (count + 1) old new (count_if took taken) (calls ++ added) kept now

-- so many of them were made, of which `taken` took a file
pub record MakesMany (Is : TurnOrRound) (count : ℕ) (old new : Server) (taken : ℕ) (before after : Option (List Entry)) (kept now : Option (List Keeping)) : Type 0 where
  pub calls : List Entry
  pub served : ServesTurns Is count old new taken calls kept now
  pub grows : Grows before after calls

abbrev pub MakesTurns : (turns : ℕ) (old new : Server) (taken : ℕ) (before after : Option (List Entry)) (kept now : Option (List Keeping)) → Type 0
MakesTurns turns old new taken before after kept now = MakesMany IsTurn turns old new taken before after kept now

abbrev pub MakesRounds : (rounds : ℕ) (old new : Server) (taken : ℕ) (before after : Option (List Entry)) (kept now : Option (List Keeping)) → Type 0
MakesRounds rounds old new taken before after kept now = MakesMany IsRound rounds old new taken before after kept now
