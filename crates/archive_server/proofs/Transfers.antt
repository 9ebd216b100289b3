-- The live ports after a step at a transfer's port: it closes that port or none.
use Rattle.std.specs.Prelude.{◌≡◌, ℕ, cond, List, Option, None, Some, Result, Ok, Err}
use Rattle.std.proofs.Common.{refl}
use Rattle.tftp_packet.specs.declared.endpoint.Endpoint.{Endpoint}
use Rattle.tftp_packet.specs.declared.refusal.Refusal.TheVariants.{OutOfMemory, NotKept}
use Rattle.tftp_ends.specs.declared.send_state.SendState.{SendState}
use Rattle.tftp_ends.specs.declared.send_state.SendState.TheVariants as send
use Rattle.tftp_ends.specs.declared.recv_state.RecvState.{RecvState}
use Rattle.tftp_ends.specs.declared.recv_state.RecvState.TheVariants as recv
use Rattle.tftp_ends.specs.declared.recv_fault.RecvFault.{RecvFault}
use Rattle.tftp_ends.specs.Ends.{SendAnswer, Receiver, RecvAnswer, DataAnswer, sender_ack, sender_timeout, receiver_data, receiver_timeout, receiver_take, answer_of, dgram_of, refusal_of}
use Rattle.tftp_ends.specs.Input.{Input, nothing, stray, refusal, acked, block}
use Rattle.archive_table.specs.Table.{Table, TableAnswer, End, sending, receiving, Transfer, Maps, Grant, all, no_memory, unkept, transfer_input, memory_verdict, refusal_dgram, table_stays, goes_on, closes, transfer_at, file_come, file_asked, block_answered, block_received, data_at, sending_goes_on, ack_at, transfer_by_input, datagram_at, table_datagram, receiving_goes_on, waits_at, timeout_at, table_timeout}
use Rattle.archive_server.specs.Timers.{live_ports}
use Rattle.archive_server.proofs.Ports.{remove_port, keys_set, keys_remove}

-- the live ports are those before, without this one if it was closed
pub record TransferStep (port : ℕ) (s : Table) (a : TableAnswer) : Type 0 where
  pub ports : live_ports a.server ≡ cond a.step.closed (remove_port port (live_ports s)) (live_ports s)

-- nothing changes
stays_step : (port : ℕ) (s : Table) → TransferStep port s (table_stays s)
stays_step port s = record { ports = refl }

-- the transfer goes on
goes_step : (port : ℕ) (peer : Endpoint) (end : End) (out : Option (List ℕ)) (s : Table) → TransferStep port s (goes_on port peer end out s)
goes_step port peer end out s = record { ports = keys_set port s.live _ }

-- the transfer is closed
closes_step : (port : ℕ) (peer : Endpoint) (out : Option (List ℕ)) (s : Table) → TransferStep port s (closes port peer out s)
closes_step port peer out s = record { ports = keys_remove port s.live }

-- a whole file, by what was granted
come_step : (g : Grant) (maps : Maps) (port : ℕ) (peer : Endpoint) (file : List ℕ) (r : Receiver) (out : Option (List ℕ)) (s : Table) → TransferStep port s (file_come g maps port peer file r out s)
come_step all maps port peer file r out s = record { ports = keys_set port s.live _ }
come_step no_memory maps port peer file r out s = closes_step port peer (Some (refusal_dgram OutOfMemory)) s
come_step unkept maps port peer file r out s = closes_step port peer (Some (refusal_dgram NotKept)) s

-- a block that may complete the file
asked_step : (file : Option (List ℕ)) (g : Grant) (maps : Maps) (port : ℕ) (peer : Endpoint) (r : Receiver)
    (out : Option (List ℕ)) (s : Table) → TransferStep port s (file_asked file g maps port peer r out s)
asked_step (Some file) g maps port peer r out s = come_step g maps port peer file r out s
asked_step None g maps port peer r out s = goes_step port peer (receiving r) out s

-- a block that was taken or refused
answered_step : (a : Result (Option (List ℕ)) RecvFault) (g : Grant) (maps : Maps) (port : ℕ) (peer : Endpoint) (r : Receiver) (s : Table) → TransferStep port s (block_answered a g maps port peer r s)
answered_step (Ok out) g maps port peer r s = asked_step (receiver_take r).file g maps port peer (receiver_take r).receiver out s
answered_step (Err e) g maps port peer r s = closes_step port peer (Some (refusal_dgram (refusal_of e))) s

received_step : (a : DataAnswer) (g : Grant) (maps : Maps) (port : ℕ) (peer : Endpoint) (s : Table) → TransferStep port s (block_received a g maps port peer s)
received_step a g maps port peer s = answered_step (answer_of a.result) g maps port peer a.receiver s

-- a DATA, at either end
data_step : (end : End) (g : Grant) (maps : Maps) (port : ℕ) (peer : Endpoint) (n : ℕ) (body : List ℕ) (s : Table) → TransferStep port s (data_at end g maps port peer n body s)
data_step (sending e) g maps port peer n body s = stays_step port s
data_step (receiving r) g maps port peer n body s = received_step (receiver_data (memory_verdict g) n body r) g maps port peer s

-- a sender goes on or is over
sender_step : (state : SendState) (port : ℕ) (peer : Endpoint) (a : SendAnswer) (s : Table) → TransferStep port s (sending_goes_on state port peer a s)
sender_step send.Running port peer a s = goes_step port peer (sending a.sender) (dgram_of a.out) s
sender_step send.Finished port peer a s = closes_step port peer (dgram_of a.out) s
sender_step send.TimedOut port peer a s = closes_step port peer (dgram_of a.out) s

-- a receiver goes on or is over
receiver_step : (state : RecvState) (port : ℕ) (peer : Endpoint) (a : RecvAnswer) (s : Table) → TransferStep port s (receiving_goes_on state port peer a s)
receiver_step recv.Running port peer a s = goes_step port peer (receiving a.receiver) (dgram_of a.out) s
receiver_step recv.Complete port peer a s = goes_step port peer (receiving a.receiver) (dgram_of a.out) s
receiver_step recv.TimedOut port peer a s = closes_step port peer (dgram_of a.out) s
receiver_step recv.Over port peer a s = closes_step port peer (dgram_of a.out) s

-- an ACK, at either end
ack_step : (end : End) (port : ℕ) (peer : Endpoint) (n : ℕ) (s : Table) → TransferStep port s (ack_at end port peer n s)
ack_step (sending e) port peer n s = sender_step (sender_ack n e).sender.state port peer (sender_ack n e) s
ack_step (receiving r) port peer n s = stays_step port s

-- any input
transfer_step : (h : Input) (g : Grant) (maps : Maps) (port : ℕ) (from : Endpoint) (t : Transfer) (s : Table) → TransferStep port s (transfer_by_input h g maps port from t s)
transfer_step nothing g maps port from t s = stays_step port s
transfer_step stray g maps port from t s = record { ports = refl }
transfer_step (refusal code) g maps port from t s = closes_step port t.peer None s
transfer_step (acked n) g maps port from t s = ack_step t.end port t.peer n s
transfer_step (block n body) g maps port from t s = data_step t.end g maps port t.peer n body s

-- a port that is live or not
datagram_step : (t : Option Transfer) (g : Grant) (maps : Maps) (port : ℕ) (from : Endpoint) (bytes : List ℕ) (s : Table) → TransferStep port s (datagram_at t g maps port from bytes s)
datagram_step (Some t) g maps port from bytes s = transfer_step (transfer_input t.peer from bytes) g maps port from t s
datagram_step None g maps port from bytes s = stays_step port s

-- a datagram at a transfer's port closes that port or none
pub server_datagram_step : (g : Grant) (maps : Maps) (port : ℕ) (from : Endpoint) (bytes : List ℕ) (s : Table) → TransferStep port s (table_datagram g maps port from bytes s)
server_datagram_step g maps port from bytes s = datagram_step (transfer_at port s) g maps port from bytes s

-- a time-out, at either end
waits_step : (end : End) (port : ℕ) (peer : Endpoint) (s : Table) → TransferStep port s (waits_at end port peer s)
waits_step (sending e) port peer s = sender_step (sender_timeout e).sender.state port peer (sender_timeout e) s
waits_step (receiving r) port peer s = receiver_step (receiver_timeout r).receiver.state port peer (receiver_timeout r) s

timeout_step : (t : Option Transfer) (port : ℕ) (s : Table) → TransferStep port s (timeout_at t port s)
timeout_step (Some t) port s = waits_step t.end port t.peer s
timeout_step None port s = stays_step port s

-- a time-out at a transfer's port closes that port or none
pub server_timeout_step : (port : ℕ) (s : Table) → TransferStep port s (table_timeout port s)
server_timeout_step port s = timeout_step (transfer_at port s) port s
