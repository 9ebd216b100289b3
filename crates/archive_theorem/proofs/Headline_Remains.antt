-- The collections remain unless a step takes a file, and a file is taken only if everything is granted.
use Rattle.std.proofs.Common.{◌≡◌, ◌⊎◌, ℕ, Bool, true, false, ◌==◌, List, [], ◌∷◌, ◌++◌, slice_get, Option, None, Some, Result, Ok, Err, refl, ap, sym, subst, inl, inr}
use Rattle.tftp_packet.specs.declared.endpoint.Endpoint.{Endpoint}
use Rattle.tftp_packet.specs.declared.packet_fault.PacketFault.{PacketFault}
use Rattle.tftp_packet.specs.Packet.{Packet, read, write, data_block, ack, error, is_octet}
use Rattle.tftp_packet.specs.Decode.{decode_bytes}
use Rattle.tftp_ends.specs.declared.send_state.SendState.{SendState}
use Rattle.tftp_ends.specs.declared.send_state.SendState.TheVariants as send
use Rattle.tftp_ends.specs.declared.recv_state.RecvState.{RecvState}
use Rattle.tftp_ends.specs.declared.recv_state.RecvState.TheVariants as recv
use Rattle.tftp_ends.specs.declared.recv_fault.RecvFault.{RecvFault}
use Rattle.tftp_ends.specs.Ends.{Verdict, granted, refused, answer_of, Receiver, SendAnswer, RecvAnswer, receiver_data, receiver_take, receiver_timeout, sender_ack, sender_timeout}
use Rattle.tftp_ends.specs.Input.{Input, nothing, stray, refusal, acked, block}
use Rattle.tws_file.specs.declared.«ruleset».Ruleset.{Ruleset}
use Rattle.tws_best.specs.Best.{Collected}
use Rattle.archive_table.specs.Table.{Table, Maps, Transfer, Taken, TableAnswer, End, sending, receiving, Grant, all, no_memory, unkept, memory_verdict, map_of, has_slot, opens_if, read_fits, read_with_slot, read_named, read_asked, write_with_slot, write_asked, request_by_packet, request_decoded, transfer_input, transfer_at, file_come, file_asked, block_answered, data_at, sending_goes_on, ack_at, transfer_by_input, datagram_at, table_datagram, receiving_goes_on, waits_at, timeout_at, table_timeout, has_long_text}
use Rattle.tws_file.specs.Names.{ruleset_named}
use Rattle.archive_client.specs.Client.{Operation, is_too_long, Client}
use Rattle.archive_model.specs.World.{Datagram, Event, begin, deliver, client_times_out, server_times_out, restart, WorldStep, World, client_at, has_begun, begins_unless, request_comes, server_receives, client_receives, arrives, delivers, client_waits, strays_unless, event_happens, happens, unknown_keep, ends, ends_if, ends_at, net_with, wanted_of}
use Rattle.archive_model.specs.World as world

-- ---- an answer of the server

-- the answer takes no file and leaves the collections
abbrev Leaves : TableAnswer → Table → Type 0
Leaves a s = (a.step.taken ≡ None) × (a.server.maps ≡ s.maps)

-- the answer, by the collections that a file would make: either it leaves them, or a file is taken and makes them
abbrev pub TakesOrLeaves : Grant → (Maps → TableAnswer) → Table → Type 0
TakesOrLeaves grant a s =
    ((one : TableAnswer) × Leaves one s × ((maps : Maps) → a maps ≡ one))
    ⊎ ((t : Taken) × ((maps : Maps) → ((a maps).step.taken ≡ Some t) × ((a maps).server.maps ≡ maps)) × (grant ≡ all))

-- an answer that leaves them whatever a file would make
leaves : (grant : Grant) (one : TableAnswer) (s : Table) → Leaves one s → TakesOrLeaves grant (λ maps. one) s
leaves grant one s is = inl (one, is, λ maps. refl)

-- a transfer is opened, or memory was refused
opens_leaves : (verdict : Verdict) (spare : ℕ) (from : Endpoint) (end : End) (first : List ℕ) (s : Table) → Leaves (opens_if verdict spare from end first s) s
opens_leaves granted spare from end first s = (refl, refl)
opens_leaves refused spare from end first s = (refl, refl)

fits_leaves : (long : Bool) (verdict : Verdict) (spare : ℕ) (from : Endpoint) (c : Collected) (s : Table) → Leaves (read_fits long verdict spare from c s) s
fits_leaves true verdict spare from c s = (refl, refl)
fits_leaves false verdict spare from c s = opens_leaves verdict spare from _ _ s

read_leaves : (position : Bool) (verdict : Verdict) (spare : ℕ) (from : Endpoint) (c : Collected) (s : Table) →
    Leaves (read_with_slot position verdict spare from c s) s
read_leaves true verdict spare from c s = fits_leaves (has_long_text c) verdict spare from c s
read_leaves false verdict spare from c s = (refl, refl)

named_leaves : (name : Option Ruleset) (verdict : Verdict) (spare : ℕ) (from : Endpoint) (s : Table) → Leaves (read_named name verdict spare from s) s
named_leaves (Some rules) verdict spare from s = read_leaves (has_slot s) verdict spare from (map_of rules s.maps) s
named_leaves None verdict spare from s = (refl, refl)

asked_leaves : (octet : Bool) (verdict : Verdict) (spare : ℕ) (from : Endpoint) (name : List ℕ) (s : Table) →
    Leaves (read_asked octet verdict spare from name s) s
asked_leaves true verdict spare from name s = named_leaves (ruleset_named name) verdict spare from s
asked_leaves false verdict spare from name s = (refl, refl)

write_leaves : (position : Bool) (verdict : Verdict) (spare : ℕ) (from : Endpoint) (s : Table) → Leaves (write_with_slot position verdict spare from s) s
write_leaves true verdict spare from s = opens_leaves verdict spare from _ _ s
write_leaves false verdict spare from s = (refl, refl)

octet_leaves : (octet : Bool) (verdict : Verdict) (spare : ℕ) (from : Endpoint) (s : Table) → Leaves (write_asked octet verdict spare from s) s
octet_leaves true verdict spare from s = write_leaves (has_slot s) verdict spare from s
octet_leaves false verdict spare from s = (refl, refl)

packet_leaves : (verdict : Verdict) (spare : ℕ) (from : Endpoint) (packet : Packet) (s : Table) → Leaves (request_by_packet verdict spare from packet s) s
packet_leaves verdict spare from (read name mode) s = asked_leaves (is_octet mode) verdict spare from name s
packet_leaves verdict spare from (write name mode) s = octet_leaves (is_octet mode) verdict spare from s
packet_leaves verdict spare from (data_block n body) s = (refl, refl)
packet_leaves verdict spare from (ack n) s = (refl, refl)
packet_leaves verdict spare from (error code text) s = (refl, refl)

-- a request leaves the collections and takes no file
pub decoded_leaves : (verdict : Verdict) (spare : ℕ) (from : Endpoint) (decoded : Result Packet PacketFault) (s : Table) →
    Leaves (request_decoded verdict spare from decoded s) s
decoded_leaves verdict spare from (Ok packet) s = packet_leaves verdict spare from packet s
decoded_leaves verdict spare from (Err e) s = (refl, refl)

sender_leaves : (state : SendState) (port : ℕ) (peer : Endpoint) (a : SendAnswer) (s : Table) → Leaves (sending_goes_on state port peer a s) s
sender_leaves send.Running port peer a s = (refl, refl)
sender_leaves send.Finished port peer a s = (refl, refl)
sender_leaves send.TimedOut port peer a s = (refl, refl)

receiver_leaves : (state : RecvState) (port : ℕ) (peer : Endpoint) (a : RecvAnswer) (s : Table) → Leaves (receiving_goes_on state port peer a s) s
receiver_leaves recv.Running port peer a s = (refl, refl)
receiver_leaves recv.Complete port peer a s = (refl, refl)
receiver_leaves recv.TimedOut port peer a s = (refl, refl)
receiver_leaves recv.Over port peer a s = (refl, refl)

waits_leaves : (end : End) (port : ℕ) (peer : Endpoint) (s : Table) → Leaves (waits_at end port peer s) s
waits_leaves (sending e) port peer s = sender_leaves (sender_timeout e).sender.state port peer (sender_timeout e) s
waits_leaves (receiving r) port peer s = receiver_leaves (receiver_timeout r).receiver.state port peer (receiver_timeout r) s

-- a time-out leaves the collections and takes no file
pub timeout_leaves : (found : Option Transfer) (port : ℕ) (s : Table) → Leaves (timeout_at found port s) s
timeout_leaves (Some t) port s = waits_leaves t.end port t.peer s
timeout_leaves None port s = (refl, refl)

-- a whole file is taken only if everything is granted
come_takes : (grant : Grant) (port : ℕ) (peer : Endpoint) (file : List ℕ) (r : Receiver) (out : Option (List ℕ)) (s : Table) →
    TakesOrLeaves grant (λ maps. file_come grant maps port peer file r out s) s
come_takes all port peer file r out s = inr (record { peer = peer; file = file }, (λ maps. (refl, refl)), refl)
come_takes no_memory port peer file r out s = leaves no_memory _ s (refl, refl)
come_takes unkept port peer file r out s = leaves unkept _ s (refl, refl)

file_takes : (file : Option (List ℕ)) (grant : Grant) (port : ℕ) (peer : Endpoint) (r : Receiver) (out : Option (List ℕ)) (s : Table) →
    TakesOrLeaves grant (λ maps. file_asked file grant maps port peer r out s) s
file_takes (Some file) grant port peer r out s = come_takes grant port peer file r out s
file_takes None grant port peer r out s = leaves grant _ s (refl, refl)

block_takes : (result : Result (Option (List ℕ)) RecvFault) (grant : Grant) (port : ℕ) (peer : Endpoint) (r : Receiver) (s : Table) →
    TakesOrLeaves grant (λ maps. block_answered result grant maps port peer r s) s
block_takes (Ok out) grant port peer r s =
    file_takes (receiver_take r).file grant port peer (receiver_take r).receiver out s
block_takes (Err e) grant port peer r s = leaves grant _ s (refl, refl)

data_takes : (end : End) (grant : Grant) (port : ℕ) (peer : Endpoint) (n : ℕ) (body : List ℕ) (s : Table) →
    TakesOrLeaves grant (λ maps. data_at end grant maps port peer n body s) s
data_takes (sending e) grant port peer n body s = leaves grant _ s (refl, refl)
data_takes (receiving r) grant port peer n body s =
    let a = receiver_data (memory_verdict grant) n body r in
    block_takes (answer_of a.result) grant port peer a.receiver s

-- an ACK leaves the collections and takes no file
pub ack_leaves : (end : End) (port : ℕ) (peer : Endpoint) (n : ℕ) (s : Table) → Leaves (ack_at end port peer n s) s
ack_leaves (sending e) port peer n s = sender_leaves (sender_ack n e).sender.state port peer (sender_ack n e) s
ack_leaves (receiving r) port peer n s = (refl, refl)

received_takes : (transfer_input : Input) (grant : Grant) (port : ℕ) (from : Endpoint) (t : Transfer) (s : Table) →
    TakesOrLeaves grant (λ maps. transfer_by_input transfer_input grant maps port from t s) s
received_takes nothing grant port from t s = leaves grant _ s (refl, refl)
received_takes stray grant port from t s = leaves grant _ s (refl, refl)
received_takes (refusal code) grant port from t s = leaves grant _ s (refl, refl)
received_takes (acked n) grant port from t s = leaves grant _ s (ack_leaves t.end port t.peer n s)
received_takes (block n body) grant port from t s = data_takes t.end grant port t.peer n body s

-- a datagram at a port leaves the collections, or takes a file
pub found_takes : (found : Option Transfer) (grant : Grant) (port : ℕ) (from : Endpoint) (bytes : List ℕ) (s : Table) →
    TakesOrLeaves grant (λ maps. datagram_at found grant maps port from bytes s) s
found_takes (Some t) grant port from bytes s = received_takes (transfer_input t.peer from bytes) grant port from t s
found_takes None grant port from bytes s = leaves grant _ s (refl, refl)

-- ---- an event

-- no file is taken and the collections remain
abbrev pub Remain : (w v : World) → Type 0
Remain w v = (v.taken ≡ w.taken) × (v.server.maps ≡ w.server.maps)

-- The world after the event, by the collections that a file would make: either they remain, or a file is taken, which
-- makes them, and this holds of what was granted.
abbrev pub TakesOrRemain : (Granted : Type 0) → World → (Maps → World) → Type 0
TakesOrRemain Granted w v =
    ((one : World) × Remain w one × ((maps : Maps) → v maps ≡ one))
    ⊎ ((t : Taken) × ((maps : Maps) → ((v maps).taken ≡ w.taken ++ t ∷ []) × ((v maps).server.maps ≡ maps)) × Granted)

-- a delivery takes a file only if everything is granted
abbrev pub GrantedBy : Event → Grant → Type 0
GrantedBy (unknown_keep index found) grant = Unit {0}
GrantedBy event grant = grant ≡ all

-- a world that remains whatever a file would make
remains : (Granted : Type 0) (w one : World) → Remain w one → TakesOrRemain Granted w (λ maps. one)
remains Granted w one is = inl (one, is, λ maps. refl)

pub unkept_other : unkept ≡ all → ⊥
unkept_other e = cc

-- an answer without a keep leaves a world of which only the network differs
module _ (w : World) where
  ends_remain : (t : Taken) (d : Datagram) →
      TakesOrLeaves unkept (λ maps. table_datagram unkept maps d.target.port d.source d.bytes w.server) w.server →
      TakesOrRemain (Unit {0}) w (λ maps. ends false t maps d w)
  ends_remain t d (inl stays) =
      inl (
        record w {
          server = record { request = w.server.request; maps = w.server.maps; live = [] };
          past = record w.past { net = net_with w.home.host w.net stays.0.step.out };
        },
        (refl, refl),
        λ maps. ap (λ (a : TableAnswer). record w {
          server = record { request = w.server.request; maps = w.server.maps; live = [] };
          past = record w.past { net = net_with w.home.host w.net a.step.out };
        }) (stays.2 maps),
      )
  ends_remain t d (inr takes) = absurd (unkept_other takes.2)

module _ (w : World) where
  -- a begin takes no file
  pub begins_remain : (ours long : Bool) (e : Endpoint) (operation : Operation) → Remain w (begins_unless ours long e operation w)
  begins_remain true long e operation = (refl, refl)
  begins_remain false true e operation = (refl, refl)
  begins_remain false false e operation = (refl, refl)

  -- a request takes no file
  pub request_remains : (used : Bool) (live : Option Transfer) (spare : ℕ) (grant : Grant) (d : Datagram) → Remain w (request_comes used live spare grant d w)
  request_remains true live spare grant d = (refl, refl)
  request_remains false (Some t) spare grant d = (refl, refl)
  request_remains false None spare grant d =
      (refl, (decoded_leaves (memory_verdict grant) spare d.source (decode_bytes d.bytes) w.server).1)

  -- the server's answer, in the world
  answer_takes : (grant : Grant) (a : Maps → TableAnswer) → TakesOrLeaves grant a w.server →
      TakesOrRemain (grant ≡ all) w (λ maps. world.after_transfer (a maps) w)
  answer_takes grant a (inl leaves) =
      inl (
        world.after_transfer leaves.0 w,
        (ap (λ (x : Option Taken). world.taken_with x w.taken) leaves.1.0, leaves.1.1),
        λ maps. ap (λ (b : TableAnswer). world.after_transfer b w) (leaves.2 maps),
      )
  answer_takes grant a (inr takes) =
      inr (
        takes.0,
        (λ maps. (ap (λ (x : Option Taken). world.taken_with x w.taken) (takes.1 maps).0, (takes.1 maps).1)),
        takes.2,
      )

  -- a datagram at the server's host
  server_takes : (request : Bool) (spare : ℕ) (grant : Grant) (d : Datagram) →
      TakesOrRemain (grant ≡ all) w (λ maps. server_receives request spare grant maps d w)
  server_takes true spare grant d =
      remains (grant ≡ all) w _ (request_remains (spare == w.server.request) (transfer_at spare w.server) spare grant d)
  server_takes false spare grant d =
      answer_takes grant (λ maps. table_datagram grant maps d.target.port d.source d.bytes w.server)
      (found_takes (transfer_at d.target.port w.server) grant d.target.port d.source d.bytes w.server)

  -- a client takes no file
  pub client_remains : (found : Option Client) (grant : Grant) (d : Datagram) → Remain w (client_receives found grant d w)
  client_remains None grant d = (refl, refl)
  client_remains (Some c) grant d = (refl, refl)

  -- a datagram at any host
  arrives_takes : (ours : Bool) (spare : ℕ) (grant : Grant) (d : Datagram) → TakesOrRemain (grant ≡ all) w (λ maps. arrives ours spare grant maps d w)
  arrives_takes true spare grant d = server_takes (d.target.port == w.server.request) spare grant d
  arrives_takes false spare grant d = remains (grant ≡ all) w _ (client_remains (client_at d.target w) grant d)

  -- a delivery
  delivers_takes : (found : Option Datagram) (spare : ℕ) (grant : Grant) → TakesOrRemain (grant ≡ all) w (λ maps. delivers found spare grant maps w)
  delivers_takes None spare grant = remains (grant ≡ all) w _ (refl, refl)
  delivers_takes (Some d) spare grant = arrives_takes (d.target.host == w.home.host) spare grant d

  -- a client's time-out takes no file
  pub waits_remain : (found : Option Client) (e : Endpoint) → Remain w (client_waits found e w)
  waits_remain None e = (refl, refl)
  waits_remain (Some c) e = (refl, refl)

  -- a stray takes no file
  pub strays_remain : (ours begun : Bool) (d : Datagram) → Remain w (strays_unless ours begun d w)
  strays_remain true begun d = (refl, refl)
  strays_remain false true d = (refl, refl)
  strays_remain false false d = (refl, refl)

  -- a keep whose outcome is unknown: what is sent does not depend on the collections that the file makes
  ends_takes : (found : Bool) (t : Taken) (d : Datagram) → TakesOrRemain (Unit {0}) w (λ maps. ends found t maps d w)
  ends_takes true t d = inr (t, (λ maps. (refl, refl)), tt)
  ends_takes false t d = ends_remain w t d (found_takes (transfer_at d.target.port w.server) unkept d.target.port d.source d.bytes w.server)

  ends_if_takes : (found : Bool) (d : Datagram) (file : Option Taken) → TakesOrRemain (Unit {0}) w (λ maps. ends_if file found maps d w)
  ends_if_takes found d None = remains (Unit {0}) w w (refl, refl)
  ends_if_takes found d (Some t) = ends_takes found t d

  ends_at_takes : (found : Bool) (sent : Option Datagram) → TakesOrRemain (Unit {0}) w (λ maps. ends_at sent found maps w)
  ends_at_takes found None = remains (Unit {0}) w w (refl, refl)
  ends_at_takes found (Some d) = ends_if_takes found d (wanted_of (d.target.host == w.home.host) d w)

  -- any event
  event_takes : (event : Event) (grant : Grant) → TakesOrRemain (GrantedBy event grant) w (λ maps. event_happens event grant maps w)
  event_takes (begin e operation) grant =
      remains (grant ≡ all) w _ (begins_remain (e.host == w.home.host) (is_too_long operation) e operation)
  event_takes (deliver index spare) grant = delivers_takes (slice_get w.net index) spare grant
  event_takes (client_times_out e) grant = remains (grant ≡ all) w _ (waits_remain (client_at e w) e)
  event_takes (server_times_out port) grant =
      answer_takes grant (λ maps. table_timeout port w.server)
      (leaves grant _ w.server (timeout_leaves (transfer_at port w.server) port w.server))
  event_takes (world.stray d) grant =
      remains (grant ≡ all) w _ (strays_remain (d.source.host == w.home.host) (has_begun d.source w.begun) d)
  event_takes restart grant = remains (grant ≡ all) w _ (refl, refl)
  event_takes (unknown_keep index found) grant = ends_at_takes found (slice_get w.net index)

-- whatever collections a file would make
pub event-takes : (w : World) (event : Event) (grant : Grant) → TakesOrRemain (GrantedBy event grant) w (λ maps. event_happens event grant maps w)
event-takes w event grant = event_takes w event grant

-- ---- a step

-- no file is taken and the collections remain, or a file is taken and this holds of what was granted
abbrev pub StepTakes : (Granted : Type 0) → (w v : World) → Type 0
StepTakes Granted w v = Remain w v ⊎ ((t : Taken) × (v.taken ≡ w.taken ++ t ∷ []) × Granted)

-- with the collections that a file makes
step_by : (w : World) (Granted : Type 0) (v : Maps → World) (maps : Maps) → TakesOrRemain Granted w v → StepTakes Granted w (v maps)
step_by w Granted v maps (inl remain) = inl (subst (Remain w) (sym (remain.2 maps)) remain.1)
step_by w Granted v maps (inr takes) = inr (takes.0, (takes.1 maps).0, takes.2)

-- a step takes no file and leaves the collections, or takes one
pub step-takes : (w : World) (s : WorldStep) → StepTakes (GrantedBy s.event s.grant) w (happens s w)
step-takes w s = step_by w (GrantedBy s.event s.grant) _ s.maps (event-takes w s.event s.grant)
