-- A datagram at a port has the effect of its packet there.
use Rattle.std.specs.Prelude.{◌≡◌, ℕ, List, Option, None, Some, Ok, Err}
use Rattle.std.proofs.Common.{refl, ap, subst}
use Rattle.tftp_packet.specs.declared.endpoint.Endpoint.{Endpoint}
use Rattle.tftp_packet.specs.declared.packet_fault.PacketFault.{PacketFault}
use Rattle.tftp_packet.specs.Packet.{Packet}
use Rattle.tftp_packet.specs.Decode.{decode_bytes}
use Rattle.archive_table.specs.declared.step_event.StepEvent.{StepEvent}
use Rattle.archive_table.specs.Events.{IsInputEvent, IsPacketEvent, IsDatagramEvent}
use Rattle.archive_table.specs.Table.{Step, Grant, Maps, Table, Transfer, table_stays, transfer_at, transfer_by_input, transfer_input_decoded, datagram_at, table_datagram}
use Rattle.archive_table.specs.Steps.{packet_live}

-- bytes that were received at a port
module _ (grant : Grant) (maps : Maps) (port : ℕ) (from : Endpoint) (bytes : List ℕ) (s : Table) where
  come_at : (t : Option Transfer) (packet : Packet) → Ok packet ≡ decode_bytes bytes → packet_live t grant maps port from packet s ≡ datagram_at t grant maps port from bytes s
  come_at (Some t) packet is = ap (λ r. transfer_by_input (transfer_input_decoded t.peer from r) grant maps port from t s) is
  come_at None packet is = refl

  -- they have the effect of the packet that they are decoded as
  pub packet_come : (packet : Packet) → Ok packet ≡ decode_bytes bytes → packet_live (transfer_at port s) grant maps port from packet s ≡ table_datagram grant maps port from bytes s
  packet_come packet is = come_at (transfer_at port s) packet is

  none_at : (t : Option Transfer) (fault : PacketFault) → Err fault ≡ decode_bytes bytes → table_stays s ≡ datagram_at t grant maps port from bytes s
  none_at (Some t) fault is = ap (λ r. transfer_by_input (transfer_input_decoded t.peer from r) grant maps port from t s) is
  none_at None fault is = refl

  -- bytes that are no packet have no effect
  pub nothing_come : (fault : PacketFault) → Err fault ≡ decode_bytes bytes → table_stays s ≡ table_datagram grant maps port from bytes s
  nothing_come fault is = none_at (transfer_at port s) fault is

-- what a step did with the packet that bytes are decoded as, it did with the bytes
pub event_come : (t : Option Transfer) (from : Endpoint) (bytes : List ℕ) (old new : Maps) (step : Step) (event : StepEvent) (packet : Packet) →
    Ok packet ≡ decode_bytes bytes → IsPacketEvent t from packet old new step event → IsDatagramEvent t from bytes old new step event
event_come (Some t) from bytes old new step event packet is h = subst (λ r. IsInputEvent (transfer_input_decoded t.peer from r) t.end old new step event) is h
event_come None from bytes old new step event packet is h = h
