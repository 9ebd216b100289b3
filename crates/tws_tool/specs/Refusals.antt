-- The text of the last ERROR that a client received, as far as it is kept.
use Rattle.std.specs.Prelude.{ℕ, List, take, Option, None, Some, Result, Ok, Err}
use Rattle.tftp_packet.specs.declared.endpoint.Endpoint.{Endpoint}
use Rattle.tftp_packet.specs.declared.packet_fault.PacketFault.{PacketFault}
use Rattle.tftp_packet.specs.Decode.{decode_bytes}
use Rattle.tftp_packet.specs.Packet.{Packet, read, write, data_block, ack, error}
use Rattle.tws_tool.specs.declared.refusal_wire.TheConstants.{REFUSAL}

-- once this was received: the text of an ERROR alone, and else the one before
abbrev pub refusal_after : (before : List ℕ) → Result Packet PacketFault → List ℕ
refusal_after before (Ok (read name mode)) = before
refusal_after before (Ok (write name mode)) = before
refusal_after before (Ok (data_block n body)) = before
refusal_after before (Ok (ack n)) = before
refusal_after before (Ok (error code text)) = take REFUSAL text
refusal_after before (Err e) = before

-- by what a call received, if it received anything, in a buffer that has these bytes
abbrev pub heard : {E : Type 0} → (before : List ℕ) → Result (Option (ℕ × Endpoint)) E → (buffer : List ℕ) → List ℕ
heard before (Ok None) buffer = before
heard before (Ok (Some got)) buffer = refusal_after before (decode_bytes (take got.0 buffer))
heard before (Err e) buffer = before
