-- What a packet means to an end of a transfer: from its peer, and from any other endpoint. RFC 1350 section 4.
use Rattle.std.specs.Prelude.{ℕ, Bool, true, false, List}
use Rattle.tftp_packet.specs.Packet.{Packet, read, write, data_block, ack, error}

pub data Input : Type 0 where
  -- it has no effect
  nothing : Input
  -- a packet other than an ERROR, from an endpoint other than the peer
  stray : Input
  -- an ERROR with this code from the peer
  refusal : (code : ℕ) → Input
  -- ACK n from the peer
  acked : (n : ℕ) → Input
  -- DATA n from the peer, with this body
  block : (n : ℕ) (body : List ℕ) → Input

abbrev pub input_from_peer : Packet → Input
input_from_peer (read name mode) = nothing
input_from_peer (write name mode) = nothing
input_from_peer (data_block n body) = block n body
input_from_peer (ack n) = acked n
input_from_peer (error code text) = refusal code

-- An ERROR is never answered with an ERROR.
abbrev pub input_from_other : Packet → Input
input_from_other (read name mode) = stray
input_from_other (write name mode) = stray
input_from_other (data_block n body) = stray
input_from_other (ack n) = stray
input_from_other (error code text) = nothing

-- whether it comes from the peer
abbrev pub input_of_packet : (same : Bool) → Packet → Input
input_of_packet true packet = input_from_peer packet
input_of_packet false packet = input_from_other packet
