-- What `decode` returns, from the function that its result is.
use Rattle.std.proofs.Common.{◌≡◌, ℕ, List, sym, ◌∙◌, ap, Result, Ok, Err, IfOk, IfErr}
use Rattle.std.specs.Result.{IsOkAnd}
use Rattle.tftp_packet.specs.declared.packet.Packet as borrowed
use Rattle.tftp_packet.specs.declared.packet_fault.PacketFault.{PacketFault}
use Rattle.byte_output.specs.Bytes.{IsBytes}
use Rattle.tftp_packet.specs.Packet.{Packet, IsPacket}
use Rattle.tftp_packet.specs.Fault.{HasPacketFault}
use Rattle.tftp_packet.specs.Decode.{decode_bytes}
use Rattle.tftp_packet.specs.View.{packet_of, decoded_of}
use Rattle.tftp_packet.proofs.Packets.{decoded_packet, decoded_fault, decode_bytes-packet, decode_bytes-fault}

-- a packet that is returned is the packet of the bytes
pub answer_packet : (bytes : List ℕ) (answer : Result borrowed.Packet PacketFault) → IsBytes bytes → decoded_of answer ≡ decode_bytes bytes → IfOk answer (λ p. IsPacket (packet_of p) bytes)
answer_packet bytes (Ok p) fits exact = decoded_packet bytes (packet_of p) fits (sym exact)
answer_packet bytes (Err e) fits exact = tt

-- bytes that are a packet are not refused
pub answer_accepts : (bytes : List ℕ) (answer : Result borrowed.Packet PacketFault) → decoded_of answer ≡ decode_bytes bytes → (p : Packet) → IsPacket p bytes → IsOkAnd answer (λ q. packet_of q ≡ p)
answer_accepts bytes (Ok q) exact p packet =
    let same = exact ∙ decode_bytes-packet p bytes packet in
    cc
answer_accepts bytes (Err e) exact p packet =
    let same = exact ∙ decode_bytes-packet p bytes packet in
    absurd cc

-- a fault that is returned is one of the bytes
pub answer_fault : (bytes : List ℕ) (answer : Result borrowed.Packet PacketFault) → IsBytes bytes → decoded_of answer ≡ decode_bytes bytes → IfErr answer (HasPacketFault bytes)
answer_fault bytes (Ok p) fits exact = tt
answer_fault bytes (Err e) fits exact = decoded_fault bytes e fits (sym exact)

-- bytes that have a fault are refused with it
pub answer_refuses : (bytes : List ℕ) (answer : Result borrowed.Packet PacketFault) → decoded_of answer ≡ decode_bytes bytes → (e : PacketFault) → HasPacketFault bytes e → answer ≡ Err e
answer_refuses bytes (Ok p) exact e fault =
    let same = exact ∙ decode_bytes-fault bytes e fault in
    absurd cc
answer_refuses bytes (Err d) exact e fault =
    let same = exact ∙ decode_bytes-fault bytes e fault in
    let one : d ≡ e = cc in
    ap Err one
