-- The packet of bytes, or their fault, as a function.
use Rattle.std.specs.Prelude.{ℕ, ◌==◌, nat_lt, List, length, drop, Result, Ok, Err, if◌then◌else◌}
use Rattle.std.specs.List.{before_first, after_first}
use Rattle.byteorder.specs.Endian.{big_number}
use Rattle.tftp_packet.specs.declared.sizes.TheConstants.{MAX_DATAGRAM}
use Rattle.tftp_packet.specs.declared.packet_fault.PacketFault.{PacketFault}
use Rattle.tftp_packet.specs.declared.packet_fault.PacketFault.TheVariants.{Short, TooLong, BadOpcode, BadRequest, BadBlock, BadError}
use Rattle.tftp_packet.specs.Packet.{Packet, read, write, data_block, ack, error, is_zero, zero_count}

-- the bytes before the first zero byte, and those after it
abbrev pub before_zero : List ℕ → List ℕ
before_zero bytes = before_first is_zero bytes

abbrev pub after_zero : List ℕ → List ℕ
after_zero bytes = after_first is_zero bytes

-- from what follows the opcode of a request, a DATA, an ACK, an ERROR
abbrev pub request_of : (List ℕ → List ℕ → Packet) → List ℕ → Result Packet PacketFault
request_of make rest = if nat_lt (zero_count rest) 2 then Err BadRequest else Ok (make (before_zero rest) (before_zero (after_zero rest)))

abbrev pub data_of : List ℕ → Result Packet PacketFault
data_of rest = if nat_lt (length rest) 2 then Err BadBlock else Ok (data_block (big_number 2 rest) (drop 2 rest))

abbrev pub ack_of : List ℕ → Result Packet PacketFault
ack_of rest = if length rest == 2 then Ok (ack (big_number 2 rest)) else Err BadBlock

abbrev pub error_of : List ℕ → Result Packet PacketFault
error_of rest = if zero_count (drop 2 rest) == 0 then Err BadError else Ok (error (big_number 2 rest) (before_zero (drop 2 rest)))

abbrev pub packet_from : (opcode : ℕ) (rest : List ℕ) → Result Packet PacketFault
packet_from opcode rest =
    if opcode == 1 then request_of read rest else (
    if opcode == 2 then request_of write rest else (
    if opcode == 3 then data_of rest else (
    if opcode == 4 then ack_of rest else (
    if opcode == 5 then error_of rest else Err BadOpcode))))

unfoldable pub decode_bytes : List ℕ → Result Packet PacketFault
decode_bytes bytes =
    if nat_lt (length bytes) 2 then Err Short else (
    if nat_lt MAX_DATAGRAM (length bytes) then Err TooLong else
    packet_from (big_number 2 bytes) (drop 2 bytes))
