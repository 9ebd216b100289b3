-- The body of a DATA that is decoded is no longer than a block, and each ERROR that is sent reads back.
use Rattle.std.proofs.Common.{◌≡◌, ℕ, ◌+◌, ◌≤◌, Bool, true, false, ◌==◌, nat_lt, cond, List, length, drop, Result, Ok, Err, IfOk, refl, subst, arith, length-drop}
use Rattle.std.proofs.lemmas.Bool.{ltb-false}
use Rattle.byteorder.specs.Endian.{big_number}
use Rattle.tftp_packet.specs.declared.sizes.TheConstants.{BLOCK_SIZE, MAX_DATAGRAM}
use Rattle.tftp_packet.specs.declared.packet_fault.PacketFault.{PacketFault}
use Rattle.tftp_packet.specs.declared.packet_fault.PacketFault.TheVariants.{Short, TooLong, BadOpcode, BadRequest, BadBlock, BadError}
use Rattle.tftp_packet.specs.declared.refusal.Refusal.{Refusal}
use Rattle.tftp_packet.specs.declared.refusal.Refusal.TheVariants.{OctetOnly, NoSuchFile, ServerBusy, CollectionTooLong, OutOfMemory, FileTooLong, UnknownTransfer, NotKept}
use Rattle.tftp_packet.specs.Packet.{Packet, read, write, data_block, ack, error, zero_count, HasPacketFields, encode}
use Rattle.tftp_packet.specs.Refusal.{refusal_packet}
use Rattle.tftp_packet.specs.Decode.{request_of, data_of, ack_of, error_of, packet_from, decode_bytes}
use Rattle.tftp_packet.proofs.Packets.{decode_bytes-encode}

-- ---- how long the body of a DATA is

-- the body of a DATA is no longer than a block
abbrev HasShortBody : Packet → Type 0
HasShortBody (read name mode) = Unit {0}
HasShortBody (write name mode) = Unit {0}
HasShortBody (data_block n body) = length body ≤ BLOCK_SIZE
HasShortBody (ack n) = Unit {0}
HasShortBody (error code text) = Unit {0}

-- a result whose body, if it has one, is short
record IsShort (answer : Result Packet PacketFault) : Type 0 where
  short : IfOk answer HasShortBody

none_short : (e : PacketFault) → IsShort (Err e)
none_short e = record { short = tt }

either_short : (b : Bool) (x y : Result Packet PacketFault) → IsShort x → IsShort y → IsShort (cond b x y)
either_short true x y first second = first
either_short false x y first second = second

-- what follows the opcode
module _ (rest : List ℕ) (size : length rest ≤ BLOCK_SIZE + 2) where
  -- a DATA
  data_short : IsShort (data_of rest)
  data_short =
      either_short (nat_lt (length rest) 2) (Err BadBlock) (Ok (data_block (big_number 2 rest) (drop 2 rest))) (none_short BadBlock) (record { short = omega (arith, length-drop 2 rest) })

  read_short : IsShort (request_of read rest)
  read_short = either_short (nat_lt (zero_count rest) 2) (Err BadRequest) _ (none_short BadRequest) (record { short = tt })

  write_short : IsShort (request_of write rest)
  write_short = either_short (nat_lt (zero_count rest) 2) (Err BadRequest) _ (none_short BadRequest) (record { short = tt })

  ack_short : IsShort (ack_of rest)
  ack_short = either_short (length rest == 2) (Ok (ack (big_number 2 rest))) (Err BadBlock) (record { short = tt }) (none_short BadBlock)

  error_short : IsShort (error_of rest)
  error_short = either_short (zero_count (drop 2 rest) == 0) (Err BadError) _ (none_short BadError) (record { short = tt })

  -- whatever the opcode
  packet_short : (opcode : ℕ) → IsShort (packet_from opcode rest)
  packet_short opcode =
      either_short (opcode == 1) _ _ read_short
      (either_short (opcode == 2) _ _ write_short
      (either_short (opcode == 3) _ _ data_short
      (either_short (opcode == 4) _ _ ack_short (either_short (opcode == 5) _ _ error_short (none_short BadOpcode)))))

-- bytes that fit in a datagram: a longer body would make them too long
long_short : (bytes : List ℕ) (b : Bool) → nat_lt MAX_DATAGRAM (length bytes) ≡ b → IsShort (cond b (Err TooLong) (packet_from (big_number 2 bytes) (drop 2 bytes)))
long_short bytes true is = none_short TooLong
long_short bytes false is =
    let size : length bytes ≤ MAX_DATAGRAM = ltb-false _ _ is in
    packet_short (drop 2 bytes) (omega (arith, length-drop 2 bytes)) (big_number 2 bytes)

-- the body of any decoded packet is short
decode_short : (bytes : List ℕ) → IsShort (decode_bytes bytes)
unfolding decode_bytes
decode_short bytes =
    either_short (nat_lt (length bytes) 2) (Err Short) _ (none_short Short)
    (long_short bytes (nat_lt MAX_DATAGRAM (length bytes)) refl)

-- the body of a decoded DATA is no longer than a block
pub data_size : (bytes : List ℕ) (n : ℕ) (body : List ℕ) → decode_bytes bytes ≡ Ok (data_block n body) → length body ≤ BLOCK_SIZE
data_size bytes n body e = (subst IsShort e (decode_short bytes)).short

-- ---- the refusals

-- the fields of each ERROR that is sent are in range
refusal-fields : (refusal : Refusal) → HasPacketFields (refusal_packet refusal)
refusal-fields OctetOnly = (omega arith, refl)
refusal-fields NoSuchFile = (omega arith, refl)
refusal-fields ServerBusy = (omega arith, refl)
refusal-fields CollectionTooLong = (omega arith, refl)
refusal-fields OutOfMemory = (omega arith, refl)
refusal-fields FileTooLong = (omega arith, refl)
refusal-fields UnknownTransfer = (omega arith, refl)
refusal-fields NotKept = (omega arith, refl)

-- each ERROR that is sent reads back
pub sent_refusal : (refusal : Refusal) → decode_bytes (encode (refusal_packet refusal)) ≡ Ok (refusal_packet refusal)
sent_refusal OctetOnly = decode_bytes-encode (refusal_packet OctetOnly) (refusal-fields OctetOnly) (omega arith)
sent_refusal NoSuchFile = decode_bytes-encode (refusal_packet NoSuchFile) (refusal-fields NoSuchFile) (omega arith)
sent_refusal ServerBusy = decode_bytes-encode (refusal_packet ServerBusy) (refusal-fields ServerBusy) (omega arith)
sent_refusal CollectionTooLong = decode_bytes-encode (refusal_packet CollectionTooLong) (refusal-fields CollectionTooLong) (omega arith)
sent_refusal OutOfMemory = decode_bytes-encode (refusal_packet OutOfMemory) (refusal-fields OutOfMemory) (omega arith)
sent_refusal FileTooLong = decode_bytes-encode (refusal_packet FileTooLong) (refusal-fields FileTooLong) (omega arith)
sent_refusal UnknownTransfer = decode_bytes-encode (refusal_packet UnknownTransfer) (refusal-fields UnknownTransfer) (omega arith)
sent_refusal NotKept = decode_bytes-encode (refusal_packet NotKept) (refusal-fields NotKept) (omega arith)
