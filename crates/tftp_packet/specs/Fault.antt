-- The fault of bytes that are not a packet. docs/FORMATS.md has the same as a table.
use Rattle.std.specs.Prelude.{◌≡◌, ◌≢◌, ◌⊎◌, ℕ, ◌<◌, ◌≤◌, List, length, drop}
use Rattle.byteorder.specs.Endian.{big_number}
use Rattle.tftp_packet.specs.declared.sizes.TheConstants.{MAX_DATAGRAM}
use Rattle.tftp_packet.specs.declared.packet_fault.PacketFault.{PacketFault}
use Rattle.tftp_packet.specs.declared.packet_fault.PacketFault.TheVariants.{Short, TooLong, BadOpcode, BadRequest, BadBlock, BadError}
use Rattle.tftp_packet.specs.Packet.{zero_count, HasNoZero}

-- no packet begins with this opcode
abbrev pub IsUnknown : ℕ → Type 0
IsUnknown opcode = (opcode < 1) ⊎ (5 < opcode)

-- fewer than two zero bytes after the opcode: the name or the mode is not terminated
abbrev pub IsCutRequest : List ℕ → Type 0
IsCutRequest bytes = zero_count (drop 2 bytes) < 2

-- what each fault says about the bytes, whatever else is wrong with them
abbrev pub Fails : List ℕ → PacketFault → Type 0
Fails bytes Short = length bytes < 2
Fails bytes TooLong = MAX_DATAGRAM < length bytes
Fails bytes BadOpcode = IsUnknown (big_number 2 bytes)
Fails bytes BadRequest = ((big_number 2 bytes ≡ 1) ⊎ (big_number 2 bytes ≡ 2)) × IsCutRequest bytes
-- a DATA without its block number, or an ACK that is not exactly one
Fails bytes BadBlock = ((big_number 2 bytes ≡ 3) × (length bytes < 4)) ⊎ ((big_number 2 bytes ≡ 4) × (length bytes ≢ 4))
Fails bytes BadError = (big_number 2 bytes ≡ 5) × HasNoZero (drop 4 bytes)

-- an opcode can be read, and the bytes fit in a datagram
abbrev pub IsDatagramSize : List ℕ → Type 0
IsDatagramSize bytes = (2 ≤ length bytes) × (length bytes ≤ MAX_DATAGRAM)

-- the other faults are checked only for bytes of this size
abbrev pub IsLookedFor : List ℕ → PacketFault → Type 0
IsLookedFor bytes Short = Unit {0}
IsLookedFor bytes TooLong = Unit {0}
IsLookedFor bytes BadOpcode = IsDatagramSize bytes
IsLookedFor bytes BadRequest = IsDatagramSize bytes
IsLookedFor bytes BadBlock = IsDatagramSize bytes
IsLookedFor bytes BadError = IsDatagramSize bytes

abbrev pub HasPacketFault : List ℕ → PacketFault → Type 0
HasPacketFault bytes fault = Fails bytes fault × IsLookedFor bytes fault

-- ---- the order of the faults

-- the order of the checks
abbrev pub check_of : PacketFault → ℕ
check_of Short = 1
check_of TooLong = 2
check_of BadOpcode = 3
check_of BadRequest = 4
check_of BadBlock = 5
check_of BadError = 6

-- the bytes fail this check, and no earlier one
pub record IsFirstFault (bytes : List ℕ) (fault : PacketFault) : Type 0 where
  pub fails : Fails bytes fault
  pub first : (earlier : PacketFault) → check_of earlier < check_of fault → Fails bytes earlier → ⊥
