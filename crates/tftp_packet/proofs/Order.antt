-- The fault of bytes is the first in the order.
use Rattle.std.proofs.Common.{◌≡◌, ℕ, ◌<◌, ◌≤◌, List, length, arith, inl, inr, ⊎_elim}
use Rattle.std.proofs.lemmas.Bool.{cases_lt}
use Rattle.byteorder.specs.Endian.{big_number}
use Rattle.tftp_packet.specs.declared.sizes.TheConstants.{MAX_DATAGRAM}
use Rattle.tftp_packet.specs.declared.packet_fault.PacketFault.{PacketFault}
use Rattle.tftp_packet.specs.declared.packet_fault.PacketFault.TheVariants.{Short, TooLong, BadOpcode, BadRequest, BadBlock, BadError}
use Rattle.tftp_packet.specs.Fault.{IsDatagramSize, HasPacketFault, Fails, check_of, IsFirstFault}

-- ---- a fault is the first

-- what the place of a fault says about the bytes' length and opcode
sized : (bytes : List ℕ) (e : PacketFault) → 2 < check_of e → HasPacketFault bytes e → IsDatagramSize bytes
sized bytes Short later fault = absurd (omega arith)
sized bytes TooLong later fault = absurd (omega arith)
sized bytes BadOpcode later fault = fault.1
sized bytes BadRequest later fault = fault.1
sized bytes BadBlock later fault = fault.1
sized bytes BadError later fault = fault.1

-- bytes with a fault other than the first have an opcode
long : (bytes : List ℕ) (e : PacketFault) → 1 < check_of e → HasPacketFault bytes e → 2 ≤ length bytes
long bytes Short later fault = absurd (omega arith)
long bytes TooLong later fault = omega (arith, fault.0)
long bytes BadOpcode later fault = fault.1.0
long bytes BadRequest later fault = fault.1.0
long bytes BadBlock later fault = fault.1.0
long bytes BadError later fault = fault.1.0

-- the opcodes for the faults that are checked from the fourth place on
opcode_place : (bytes : List ℕ) (e : PacketFault) → 3 < check_of e → Fails bytes e →
    (1 ≤ big_number 2 bytes) × (big_number 2 bytes ≤ 5) × (4 < check_of e → 3 ≤ big_number 2 bytes) ×
    (5 < check_of e → big_number 2 bytes ≡ 5)
opcode_place bytes Short later e = absurd (omega arith)
opcode_place bytes TooLong later e = absurd (omega arith)
opcode_place bytes BadOpcode later e = absurd (omega arith)
opcode_place bytes BadRequest later (inl one, cut) = (omega arith, omega arith, λ l. absurd (omega arith), λ l. absurd (omega arith))
opcode_place bytes BadRequest later (inr two, cut) = (omega arith, omega arith, λ l. absurd (omega arith), λ l. absurd (omega arith))
opcode_place bytes BadBlock later (inl (three, short)) = (omega arith, omega arith, λ l. omega arith, λ l. absurd (omega arith))
opcode_place bytes BadBlock later (inr (four, other)) = (omega arith, omega arith, λ l. omega arith, λ l. absurd (omega arith))
opcode_place bytes BadError later (five, none) = (omega arith, omega arith, λ l. omega arith, λ l. five)

-- bytes that have a fault have none that is checked before it
no_earlier : (bytes : List ℕ) (e d : PacketFault) → HasPacketFault bytes e → check_of d < check_of e → Fails bytes d → ⊥
no_earlier bytes e Short fault before d = absurd (omega (arith, long bytes e before fault))
no_earlier bytes e TooLong fault before d = absurd (omega (arith, (sized bytes e before fault).1))
no_earlier bytes e BadOpcode fault before d =
    let place = opcode_place bytes e before fault.0 in
    grind (arith, place.0, place.1)
no_earlier bytes e BadRequest fault before d =
    let place = opcode_place bytes e (omega arith) fault.0 in
    grind (arith, d.0, place.2 before)
no_earlier bytes e BadBlock fault before d =
    let place = opcode_place bytes e (omega arith) fault.0 in
    grind (arith, d, place.3 before)
no_earlier bytes Short BadError fault before d = absurd (omega arith)
no_earlier bytes TooLong BadError fault before d = absurd (omega arith)
no_earlier bytes BadOpcode BadError fault before d = absurd (omega arith)
no_earlier bytes BadRequest BadError fault before d = absurd (omega arith)
no_earlier bytes BadBlock BadError fault before d = absurd (omega arith)
no_earlier bytes BadError BadError fault before d = absurd (omega arith)

-- a fault of bytes is the first that its checks would find
pub first_fault : (bytes : List ℕ) (e : PacketFault) → HasPacketFault bytes e → IsFirstFault bytes e
first_fault bytes e fault =
    record { fails = fault.0; first = λ d before fail. no_earlier bytes e d fault before fail }

-- ---- the first is the fault

-- a fault checked from the third place on is one of bytes that fit in a datagram
looked_for : (bytes : List ℕ) (e : PacketFault) → 2 < check_of e → IsFirstFault bytes e → IsDatagramSize bytes
looked_for bytes e later fault =
    ⊎_elim
    (λ short. absurd (fault.first Short (omega arith) short))
    (λ long.
    ⊎_elim
    (λ over. absurd (fault.first TooLong (omega arith) over))
    (λ size. (long, size))
    (cases_lt MAX_DATAGRAM (length bytes)))
    (cases_lt (length bytes) 2)

-- the first fault that the checks find is the fault of the bytes
pub fault_first : (bytes : List ℕ) (e : PacketFault) → IsFirstFault bytes e → HasPacketFault bytes e
fault_first bytes Short fault = (fault.fails, tt)
fault_first bytes TooLong fault = (fault.fails, tt)
fault_first bytes BadOpcode fault = (fault.fails, looked_for bytes BadOpcode (omega arith) fault)
fault_first bytes BadRequest fault = (fault.fails, looked_for bytes BadRequest (omega arith) fault)
fault_first bytes BadBlock fault = (fault.fails, looked_for bytes BadBlock (omega arith) fault)
fault_first bytes BadError fault = (fault.fails, looked_for bytes BadError (omega arith) fault)
