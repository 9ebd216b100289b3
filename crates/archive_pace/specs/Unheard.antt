-- The ports at which nothing was received since they were opened, and what may be sent from them.
use Rattle.std.specs.Prelude.{ℕ, ◌+◌, ◌==◌, nat_lt, Bool, true, false, List, [], ◌∷◌, ◌++◌, length, if◌then◌else◌, Option, None, Some, Result, Ok, Err}
use Rattle.std.specs.List.{find}
use Rattle.tftp_packet.specs.Packet.{Packet, read, write, data_block, ack, error}
use Rattle.tftp_packet.specs.declared.packet_fault.PacketFault.{PacketFault}
use Rattle.archive_pace.specs.declared.unheard.Silent.{Silent}
use Rattle.archive_pace.specs.declared.limits.TheConstants.{TRIES, UNHEARD}

-- whether a packet is the first block of a file
abbrev pub begins_file : Result Packet PacketFault → Bool
begins_file (Ok (read name mode)) = false
begins_file (Ok (write name mode)) = false
begins_file (Ok (data_block block body)) = block == 1
begins_file (Ok (ack block)) = false
begins_file (Ok (error code text)) = false
begins_file (Err e) = false

abbrev pub silent_of : (port : ℕ) → List Silent → Option Silent
silent_of port ports = find (λ s. s.port == port) ports

abbrev pub without : (port : ℕ) → List Silent → List Silent
without port [] = []
without port (s ∷ ports) = if s.port == port then ports else s ∷ without port ports

abbrev pub added : Silent → List Silent → List Silent
added s ports = if nat_lt (length ports) UNHEARD then ports ++ s ∷ [] else ports

-- the ports with what is known of one of them now; one for which there is no room is not known
abbrev pub with_port : Silent → List Silent → List Silent
with_port s ports = added s (without s.port ports)

-- whether the first block may be sent from a port once more
abbrev pub may_send : Option Silent → Bool
may_send None = true
may_send (Some s) = nat_lt s.sent TRIES

-- the ports after it was asked for
abbrev pub after_sending : Option Silent → List Silent → List Silent
after_sending None ports = ports
after_sending (Some s) ports = if nat_lt s.sent TRIES then with_port (record s { sent = s.sent + 1 }) ports else ports
