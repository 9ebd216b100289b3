-- The ERROR packets that this server and its clients send: the codes are those of RFC 1350 section 5, the messages
-- their own.
use Rattle.std.specs.Prelude.{ℕ, List, codes}
use Rattle.tftp_packet.specs.declared.refusal.Refusal.{Refusal}
use Rattle.tftp_packet.specs.declared.refusal.Refusal.TheVariants.{OctetOnly, NoSuchFile, ServerBusy, CollectionTooLong, OutOfMemory, FileTooLong, UnknownTransfer, NotKept}
use Rattle.tftp_packet.specs.Packet.{Packet, error}

-- 0 is not defined, 1 file not found, 3 disk full or allocation exceeded, 5 unknown transfer ID
abbrev pub refusal_code : Refusal → ℕ
refusal_code OctetOnly = 0
refusal_code NoSuchFile = 1
refusal_code ServerBusy = 0
refusal_code CollectionTooLong = 0
refusal_code OutOfMemory = 3
refusal_code FileTooLong = 3
refusal_code UnknownTransfer = 5
refusal_code NotKept = 0

abbrev pub refusal_text : Refusal → List ℕ
refusal_text OctetOnly = codes "octet only"
refusal_text NoSuchFile = codes "no such file"
refusal_text ServerBusy = codes "server busy"
refusal_text CollectionTooLong = codes "collection too long"
refusal_text OutOfMemory = codes "out of memory"
refusal_text FileTooLong = codes "file too long"
refusal_text UnknownTransfer = codes "unknown transfer"
refusal_text NotKept = codes "not kept"

abbrev pub refusal_packet : Refusal → Packet
refusal_packet refusal = error (refusal_code refusal) (refusal_text refusal)
