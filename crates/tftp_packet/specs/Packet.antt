-- What a TFTP datagram is: the five packets, and the bytes of each (RFC 1350 section 5). docs/FORMATS.md has the same
-- as tables. Every number is big-endian.
use Rattle.std.specs.Prelude.{◌≡◌, ℕ, ◌+◌, ◌<◌, ◌≤◌, ◌^◌, Bool, ◌==◌, List, [], ◌∷◌, ◌++◌, length, map, count_by, codes}
use Rattle.std.specs.Str.{bytes_eq}
use Rattle.std.specs.Char.{to_ascii_lowercase}
use Rattle.byteorder.specs.Endian.{big_bytes}
use Rattle.tftp_packet.specs.declared.sizes.TheConstants.{BLOCK_SIZE, MAX_DATAGRAM}

pub data Packet : Type 0 where
  -- a request to read a file, RRQ
  read : (name mode : List ℕ) → Packet
  -- a request to write a file, WRQ
  write : (name mode : List ℕ) → Packet
  -- a block of a file with its number, DATA
  data_block : (block : ℕ) (body : List ℕ) → Packet
  -- acknowledges a block, ACK
  ack : (block : ℕ) → Packet
  error : (code : ℕ) (text : List ℕ) → Packet

-- ---- texts

abbrev pub is_zero : ℕ → Bool
is_zero b = b == 0

abbrev pub zero_count : List ℕ → ℕ
zero_count bytes = count_by is_zero bytes

-- for a name, a mode and a text, which a zero byte ends
abbrev pub HasNoZero : List ℕ → Type 0
HasNoZero text = zero_count text ≡ 0

-- the mode in which a file's bytes are transferred unchanged
abbrev pub octet : List ℕ
octet = codes "octet"

-- these five letters, each in lower case or upper case
abbrev pub IsOctet : List ℕ → Type 0
IsOctet mode = map to_ascii_lowercase mode ≡ octet

-- the same as a test
abbrev pub is_octet : (mode : List ℕ) → Bool
is_octet mode = bytes_eq (map to_ascii_lowercase mode) octet

-- ---- the forms of the packets

abbrev pub request_bytes : (opcode : ℕ) (name mode rest : List ℕ) → List ℕ
request_bytes opcode name mode rest = big_bytes 2 opcode ++ (name ++ 0 ∷ (mode ++ 0 ∷ rest))

abbrev pub data_bytes : (block : ℕ) (body : List ℕ) → List ℕ
data_bytes block body = big_bytes 2 3 ++ (big_bytes 2 block ++ body)

abbrev pub ack_bytes : (block : ℕ) → List ℕ
ack_bytes block = big_bytes 2 4 ++ big_bytes 2 block

abbrev pub error_bytes : (code : ℕ) (text rest : List ℕ) → List ℕ
error_bytes code text rest = big_bytes 2 5 ++ (big_bytes 2 code ++ (text ++ 0 ∷ rest))

-- Any bytes may follow a request's mode, such as the options of RFC 2347, or an ERROR's text.
abbrev pub HasForm : Packet → List ℕ → Type 0
HasForm (read name mode) bytes = (rest : List ℕ) × (bytes ≡ request_bytes 1 name mode rest)
HasForm (write name mode) bytes = (rest : List ℕ) × (bytes ≡ request_bytes 2 name mode rest)
HasForm (data_block block body) bytes = bytes ≡ data_bytes block body
HasForm (ack block) bytes = bytes ≡ ack_bytes block
HasForm (error code text) bytes = (rest : List ℕ) × (bytes ≡ error_bytes code text rest)

-- which fields a packet can have
abbrev pub HasPacketFields : Packet → Type 0
HasPacketFields (read name mode) = HasNoZero name × HasNoZero mode
HasPacketFields (write name mode) = HasNoZero name × HasNoZero mode
HasPacketFields (data_block block body) = (block < 2 ^ 16) × (length body ≤ BLOCK_SIZE)
HasPacketFields (ack block) = block < 2 ^ 16
HasPacketFields (error code text) = (code < 2 ^ 16) × HasNoZero text

-- the bytes are this packet
pub record IsPacket (packet : Packet) (bytes : List ℕ) : Type 0 where
  pub fields : HasPacketFields packet
  pub size : length bytes ≤ MAX_DATAGRAM
  pub form : HasForm packet bytes

-- ---- what is sent

-- how many bytes it takes to send the packet
abbrev pub packet_size : Packet → ℕ
packet_size (read name mode) = 4 + length name + length mode
packet_size (write name mode) = 4 + length name + length mode
packet_size (data_block block body) = 4 + length body
packet_size (ack block) = 4
packet_size (error code text) = 5 + length text

-- the packet's bytes, with nothing after them
unfoldable pub encode : Packet → List ℕ
encode (read name mode) = request_bytes 1 name mode []
encode (write name mode) = request_bytes 2 name mode []
encode (data_block block body) = data_bytes block body
encode (ack block) = ack_bytes block
encode (error code text) = error_bytes code text []
