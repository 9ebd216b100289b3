-- The packet of bytes as a relation, and as a function.
use Rattle.std.proofs.Common.{◌≡◌, ◌⊎◌, ℕ, ◌+◌, ◌^◌, ◌<◌, ◌≤◌, List, [], ◌∷◌, ◌++◌, length, drop, refl, ap, ◌∙◌, subst, arith, inl, inr, ⊎_elim, Ok, Err, length-drop, length-append, drop-drop, zero, suc}
use Rattle.std.proofs.lemmas.Bool.{cases_lt, cases_eq, cond-false, le-ltb, ne_eqb}
use Rattle.std.proofs.lemmas.Bool.Decides.{nat_tests}
use Rattle.std.proofs.lemmas.List.{nil_from_length}
use Rattle.byteorder.specs.Endian.{big_bytes, big_number}
use Rattle.byteorder.specs.Numbers.{big_number-reads_back}
use Rattle.tftp_packet.specs.declared.packet_fault.PacketFault.{PacketFault}
use Rattle.tftp_packet.specs.declared.packet_fault.PacketFault.TheVariants.{Short, TooLong, BadOpcode, BadRequest, BadBlock, BadError}
use Rattle.byte_output.specs.Bytes.{IsBytes}
use Rattle.tftp_packet.specs.declared.sizes.TheConstants.{MAX_DATAGRAM}
use Rattle.tftp_packet.specs.Packet.{Packet, read, write, data_block, ack, error, HasNoZero, zero_count, HasForm, HasPacketFields, IsPacket, request_bytes, packet_size, encode}
use Rattle.tftp_packet.specs.Fault.{IsCutRequest, HasPacketFault}
use Rattle.tftp_packet.specs.Decode.{before_zero, after_zero, request_of, data_of, error_of, packet_from, decode_bytes}
use Rattle.byte_output.proofs.Bytes.{IsBytes-drop}
use Rattle.tftp_packet.proofs.Bytes.{number_first, big_number-fits}
use Rattle.tftp_packet.proofs.Zeros.{zero_count-ended, before_zero-ended, after_zero-ended, zero_cases}

-- ---- bytes with a fault

-- bytes with a fault are decoded as this fault
pub decode_bytes-fault : (bytes : List ℕ) (e : PacketFault) → HasPacketFault bytes e → decode_bytes bytes ≡ Err e
unfolding decode_bytes
decode_bytes-fault bytes Short fault = grind (arith, nat_tests)
decode_bytes-fault bytes TooLong fault = grind (arith, nat_tests)
decode_bytes-fault bytes BadOpcode fault = grind (arith, nat_tests)
decode_bytes-fault bytes BadRequest fault = grind (arith, nat_tests)
decode_bytes-fault bytes BadBlock fault = grind (arith, nat_tests, length-drop 2 bytes)
decode_bytes-fault bytes BadError fault = grind (arith, nat_tests)

-- ---- the bytes of a packet

-- a number in two bytes, and what follows it
after_number : (n : ℕ) (rest : List ℕ) → n < 2 ^ 16 → big_number 2 (big_bytes 2 n ++ rest) ≡ n
after_number n rest fits = big_number-reads_back 2 n rest fits

-- bytes that fit in a datagram are decoded by their opcode
decode_bytes-after : (opcode : ℕ) (rest : List ℕ) → opcode < 2 ^ 16 → length (big_bytes 2 opcode ++ rest) ≤ MAX_DATAGRAM → decode_bytes (big_bytes 2 opcode ++ rest) ≡ packet_from opcode rest
unfolding decode_bytes
decode_bytes-after opcode rest fits size =
    let long : 2 ≤ length (big_bytes 2 opcode ++ rest) = omega arith in
    let number = after_number opcode rest fits in
    grind (arith, nat_tests)

-- a request is read up to the zero byte that ends its mode
request_of-ended : (make : List ℕ → List ℕ → Packet) (name mode rest : List ℕ) → HasNoZero name → HasNoZero mode → request_of make (name ++ 0 ∷ (mode ++ 0 ∷ rest)) ≡ Ok (make name mode)
request_of-ended make name mode rest name_ends mode_ends =
    let after = mode ++ 0 ∷ rest in
    let count : 2 ≤ zero_count (name ++ 0 ∷ after) = omega (arith, zero_count-ended name after, zero_count-ended mode rest) in
    cond-false _ _ _ (le-ltb _ _ count)
    ∙ ap (λ (n : List ℕ). Ok (make n (before_zero (after_zero (name ++ 0 ∷ after))))) (before_zero-ended name after name_ends)
    ∙ ap (λ (m : List ℕ). Ok (make name (before_zero m))) (after_zero-ended name after name_ends)
    ∙ ap (λ (m : List ℕ). Ok (make name m)) (before_zero-ended mode rest mode_ends)

-- an ERROR is read up to the zero byte that ends its text
error_of-ended : (code : ℕ) (text rest : List ℕ) → code < 2 ^ 16 → HasNoZero text → error_of (big_bytes 2 code ++ (text ++ 0 ∷ rest)) ≡ Ok (error code text)
error_of-ended code text rest fits ends =
    let some : zero_count (text ++ 0 ∷ rest) ≡ 0 → ⊥ = λ e. absurd (omega (arith, zero_count-ended text rest)) in
    cond-false _ _ _ (ne_eqb _ _ some)
    ∙ ap (λ (n : ℕ). Ok (error n (before_zero (text ++ 0 ∷ rest)))) (after_number code (text ++ 0 ∷ rest) fits)
    ∙ ap (λ (t : List ℕ). Ok (error code t)) (before_zero-ended text rest ends)

-- a DATA is its block number and all bytes after it
data_of-block : (block : ℕ) (body : List ℕ) → block < 2 ^ 16 → data_of (big_bytes 2 block ++ body) ≡ Ok (data_block block body)
data_of-block block body fits =
    let long : 2 ≤ length (big_bytes 2 block ++ body) = omega arith in
    cond-false _ _ _ (le-ltb _ _ long)
    ∙ ap (λ (n : ℕ). Ok (data_block n body)) (after_number block body fits)

-- bytes that are a packet are decoded as that packet
pub decode_bytes-packet : (p : Packet) (bytes : List ℕ) → IsPacket p bytes → decode_bytes bytes ≡ Ok p
decode_bytes-packet (read name mode) bytes packet =
    let form = packet.form in
    let after = name ++ 0 ∷ (mode ++ 0 ∷ form.0) in
    ap decode_bytes form.1 ∙ decode_bytes-after 1 after (omega arith) (subst (λ xs. length xs ≤ MAX_DATAGRAM) form.1 packet.size)
    ∙ request_of-ended read name mode form.0 packet.fields.0 packet.fields.1
decode_bytes-packet (write name mode) bytes packet =
    let form = packet.form in
    let after = name ++ 0 ∷ (mode ++ 0 ∷ form.0) in
    ap decode_bytes form.1 ∙ decode_bytes-after 2 after (omega arith) (subst (λ xs. length xs ≤ MAX_DATAGRAM) form.1 packet.size)
    ∙ request_of-ended write name mode form.0 packet.fields.0 packet.fields.1
decode_bytes-packet (data_block block body) bytes packet =
    let form = packet.form in
    let after = big_bytes 2 block ++ body in
    ap decode_bytes form ∙ decode_bytes-after 3 after (omega arith) (subst (λ xs. length xs ≤ MAX_DATAGRAM) form packet.size)
    ∙ data_of-block block body packet.fields.0
decode_bytes-packet (ack block) bytes packet =
    let form = packet.form in
    ap decode_bytes form ∙ decode_bytes-after 4 (big_bytes 2 block) (omega arith) (subst (λ xs. length xs ≤ MAX_DATAGRAM) form packet.size)
    ∙ ap (λ (n : ℕ). Ok (ack n)) (after_number block [] packet.fields)
decode_bytes-packet (error code text) bytes packet =
    let form = packet.form in
    let after = big_bytes 2 code ++ (text ++ 0 ∷ form.0) in
    ap decode_bytes form.1 ∙ decode_bytes-after 5 after (omega arith) (subst (λ xs. length xs ≤ MAX_DATAGRAM) form.1 packet.size)
    ∙ error_of-ended code text form.0 packet.fields.0 packet.fields.1

-- ---- bytes are a packet or have a fault

-- the bytes are a packet, or have a fault
abbrev IsEither : List ℕ → Type 0
IsEither bytes = ((p : Packet) × IsPacket p bytes) ⊎ ((e : PacketFault) × HasPacketFault bytes e)

-- by the opcode
module _ (bytes : List ℕ) (fits : IsBytes bytes) (size : length bytes ≤ MAX_DATAGRAM) where
  -- the bytes begin with an opcode
  record Begins (opcode : ℕ) : Type 0 where
    long : 2 ≤ length bytes
    first : big_number 2 bytes ≡ opcode
    split : bytes ≡ big_bytes 2 opcode ++ drop 2 bytes

  -- a number after the opcode
  second_number : (opcode : ℕ) → Begins opcode → 4 ≤ length bytes → bytes ≡ big_bytes 2 opcode ++ (big_bytes 2 (big_number 2 (drop 2 bytes)) ++ drop 4 bytes)
  second_number opcode begins long =
      begins.split ∙ ap (λ (xs : List ℕ). big_bytes 2 opcode ++ xs) (number_first (drop 2 bytes) (omega (arith, length-drop 2 bytes)) (IsBytes-drop 2 bytes fits))
      ∙ ap (λ (xs : List ℕ). big_bytes 2 opcode ++ (big_bytes 2 (big_number 2 (drop 2 bytes)) ++ xs)) (drop-drop 2 2 bytes)

  -- the number after the opcode is below 2^16
  second_fits : big_number 2 (drop 2 bytes) < 2 ^ 16
  second_fits = big_number-fits (drop 2 bytes) (IsBytes-drop 2 bytes fits)

  -- bytes with a request's opcode are that request, or a cut one
  request_either : (make : List ℕ → List ℕ → Packet) →
      ((name mode more : List ℕ) → HasNoZero name → HasNoZero mode → drop 2 bytes ≡ name ++ 0 ∷ (mode ++ 0 ∷ more) →
      IsPacket (make name mode) bytes) → (IsCutRequest bytes → HasPacketFault bytes BadRequest) → IsEither bytes
  request_either make whole cut =
      ⊎_elim
      (λ none. inr (BadRequest, cut (omega (arith, none.0))))
      (λ name.
      ⊎_elim
      (λ none. inr (BadRequest, cut (omega (arith, ap zero_count name.split, zero_count-ended name.text name.rest, name.none, none.0))))
      (λ mode. inl (make name.text mode.text, whole name.text mode.text mode.rest name.none mode.none (name.split ∙ ap (λ (xs : List ℕ). name.text ++ 0 ∷ xs) mode.split)))
      (zero_cases name.rest))
      (zero_cases (drop 2 bytes))

  -- opcode 1, an RRQ
  read_either : Begins 1 → IsEither bytes
  read_either begins =
      request_either read
      (λ name mode more name_ends mode_ends e. record { fields = (name_ends, mode_ends); size = size; form = (more, begins.split ∙ ap (λ (xs : List ℕ). big_bytes 2 1 ++ xs) e) })
      (λ cut. ((inl begins.first, cut), (begins.long, size)))

  -- opcode 2, a WRQ
  write_either : Begins 2 → IsEither bytes
  write_either begins =
      request_either write
      (λ name mode more name_ends mode_ends e. record { fields = (name_ends, mode_ends); size = size; form = (more, begins.split ∙ ap (λ (xs : List ℕ). big_bytes 2 2 ++ xs) e) })
      (λ cut. ((inr begins.first, cut), (begins.long, size)))

  -- opcode 3, a DATA
  data_either : Begins 3 → IsEither bytes
  data_either begins =
      ⊎_elim
      (λ short. inr (BadBlock, (inl (begins.first, short), (begins.long, size))))
      (λ long. inl (data_block (big_number 2 (drop 2 bytes)) (drop 4 bytes), record { fields = (second_fits, omega (arith, length-drop 4 bytes)); size = size; form = second_number 3 begins long }))
      (cases_lt (length bytes) 4)

  -- opcode 4, an ACK
  ack_either : Begins 4 → IsEither bytes
  ack_either begins =
      ⊎_elim
      (λ exact.
      let none = nil_from_length (drop 4 bytes) (omega (arith, length-drop 4 bytes)) in
      let form = second_number 4 begins (omega arith) ∙ ap (λ (xs : List ℕ). big_bytes 2 4 ++ (big_bytes 2 (big_number 2 (drop 2 bytes)) ++ xs)) none in
      inl (ack (big_number 2 (drop 2 bytes)), record { fields = second_fits; size = size; form = form }))
      (λ other. inr (BadBlock, (inr (begins.first, other), (begins.long, size))))
      (cases_eq (length bytes) 4)

  -- opcode 5, an ERROR
  error_either : Begins 5 → IsEither bytes
  error_either begins =
      ⊎_elim
      (λ none. inr (BadError, ((begins.first, none.0), (begins.long, size))))
      (λ text.
      let long : 4 ≤ length bytes = omega (arith, length-drop 4 bytes, ap length text.split, length-append text.text (0 ∷ text.rest)) in
      let form = second_number 5 begins long ∙ ap (λ (xs : List ℕ). big_bytes 2 5 ++ (big_bytes 2 (big_number 2 (drop 2 bytes)) ++ xs)) {y = text.text ++ 0 ∷ text.rest} text.split in
      inl (error (big_number 2 (drop 2 bytes)) text.text, record { fields = (second_fits, text.none); size = size; form = (text.rest, form) }))
      (zero_cases (drop 4 bytes))

  -- any opcode
  opcode_either : (opcode : ℕ) → Begins opcode → IsEither bytes
  opcode_either zero begins = inr (BadOpcode, (inl (omega (arith, begins.first)), (begins.long, size)))
  opcode_either (suc zero) begins = read_either begins
  opcode_either (suc (suc zero)) begins = write_either begins
  opcode_either (suc (suc (suc zero))) begins = data_either begins
  opcode_either (suc (suc (suc (suc zero)))) begins = ack_either begins
  opcode_either (suc (suc (suc (suc (suc zero))))) begins = error_either begins
  opcode_either (suc (suc (suc (suc (suc (suc n)))))) begins = inr (BadOpcode, (inr (omega (arith, begins.first)), (begins.long, size)))

-- any bytes are a packet or have a fault
pub packet_or_fault : (bytes : List ℕ) → IsBytes bytes → IsEither bytes
packet_or_fault bytes fits =
    ⊎_elim
    (λ short. inr (Short, (short, tt)))
    (λ long.
    ⊎_elim
    (λ over. inr (TooLong, (over, tt)))
    (λ size. opcode_either bytes fits size (big_number 2 bytes) (record { long = long; first = refl; split = number_first bytes long fits }))
    (cases_lt MAX_DATAGRAM (length bytes)))
    (cases_lt (length bytes) 2)

-- ---- the relation and the function

-- what bytes are decoded as is the packet that they are
pub decoded_packet : (bytes : List ℕ) (p : Packet) → IsBytes bytes → decode_bytes bytes ≡ Ok p → IsPacket p bytes
decoded_packet bytes p fits e =
    ⊎_elim
    (λ found.
    let again = decode_bytes-packet found.0 bytes found.1 in
    let same : found.0 ≡ p = cc in
    subst (λ q. IsPacket q bytes) same found.1)
    (λ found.
    let again = decode_bytes-fault bytes found.0 found.1 in
    absurd cc)
    (packet_or_fault bytes fits)

-- a fault that is returned is a fault of the bytes
pub decoded_fault : (bytes : List ℕ) (d : PacketFault) → IsBytes bytes → decode_bytes bytes ≡ Err d → HasPacketFault bytes d
decoded_fault bytes d fits e =
    ⊎_elim
    (λ found.
    let again = decode_bytes-packet found.0 bytes found.1 in
    absurd cc)
    (λ found.
    let again = decode_bytes-fault bytes found.0 found.1 in
    let same : found.0 ≡ d = cc in
    subst (λ q. HasPacketFault bytes q) same found.1)
    (packet_or_fault bytes fits)

-- bytes are at most one packet
pub one_packet : (bytes : List ℕ) (p q : Packet) → IsPacket p bytes → IsPacket q bytes → p ≡ q
one_packet bytes p q first second =
    let one = decode_bytes-packet p bytes first in
    let other = decode_bytes-packet q bytes second in
    cc

-- bytes have at most one fault
pub one_fault : (bytes : List ℕ) (d e : PacketFault) → HasPacketFault bytes d → HasPacketFault bytes e → d ≡ e
one_fault bytes d e first second =
    let one = decode_bytes-fault bytes d first in
    let other = decode_bytes-fault bytes e second in
    cc

-- bytes that are a packet have no fault
pub packet_without_fault : (bytes : List ℕ) (p : Packet) (e : PacketFault) → IsPacket p bytes → HasPacketFault bytes e → ⊥
packet_without_fault bytes p e packet fault =
    let one = decode_bytes-packet p bytes packet in
    let other = decode_bytes-fault bytes e fault in
    cc

-- ---- what is sent

request_size : (opcode : ℕ) (name mode : List ℕ) → length (request_bytes opcode name mode []) ≡ 4 + length name + length mode
request_size opcode name mode =
    omega (arith, length-append name (0 ∷ (mode ++ 0 ∷ [])), length-append mode (0 ∷ []))

pub length-encode : (p : Packet) → length (encode p) ≡ packet_size p
unfolding encode
length-encode (read name mode) = request_size 1 name mode
length-encode (write name mode) = request_size 2 name mode
length-encode (data_block block body) = omega arith
length-encode (ack block) = refl
length-encode (error code text) = omega (arith, length-append text (0 ∷ []))

-- an encoded packet has the form of that packet
encode-form : (p : Packet) → HasForm p (encode p)
unfolding encode
encode-form (read name mode) = ([], refl)
encode-form (write name mode) = ([], refl)
encode-form (data_block block body) = refl
encode-form (ack block) = refl
encode-form (error code text) = ([], refl)

-- a packet whose fields are in range is encoded as bytes that are this packet
pub IsPacket-encode : (p : Packet) → HasPacketFields p → packet_size p ≤ MAX_DATAGRAM → IsPacket p (encode p)
IsPacket-encode p fields size =
    record { fields = fields; size = omega (arith, length-encode p); form = encode-form p }

-- an encoded packet is decoded as itself
pub decode_bytes-encode : (p : Packet) → HasPacketFields p → packet_size p ≤ MAX_DATAGRAM → decode_bytes (encode p) ≡ Ok p
decode_bytes-encode p fields size = decode_bytes-packet p (encode p) (IsPacket-encode p fields size)
