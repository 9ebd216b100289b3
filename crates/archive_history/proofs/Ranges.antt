-- The bytes of a file from one place on, in its chunks, and as they are written.
use Rattle.std.proofs.Common.{◌≡◌, ℕ, ◌+◌, ◌-◌, ◌*◌, ◌/◌, ◌%◌, ◌<◌, ◌≤◌, min, List, ◌++◌, length, take, drop, slice_index, slice_index_or, get_or, Option, ap, sym, ◌∙◌, subst, arith, append_assoc, length-take, length-drop, drop-drop, take-take}
use Rattle.std.proofs.Math.Seq.{take-add}
use Rattle.std.proofs.lemmas.List.{drop-take, take_rest, get_or-take, get_or-drop}
use Rattle.byte_output.specs.Output.{Sends}
use Rattle.byte_output.proofs.Sending.{Sends-push, Sends-then}
use Rattle.tftp_ends.specs.declared.chunks.TheConstants.{CHUNK_SIZE}
use Rattle.tftp_ends.specs.Chunks.{chunk_of}
use Rattle.tftp_ends.proofs.Chunking.{length-chunk_of}

-- ---- in a chunk

-- the offset of a place of the file in its chunk
pub offset_inside : (file chunk : List ℕ) (at : ℕ) → at < length file → chunk ≡ chunk_of file (at / CHUNK_SIZE) → at % CHUNK_SIZE < length chunk
offset_inside file chunk at inside chunk-is = omega (arith, ap length chunk-is, length-chunk_of file (at / CHUNK_SIZE))

-- the byte there
pub byte_in : (file chunk : List ℕ) (at : ℕ) → chunk ≡ chunk_of file (at / CHUNK_SIZE) → slice_index_or chunk (at % CHUNK_SIZE) 0 ≡ slice_index file at
unfolding chunk_of
byte_in file chunk at chunk-is =
    let i = at / CHUNK_SIZE in
    let o = at % CHUNK_SIZE in
    let place : CHUNK_SIZE * i + o ≡ at = omega arith in
    ap (λ (xs : List ℕ). get_or xs o 0) chunk-is
    ∙ get_or-take CHUNK_SIZE (drop (CHUNK_SIZE * i) file) o 0 (omega arith)
    ∙ get_or-drop (CHUNK_SIZE * i) file o 0
    ∙ ap (λ (n : ℕ). get_or file n 0) place

-- the first bytes from there on
pub first_in : (file chunk : List ℕ) (at count : ℕ) → chunk ≡ chunk_of file (at / CHUNK_SIZE) → count ≤ length chunk - at % CHUNK_SIZE →
    take count (drop (at % CHUNK_SIZE) chunk) ≡ take count (drop at file)
unfolding chunk_of
first_in file chunk at count chunk-is within =
    let i = at / CHUNK_SIZE in
    let o = at % CHUNK_SIZE in
    let place : CHUNK_SIZE * i + o ≡ at = omega arith in
    let parts : CHUNK_SIZE ≡ o + (CHUNK_SIZE - o) = omega arith in
    let most : count ≤ CHUNK_SIZE - o = omega (arith, ap length chunk-is, length-take CHUNK_SIZE (drop (CHUNK_SIZE * i) file)) in
    ap (λ (xs : List ℕ). take count (drop o xs)) chunk-is
    ∙ ap (λ (n : ℕ). take count (drop o (take n (drop (CHUNK_SIZE * i) file)))) parts
    ∙ ap (take count) (drop-take o (CHUNK_SIZE - o) (drop (CHUNK_SIZE * i) file))
    ∙ take-take count (CHUNK_SIZE - o) (drop o (drop (CHUNK_SIZE * i) file)) most
    ∙ ap (take count) (drop-drop o (CHUNK_SIZE * i) file ∙ ap (λ (n : ℕ). drop n file) place)

-- a piece of the chunk, of so many bytes at most
module _ (file chunk : List ℕ) (at to count : ℕ) (inside : at < length file) (before : at < to) (chunk-is : chunk ≡ chunk_of file (at / CHUNK_SIZE))
    (count-is : count ≡ min (length (take (length chunk - at % CHUNK_SIZE) (drop (at % CHUNK_SIZE) chunk))) (to - at)) where
  abbrev o : ℕ
  o = at % CHUNK_SIZE

  abbrev piece : List ℕ
  piece = take count (take (length chunk - o) (drop o chunk))

  rest_size : length (take (length chunk - o) (drop o chunk)) ≡ length chunk - o
  rest_size = ap length (take_rest chunk o) ∙ length-drop o chunk

  pub piece_size : length piece ≡ count
  piece_size = omega (arith, length-take count (take (length chunk - o) (drop o chunk)), count-is)

  pub piece_some : 1 ≤ length piece
  piece_some = omega (arith, piece_size, count-is, rest_size, offset_inside file chunk at inside chunk-is)

  pub piece_is : piece ≡ take (length piece) (drop at file)
  piece_is =
      ap (take count) (take_rest chunk o)
      ∙ first_in file chunk at count chunk-is (omega (arith, count-is, rest_size))
      ∙ ap (λ (n : ℕ). take n (drop at file)) (sym piece_size)

-- ---- sent

-- more bytes were sent after others, of which a rest was gathered
pub Sends-after : (old mid new : Option (List ℕ)) (text rest bytes rest' : List ℕ) → Sends old mid text rest → Sends mid new (rest ++ bytes) rest' → Sends old new (text ++ bytes) rest'
Sends-after old mid new text rest bytes rest' first second = Sends-then old mid new (text ++ bytes) (rest ++ bytes) (Sends-push old mid new text rest first bytes) rest' second

-- more bytes of a file were sent after those before them
pub range_more : (old mid new : Option (List ℕ)) (buffer rest rest' file piece : List ℕ) (from at : ℕ) → from ≤ at → piece ≡ take (length piece) (drop at file) →
    Sends old mid (buffer ++ take (at - from) (drop from file)) rest → Sends mid new (rest ++ piece) rest' → Sends old new (buffer ++ take (at + length piece - from) (drop from file)) rest'
range_more old mid new buffer rest rest' file piece from at before piece-is first second =
    let place : from + (at - from) ≡ at = omega arith in
    let count : at - from + length piece ≡ at + length piece - from = omega arith in
    subst (λ (xs : List ℕ). Sends old new xs rest')
    (append_assoc buffer (take (at - from) (drop from file)) piece
    ∙ ap (λ (xs : List ℕ). buffer ++ xs)
    (ap (λ (xs : List ℕ). take (at - from) (drop from file) ++ xs) (piece-is ∙ ap (λ (n : ℕ). take (length piece) (drop n file)) (sym place) ∙ ap (take (length piece)) (sym (drop-drop (at - from) from file)))
    ∙ sym (take-add (at - from) (length piece) (drop from file))
    ∙ ap (λ (n : ℕ). take n (drop from file)) count))
    (Sends-after old mid new (buffer ++ take (at - from) (drop from file)) rest piece rest' first second)
