-- Parts of bytes, and numbers in two bytes.
use Rattle.std.proofs.Common.{◌≡◌, ℕ, ◌+◌, ◌^◌, ◌<◌, ◌≤◌, List, ◌++◌, length, take, drop, sym, ap, ◌∙◌, arith, length-take, take-append-drop}
use Rattle.std.proofs.Math.Seq.{take-append-add}
use Rattle.std.proofs.lemmas.List.{length-take-le}
use Rattle.std.proofs.lemmas.Nat.{be_bytes_2}
use Rattle.byteorder.specs.Endian.{big_bytes, big_number}
use Rattle.byteorder.specs.Numbers.{big_from-take, big_from-lt}
use Rattle.byte_output.specs.Bytes.{IsBytes}
use Rattle.byte_output.proofs.Bytes.{IsBytes-take}

-- the bytes of a number are those that it was read from
pub big_bytes-big_number : (bytes : List ℕ) → 2 ≤ length bytes → IsBytes bytes → big_bytes 2 (big_number 2 bytes) ≡ take 2 bytes
big_bytes-big_number bytes long fits =
    be_bytes_2 (take 2 bytes) (big_number 2 bytes) (omega (arith, length-take 2 bytes)) (IsBytes-take 2 bytes fits) (omega (arith, big_from-take 0 2 2 bytes (omega arith)))

-- bytes are those of the number that they begin with, followed by the rest
pub number_first : (bytes : List ℕ) → 2 ≤ length bytes → IsBytes bytes → bytes ≡ big_bytes 2 (big_number 2 bytes) ++ drop 2 bytes
number_first bytes long fits =
    sym (ap (λ (front : List ℕ). front ++ drop 2 bytes) (big_bytes-big_number bytes long fits) ∙ take-append-drop 2 bytes)

-- two bytes are a number below 2^16
pub big_number-fits : (bytes : List ℕ) → IsBytes bytes → big_number 2 bytes < 2 ^ 16
big_number-fits bytes fits = big_from-lt 0 2 bytes fits

-- bytes were written after the first bytes of a buffer
pub part_placed : (old room part : List ℕ) (from head count : ℕ) → from ≡ head → head ≤ length old → take count room ≡ part → take (head + count) (take from old ++ room) ≡ take head old ++ part
part_placed old room part from head count same long is =
    let size : length (take head old) ≡ head = length-take-le head old long in
    ap (λ (n : ℕ). take (head + count) (take n old ++ room)) same
    ∙ ap (λ (n : ℕ). take (n + count) (take head old ++ room)) (sym size)
    ∙ take-append-add (take head old) room count
    ∙ ap (λ (xs : List ℕ). take head old ++ xs) is
