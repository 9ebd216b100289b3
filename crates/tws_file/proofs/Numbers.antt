-- The bytes of a number are those that it was read from, for two and for four bytes.
use Rattle.std.proofs.Common.{◌≡◌, ℕ, ◌^◌, ◌<◌, ◌≤◌, List, [], ◌++◌, length, take, sym, ap, ◌∙◌, arith, length-take}
use Rattle.std.proofs.lemmas.Nat.{le_bytes_2, le_bytes_4}
use Rattle.byteorder.specs.Endian.{little_bytes, little_number}
use Rattle.byteorder.specs.Numbers.{little_number-reads_back, little_from-take}
use Rattle.byte_output.specs.Bytes.{IsBytes}
use Rattle.byte_output.proofs.Bytes.{IsBytes-take}

-- two bytes are the bytes of their number
pub little_bytes-little_number_2 : (bytes : List ℕ) → 2 ≤ length bytes → IsBytes bytes → little_bytes 2 (little_number 2 bytes) ≡ take 2 bytes
little_bytes-little_number_2 bytes long fits =
    le_bytes_2 (take 2 bytes) (little_number 2 bytes) (omega (arith, length-take 2 bytes)) (IsBytes-take 2 bytes fits) (omega (arith, little_from-take 0 2 2 bytes (omega arith)))

-- four bytes are the bytes of their number
pub little_bytes-little_number_4 : (bytes : List ℕ) → 4 ≤ length bytes → IsBytes bytes → little_bytes 4 (little_number 4 bytes) ≡ take 4 bytes
little_bytes-little_number_4 bytes long fits =
    le_bytes_4 (take 4 bytes) (little_number 4 bytes) (omega (arith, length-take 4 bytes)) (IsBytes-take 4 bytes fits) (omega (arith, little_from-take 0 4 4 bytes (omega arith)))

-- a number that fits in its bytes is determined by them
pub little_bytes-injective : (size m n : ℕ) → m < 256 ^ size → n < 256 ^ size → little_bytes size m ≡ little_bytes size n → m ≡ n
little_bytes-injective size m n fits_m fits_n e =
    sym (little_number-reads_back size m [] fits_m) ∙ ap (λ (bytes : List ℕ). little_number size (bytes ++ [])) e ∙ little_number-reads_back size n [] fits_n
