-- Bytes as little-endian numbers.
use Rattle.std.specs.Prelude.{ℕ, zero, suc, ◌+◌, ◌*◌, ◌^◌, ◌/◌, ◌%◌, List, [], ◌∷◌}

-- the bytes as one little-endian number
abbrev pub number_of : List ℕ → ℕ
number_of [] = 0
number_of (b ∷ rest) = b + 256 * number_of rest

-- the `count` bits of `n` from bit `low` on
abbrev pub bits : (low count n : ℕ) → ℕ
bits low count n = n / 2 ^ low % 2 ^ count

-- the lowest `count` bytes of `n`, the lowest first
abbrev pub little_bytes : (count n : ℕ) → List ℕ
little_bytes zero n = []
little_bytes (suc count) n = n % 256 ∷ little_bytes count (n / 256)
