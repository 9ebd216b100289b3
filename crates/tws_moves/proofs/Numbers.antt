-- The number of a piece: its bytes as one little-endian number, read or written eight bytes at once.
use Rattle.std.proofs.Common.{◌≡◌, ℕ, zero, suc, ◌+◌, ◌*◌, ◌/◌, ◌%◌, ◌^◌, ◌<◌, ◌≤◌, List, [], ◌∷◌, ◌++◌, length, take, take-take, length-take, drop, refl, ap, sym, ◌∙◌, arith}
use Rattle.std.proofs.Math.Nat.{div-one, div-div-eq-div-mul, mod-one, zero-mod, pow-suc}
use Rattle.std.proofs.lemmas.Nat.{mod-pow-add}
use Rattle.std.proofs.Math.Seq.{take-append-add}
use Rattle.byteorder.specs.Endian.{little_number}
use Rattle.byteorder.specs.Numbers.{little_from-cons}
use Rattle.byteorder.proofs.Bytes.{take-bytes_low_first}
use Rattle.std.specs.Int.{byte_at, bytes_low_first}
use Rattle.byte_output.specs.Bytes.{IsBytes}
use Rattle.byte_output.proofs.Bytes.{IsBytes-take}
use Rattle.tws_moves.specs.Bytes.{number_of, bits, little_bytes}

-- five bytes or fewer are a number of at most 40 bits
number_bound : (bytes : List ℕ) → IsBytes bytes → length bytes ≤ 5 → number_of bytes < 2 ^ 40
number_bound [] fits short = omega arith
number_bound (a ∷ []) fits short = omega (arith, fits 0)
number_bound (a ∷ b ∷ []) fits short = omega (arith, fits 0, fits 1)
number_bound (a ∷ b ∷ c ∷ []) fits short = omega (arith, fits 0, fits 1, fits 2)
number_bound (a ∷ b ∷ c ∷ d ∷ []) fits short = omega (arith, fits 0, fits 1, fits 2, fits 3)
number_bound (a ∷ b ∷ c ∷ d ∷ e ∷ []) fits short = omega (arith, fits 0, fits 1, fits 2, fits 3, fits 4)
number_bound (a ∷ b ∷ c ∷ d ∷ e ∷ f ∷ bytes) fits short = absurd (omega arith)

-- what is left of five bytes or fewer is a number of at most 40 bits
pub number_bound_from : (bytes : List ℕ) (i : ℕ) → IsBytes bytes → length bytes ≤ 5 → number_of (drop i bytes) < 2 ^ 40
number_bound_from bytes zero fits short = number_bound bytes fits short
number_bound_from [] (suc i) fits short = omega arith
number_bound_from (b ∷ bytes) (suc i) fits short = number_bound_from bytes i (λ j. fits (suc j)) (omega arith)

-- the number of the first bytes is the lowest bits of the number of all bytes
first_bits : (count : ℕ) (bytes : List ℕ) → IsBytes bytes → number_of bytes % 2 ^ (8 * count) ≡ number_of (take count bytes)
first_bits zero bytes fits = mod-one (number_of bytes)
first_bits (suc count) [] fits = zero-mod (2 ^ (8 * suc count))
first_bits (suc count) (b ∷ bytes) fits =
    let rest = number_of bytes in
    let all = b + 256 * rest in
    let first : b < 256 = fits 0 in
    let more : 8 * suc count ≡ 8 * count + 8 = omega arith in
    let high : all / 256 ≡ rest = omega arith in
    let low : all % 256 ≡ b = omega arith in
    let digits : all % 2 ^ (8 * suc count) ≡ rest % 2 ^ (8 * count) * 256 + b =
    ap (λ e. all % 2 ^ e) more ∙ mod-pow-add all (8 * count) 8 ∙ ap (λ n. n % 2 ^ (8 * count) * 256 + all % 256) high ∙ ap (λ n. rest % 2 ^ (8 * count) * 256 + n) low in
    let before = first_bits count bytes (λ i. fits (suc i)) in
    let few = number_of (take count bytes) in
    let turned : few * 256 + b ≡ b + 256 * few = omega arith in
    digits ∙ ap (λ n. n * 256 + b) before ∙ turned

-- the same number as read by `read_u64`
as_read : (count : ℕ) (bytes : List ℕ) → count ≤ length bytes → little_number count bytes ≡ number_of (take count bytes)
as_read zero bytes within = refl
as_read (suc count) [] within = absurd (omega arith)
as_read (suc count) (b ∷ bytes) within = ap (λ n. b + 256 * n) (little_from-cons zero count b bytes ∙ as_read count bytes (omega arith))

-- of eight bytes read at once, the number of the first
pub first_number : (count : ℕ) (bytes : List ℕ) → IsBytes bytes → count ≤ 8 → 8 ≤ length bytes → bits 0 (8 * count) (little_number 8 bytes) ≡ number_of (take count bytes)
first_number count bytes fits few many =
    ap (λ n. n % 2 ^ (8 * count)) (div-one (little_number 8 bytes) ∙ as_read 8 bytes many)
    ∙ first_bits count (take 8 bytes) (IsBytes-take 8 bytes fits)
    ∙ ap number_of (take-take count 8 bytes few)

-- the first bytes, five or fewer, are a number of at most 40 bits
pub first_bound : (count : ℕ) (bytes : List ℕ) → IsBytes bytes → count ≤ 5 → number_of (take count bytes) < 2 ^ 40
first_bound count bytes fits few = number_bound (take count bytes) (IsBytes-take count bytes fits) (omega (arith, length-take count bytes))

-- ---- a number's bytes

-- a byte of a number, by its position
byte_is : (place n : ℕ) → byte_at place n ≡ n / 256 ^ place % 256
byte_is zero n = ap (λ m. m % 256) (sym (div-one n))
byte_is (suc place) n = refl

-- the bytes of a number, starting at byte `from`
low_bytes : (from count n : ℕ) → bytes_low_first from count n ≡ little_bytes count (n / 256 ^ from)
low_bytes from zero n = refl
low_bytes from (suc count) n =
    let next : n / 256 ^ suc from ≡ n / 256 ^ from / 256 = ap (λ m. n / m) (pow-suc 256 from) ∙ sym (div-div-eq-div-mul n (256 ^ from) 256) in
    ap (λ b. b ∷ bytes_low_first (suc from) count n) (byte_is from n)
    ∙ ap (λ bs. n / 256 ^ from % 256 ∷ bs) (low_bytes (suc from) count n ∙ ap (little_bytes count) next)

-- of eight bytes written at once, the first
pub first_bytes : (count n : ℕ) → count ≤ 8 → take count (bytes_low_first 0 8 n) ≡ little_bytes count n
first_bytes count n few = take-bytes_low_first 0 8 count n few ∙ low_bytes 0 count n ∙ ap (little_bytes count) (div-one n)

-- eight bytes are appended, and only the first of them are kept
pub pushed_first : (old long new eight : List ℕ) (count n before : ℕ) → before ≡ length old → eight ≡ bytes_low_first 0 8 n →
    long ≡ old ++ eight → new ≡ take (before + count) long → count ≤ 8 → new ≡ old ++ little_bytes count n
pushed_first old long new eight count n before before-is eight-is long-is new-is few =
    new-is
    ∙ ap (λ at. take (at + count) long) before-is
    ∙ ap (take (length old + count)) long-is
    ∙ take-append-add old eight count
    ∙ ap (λ bs. old ++ take count bs) eight-is
    ∙ ap (λ bs. old ++ bs) (first_bytes count n few)
