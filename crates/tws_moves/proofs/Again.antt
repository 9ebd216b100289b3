-- A piece of several bytes that is the shortest for its wait: written alone, it is the same bytes again.
use Rattle.std.proofs.Common.{◌≡◌, ℕ, zero, suc, ◌+◌, ◌*◌, ◌^◌, ◌<◌, ◌≤◌, ◌/◌, ◌%◌, false, ltb, List, [], ◌∷◌, length, refl, ap, sym, ◌∙◌, arith, inl, inr}
use Rattle.std.proofs.lemmas.Bool.{cases_lt, lt-ltb, le-ltb}
use Rattle.byte_output.specs.Bytes.{IsBytes}
use Rattle.tws_moves.specs.declared.act.Act.TheVariants.{Step, Code}
use Rattle.tws_moves.specs.declared.layout.Layout.{Layout}
use Rattle.tws_moves.specs.declared.layout.Layout.TheVariants as layout
use Rattle.tws_moves.specs.Bytes.{number_of, bits, little_bytes}
use Rattle.tws_moves.specs.Move.{Wait}
use Rattle.tws_moves.specs.Spelling.{IsPiece, layout_of, layout_length, layout_waits, waits_of}
use Rattle.tws_moves.specs.Shortest.{act_bytes, alone, is_plain}
use Rattle.tws_moves.specs.Steps.{least_more, least_in, least_value, IsShortestAlone}
use Rattle.tws_moves.proofs.Held.{three_first, short_first, middle_first, long_first, code_first, step_middle, step_long}

-- it holds one wait, which is not a plain step, and is what that is written as
pub record IsAgain (piece : List ℕ) : Type 0 where
  pub wait : Wait
  pub waits : waits_of piece ≡ wait ∷ []
  pub other : is_plain wait ≡ false
  pub same : little_bytes (length piece) (number_of piece) ≡ alone wait

-- a step after four ticks or more is not plain
long_wait : (t d : ℕ) → 4 ≤ t → is_plain (record { ticks = t; act = Step d }) ≡ false
long_wait t d over = grind (arith, over)

-- ---- codes

code_two : (t c : ℕ) → t < 2 ^ 2 → act_bytes t (Code c) ≡ little_bytes 2 (19 + 2 ^ 5 * c + 2 ^ 14 * t)
code_two t c h = let e = lt-ltb t (2 ^ 2) h in rw e

code_three : (t c : ℕ) → 2 ^ 2 ≤ t → t < 2 ^ 10 → act_bytes t (Code c) ≡ little_bytes 3 (23 + 2 ^ 5 * c + 2 ^ 14 * t)
code_three t c g h = let f = le-ltb t (2 ^ 2) g in let e = lt-ltb t (2 ^ 10) h in rw (f, e)

code_four : (t c : ℕ) → 2 ^ 10 ≤ t → t < 2 ^ 18 → act_bytes t (Code c) ≡ little_bytes 4 (27 + 2 ^ 5 * c + 2 ^ 14 * t)
code_four t c g h =
    let d : ltb t (2 ^ 2) ≡ false = le-ltb t (2 ^ 2) (omega arith) in
    let f = le-ltb t (2 ^ 10) g in
    let e = lt-ltb t (2 ^ 18) h in
    rw (d, f, e)

code_five : (t c : ℕ) → 2 ^ 18 ≤ t → act_bytes t (Code c) ≡ little_bytes 5 (31 + 2 ^ 5 * c + 2 ^ 14 * t)
code_five t c g =
    let d : ltb t (2 ^ 2) ≡ false = le-ltb t (2 ^ 2) (omega arith) in
    let f : ltb t (2 ^ 10) ≡ false = le-ltb t (2 ^ 10) (omega arith) in
    let e = le-ltb t (2 ^ 18) g in
    rw (d, f, e)

-- ---- pieces by their layouts

-- a piece of this layout with these waits
again_in : (l : Layout) (first : ℕ) (rest : List ℕ) (w : Wait) → layout_of first ≡ l → layout_waits l (number_of (first ∷ rest)) ≡ w ∷ [] →
    is_plain w ≡ false → little_bytes (suc (length rest)) (number_of (first ∷ rest)) ≡ alone w → IsAgain (first ∷ rest)
again_in l first rest w is holds other same = record {
  wait = w;
  waits = ap (λ (k : Layout). layout_waits k (number_of (first ∷ rest))) is ∙ holds;
  other = other;
  same = same;
}

middle_again : (first : ℕ) (rest : List ℕ) → first % 4 ≡ 2 → IsPiece (first ∷ rest) → 2 ^ 8 ≤ number_of (first ∷ rest) → IsAgain (first ∷ rest)
middle_again first [] low piece least = absurd (omega (arith, piece.whole, ap (λ (l : Layout). layout_length l first) (middle_first first low)))
middle_again first (b ∷ []) low piece least =
    let n = number_of (first ∷ b ∷ []) in
    let t = bits 5 11 n in
    let d = bits 2 3 n in
    let small : first < 256 = piece.bytes 0 in
    let next : b < 256 = piece.bytes 1 in
    let over : 2 ^ 3 ≤ t = omega arith in
    let is : n ≡ 2 + 4 * d + 2 ^ 5 * t = omega arith in
    again_in layout.MiddleStep first (b ∷ []) (record { ticks = t; act = Step d }) (middle_first first low) refl (long_wait t d (omega arith))
    (ap (little_bytes 2) is ∙ sym (step_middle t d over (omega arith)))
middle_again first (b ∷ c ∷ rest) low piece least = absurd (omega (arith, piece.whole, ap (λ (l : Layout). layout_length l first) (middle_first first low)))

long_again : (first : ℕ) (rest : List ℕ) → first % 4 ≡ 3 → first / 16 % 2 ≡ 0 → IsPiece (first ∷ rest) → 2 ^ 16 ≤ number_of (first ∷ rest) → IsAgain (first ∷ rest)
long_again first (b ∷ c ∷ d ∷ []) low bit piece least =
    let n = number_of (first ∷ b ∷ c ∷ d ∷ []) in
    let t = bits 5 27 n in
    let way = bits 2 2 n in
    let first_small : first < 256 = piece.bytes 0 in
    let b_small : b < 256 = piece.bytes 1 in
    let c_small : c < 256 = piece.bytes 2 in
    let d_small : d < 256 = piece.bytes 3 in
    let over : 2 ^ 11 ≤ t = omega arith in
    let is : n ≡ 3 + 4 * way + 2 ^ 5 * t = omega arith in
    again_in layout.LongStep first (b ∷ c ∷ d ∷ []) (record { ticks = t; act = Step way }) (long_first first low bit) refl (long_wait t way (omega arith))
    (ap (little_bytes 4) is ∙ sym (step_long t way over))
long_again first [] low bit piece least = absurd (omega (arith, piece.whole, ap (λ (l : Layout). layout_length l first) (long_first first low bit)))
long_again first (b ∷ []) low bit piece least = absurd (omega (arith, piece.whole, ap (λ (l : Layout). layout_length l first) (long_first first low bit)))
long_again first (b ∷ c ∷ []) low bit piece least = absurd (omega (arith, piece.whole, ap (λ (l : Layout). layout_length l first) (long_first first low bit)))
long_again first (b ∷ c ∷ d ∷ e ∷ rest) low bit piece least = absurd (omega (arith, piece.whole, ap (λ (l : Layout). layout_length l first) (long_first first low bit)))

-- a code with this many bytes after its first two
module _ (more first : ℕ) (low : first % 4 ≡ 3) (bit : first / 16 % 2 ≡ 1) (more-is : bits 2 2 first ≡ more) where
  code_length : layout_length (layout_of first) first ≡ 2 + more
  code_length = ap (λ (l : Layout). layout_length l first) (code_first first low bit) ∙ ap (λ k. 2 + k) more-is

  code_long : (rest : List ℕ) → IsPiece (first ∷ rest) → length (first ∷ rest) ≡ 2 + more
  code_long rest piece = omega (arith, piece.whole ∙ code_length)

  code_again : (rest : List ℕ) → IsPiece (first ∷ rest) → (act_bytes (number_of (first ∷ rest) / 2 ^ 14) (Code (bits 5 9 (number_of (first ∷ rest))))
      ≡ little_bytes (2 + more) (19 + 4 * more + 2 ^ 5 * bits 5 9 (number_of (first ∷ rest)) + 2 ^ 14 * (number_of (first ∷ rest) / 2 ^ 14))) → IsAgain (first ∷ rest)
  code_again rest piece bytes =
      let n = number_of (first ∷ rest) in
      let small : first < 256 = piece.bytes 0 in
      let is : n ≡ 19 + 4 * more + 2 ^ 5 * bits 5 9 n + 2 ^ 14 * (n / 2 ^ 14) = omega (arith, low, bit, more-is) in
      again_in layout.Code first rest (record { ticks = n / 2 ^ 14; act = Code (bits 5 9 n) }) (code_first first low bit) refl refl
      (ap (λ k. little_bytes k n) (code_long rest piece) ∙ ap (little_bytes (2 + more)) is ∙ sym bytes)

-- a number of at most so many bytes
below_16 : (xs : List ℕ) → IsBytes xs → length xs ≡ 2 → number_of xs < 2 ^ 16
below_16 (a ∷ b ∷ []) fits long = omega (arith, fits 0, fits 1)
below_16 [] fits long = omega arith
below_16 (a ∷ []) fits long = absurd (omega arith)
below_16 (a ∷ b ∷ c ∷ xs) fits long = absurd (omega arith)

below_24 : (xs : List ℕ) → IsBytes xs → length xs ≡ 3 → number_of xs < 2 ^ 24
below_24 (a ∷ b ∷ c ∷ []) fits long = omega (arith, fits 0, fits 1, fits 2)
below_24 [] fits long = omega arith
below_24 (a ∷ []) fits long = absurd (omega arith)
below_24 (a ∷ b ∷ []) fits long = absurd (omega arith)
below_24 (a ∷ b ∷ c ∷ d ∷ xs) fits long = absurd (omega arith)

below_32 : (xs : List ℕ) → IsBytes xs → length xs ≡ 4 → number_of xs < 2 ^ 32
below_32 (a ∷ b ∷ c ∷ d ∷ []) fits long = omega (arith, fits 0, fits 1, fits 2, fits 3)
below_32 [] fits long = omega arith
below_32 (a ∷ []) fits long = absurd (omega arith)
below_32 (a ∷ b ∷ []) fits long = absurd (omega arith)
below_32 (a ∷ b ∷ c ∷ []) fits long = absurd (omega arith)
below_32 (a ∷ b ∷ c ∷ d ∷ e ∷ xs) fits long = absurd (omega arith)

-- the least value of a code's piece, by how many bytes it has after its first two
least_code : (more first : ℕ) → first % 4 ≡ 3 → first / 16 % 2 ≡ 1 → bits 2 2 first ≡ more → least_value first ≡ least_more more
least_code more first low bit is = ap (λ (l : Layout). least_in l first) (code_first first low bit) ∙ ap least_more is

codes_again : (more first : ℕ) (rest : List ℕ) → first % 4 ≡ 3 → first / 16 % 2 ≡ 1 → bits 2 2 first ≡ more → IsPiece (first ∷ rest) →
    least_more more ≤ number_of (first ∷ rest) → IsAgain (first ∷ rest)
codes_again zero first rest low bit is piece least =
    code_again 0 first low bit is rest piece
    (code_two _ _ (omega (arith, below_16 (first ∷ rest) piece.bytes (code_long 0 first low bit is rest piece))))
codes_again (suc zero) first rest low bit is piece least =
    code_again 1 first low bit is rest piece
    (code_three _ _ (omega arith) (omega (arith, below_24 (first ∷ rest) piece.bytes (code_long 1 first low bit is rest piece))))
codes_again (suc (suc zero)) first rest low bit is piece least =
    code_again 2 first low bit is rest piece
    (code_four _ _ (omega arith) (omega (arith, below_32 (first ∷ rest) piece.bytes (code_long 2 first low bit is rest piece))))
codes_again (suc (suc (suc zero))) first rest low bit is piece least =
    code_again 3 first low bit is rest piece (code_five _ _ (omega arith))
codes_again (suc (suc (suc (suc more)))) first rest low bit is piece least = absurd (omega arith)

-- no piece of one byte has so large a value
one_byte_below : (first : ℕ) (rest : List ℕ) → IsPiece (first ∷ rest) → layout_length (layout_of first) first ≡ 1 → number_of (first ∷ rest) < 2 ^ 40
one_byte_below first [] piece one = omega (arith, piece.bytes 0)
one_byte_below first (b ∷ rest) piece one = absurd (omega (arith, piece.whole, one))

pub again : (piece : List ℕ) → IsPiece piece → IsShortestAlone piece → IsAgain piece
again [] piece shortest = absurd shortest
again (first ∷ rest) piece shortest =
    elim (cases_lt (first % 4) 1) [
      | inl none ↦
          let is = three_first first (omega arith) in
          absurd (omega (arith, shortest, ap (λ (l : Layout). least_in l first) is, one_byte_below first rest piece (ap (λ (l : Layout). layout_length l first) is)))
      | inr some ↦ elim (cases_lt (first % 4) 2) [
        | inl less ↦
            let is = short_first first (omega arith) in
            absurd (omega (arith, shortest, ap (λ (l : Layout). least_in l first) is, one_byte_below first rest piece (ap (λ (l : Layout). layout_length l first) is)))
        | inr more ↦ elim (cases_lt (first % 4) 3) [
          | inl two ↦
              let low : first % 4 ≡ 2 = omega arith in
              middle_again first rest low piece (omega (arith, shortest, ap (λ (l : Layout). least_in l first) (middle_first first low)))
          | inr three ↦
              let low : first % 4 ≡ 3 = omega arith in
              elim (cases_lt (first / 16 % 2) 1) [
                | inl clear ↦
                    let bit : first / 16 % 2 ≡ 0 = omega arith in
                    long_again first rest low bit piece (omega (arith, shortest, ap (λ (l : Layout). least_in l first) (long_first first low bit)))
                | inr set ↦
                    let bit : first / 16 % 2 ≡ 1 = omega arith in
                    codes_again (bits 2 2 first) first rest low bit refl piece (omega (arith, shortest, least_code (bits 2 2 first) first low bit refl))
              ]
        ]
      ]
    ]
