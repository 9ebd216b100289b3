-- From the masks of 16 bytes to the one-byte pieces that the bytes begin with.
use Rattle.std.proofs.Common.{◌≡◌, ℕ, zero, suc, ◌+◌, ◌*◌, ◌%◌, ◌/◌, ◌^◌, ◌<◌, ◌≤◌, eqb, ltb, cond, Bool, true, false, not, List, [], ◌∷◌, map, length, take, flat_map, replicate, bit_and, get_or, Fits, w8, refl, sym, ap, ◌∙◌, subst, arith, inl, inr, length-append, length-take, take-take}
use Rattle.std.specs.List.{AllByRecursion, prefix_len, count_by}
use Rattle.std.specs.Int.RustNames.{count_ones}
use Rattle.std.proofs.lemmas.Bool.{agree_below_at, cases_Bool, cases_lt, le-ltb}
use Rattle.std.proofs.lemmas.List.{length-map, take-map}
use Rattle.std.proofs.lemmas.List.Sums.{sum_by-cons, prefix_len-le-length, count_by-le-length}
use Rattle.std.proofs.lemmas.Nat.{mod-pow-add}
use Rattle.std.proofs.lemmas.Simd.{bitmask_splat, zip2_splat, map-map, first_set_mask_l, ones-mask_l, length-chunk}
use Rattle.std.proofs.Math.Pow.{pow_mono}
use lib.Lanes.{chunk, zip2, mask_l, top}
use Rattle.byte_output.proofs.Bytes.{IsBytes-take}
use Rattle.tws_moves.specs.declared.layout.Layout.{Layout}
use Rattle.tws_moves.specs.declared.layout.Layout.TheVariants as layout
use Rattle.tws_moves.specs.Spelling.{IsPiece, layout_of, layout_length, layout_waits, waits_of}
use Rattle.tws_moves.specs.Steps.{first_set, singles}
use Rattle.tws_moves.proofs.Held.{three_first, short_first, one_is_bytes}

-- ---- masks

-- the lowest `k` bits of a mask
pub mask_take : (ms : List Bool) (k : ℕ) → mask_l ms % 2 ^ k ≡ mask_l (take k ms)
mask_take ms zero = omega arith
mask_take [] (suc k) = omega arith
mask_take (b ∷ ms) (suc k) =
    let next : k + 1 ≡ suc k = omega arith in
    let e = ap (λ (j : ℕ). mask_l (b ∷ ms) % 2 ^ j) (sym next) ∙ mod-pow-add (mask_l (b ∷ ms)) k 1 in
    let half : mask_l (b ∷ ms) / 2 ^ 1 ≡ mask_l ms = elim b as (λ (v : Bool). mask_l (v ∷ ms) / 2 ^ 1 ≡ mask_l ms) [ true ↦ omega arith | false ↦ omega arith ] in
    let low : mask_l (b ∷ ms) % 2 ^ 1 ≡ cond b 1 0 = elim b as (λ (v : Bool). mask_l (v ∷ ms) % 2 ^ 1 ≡ cond v 1 0) [ true ↦ omega arith | false ↦ omega arith ] in
    omega (arith, e, ap (λ (x : ℕ). x % 2 ^ k) half, mask_take ms k, low)

-- the mask of the lanes whose bits `y` are `z`
pub lane_mask : (v : List ℕ) (y z : ℕ) → length v ≡ 16 →
    mask_l (map (top 7) (zip2 (λ (a b : ℕ). cond (eqb a b) 255 0) (zip2 bit_and v (replicate 16 y))
    (replicate 16 z))) % 2 ^ 64 ≡ mask_l (map (λ (x : ℕ). eqb (bit_and x y) z) v)
lane_mask v y z long =
    let w = zip2 bit_and v (replicate 16 y) in
    let w-is : w ≡ map (λ (x : ℕ). bit_and x y) v = zip2_splat bit_and v 16 y long in
    let size : length (map (λ (x : ℕ). bit_and x y) v) ≡ length v = simp length-map in
    bitmask_splat w8 eqb w 16 z (ap length w-is ∙ size ∙ long) (omega arith)
    ∙ ap (λ (l : List ℕ). mask_l (map (λ (x : ℕ). eqb x z) l)) w-is
    ∙ ap mask_l (map-map (λ (x : ℕ). eqb x z) (λ (x : ℕ). bit_and x y) v)

-- ---- bytes that are one piece each

abbrev pub is_longer : ℕ → Bool
is_longer x = eqb (bit_and x 2) 2

abbrev pub is_three : ℕ → Bool
is_three x = eqb (bit_and x 3) 0

-- a byte begins a longer piece unless its low two bits are 0 or 1
longer_is : (b : ℕ) → b < 256 → is_longer b ≡ not (ltb (b % 4) 2)
longer_is b small = agree_below_at is_longer (λ x. not (ltb (x % 4) 2)) 256 b refl small

-- a byte holds three steps if its low two bits are 0
three_is : (b : ℕ) → b < 256 → is_three b ≡ eqb (b % 4) 0
three_is b small = agree_below_at is_three (λ x. eqb (x % 4) 0) 256 b refl small

-- one byte that is a piece, and how many waits it holds
record OneByte (b : ℕ) : Type 0 where
  piece : IsPiece (b ∷ [])
  count : length (waits_of (b ∷ [])) ≡ 1 + 2 * cond (is_three b) 1 0

-- a byte of a layout of length one is a piece, and holds as many waits as that layout
one_byte_in : (l : Layout) (b k : ℕ) → b < 256 → layout_of b ≡ l → layout_length l b ≡ 1 → (n : ℕ) → length (layout_waits l n) ≡ k → k ≡ 1 + 2 * cond (is_three b) 1 0 → n ≡ b + 256 * 0 → OneByte b
one_byte_in l b k small is one n held k-is n-is = record {
  piece = record { bytes = one_is_bytes b small; whole = sym (ap (λ (m : Layout). layout_length m b) is ∙ one) };
  count = ap (λ (m : Layout). length (layout_waits m (b + 256 * 0))) is ∙ ap (λ (x : ℕ). length (layout_waits l x)) (sym n-is) ∙ held ∙ k-is;
}

-- a byte that begins no longer piece is a piece by itself
one_byte : (b : ℕ) → b < 256 → is_longer b ≡ false → OneByte b
one_byte b small short =
    elim (cases_lt (b % 4) 1) [
      | inl none ↦
          let low : b % 4 ≡ 0 = omega arith in
          let e : is_three b ≡ true = three_is b small ∙ ap (λ (x : ℕ). eqb x 0) low in
          one_byte_in layout.ThreeSteps b 3 small (three_first b low) refl _ refl (sym (ap (λ (t : Bool). 1 + 2 * cond t 1 0) e)) refl
      | inr some ↦ elim (cases_lt (b % 4) 2) [
        | inl less ↦
            let low : b % 4 ≡ 1 = omega arith in
            let e : is_three b ≡ false = three_is b small ∙ ap (λ (x : ℕ). eqb x 0) low in
            one_byte_in layout.ShortStep b 1 small (short_first b low) refl _ refl (sym (ap (λ (t : Bool). 1 + 2 * cond t 1 0) e)) refl
        | inr more ↦
            let e = le-ltb (b % 4) 2 more in
            let wrong : true ≡ false = sym (ap not e) ∙ sym (longer_is b small) ∙ short in
            absurd cc
      ]
    ]

-- the bytes up to the first that begins a longer piece
pub record ShortRun (xs : List ℕ) (n : ℕ) : Type 0 where
  pub pieces : AllByRecursion IsPiece (singles (take n xs))
  pub count : length (flat_map waits_of (singles (take n xs))) ≡ n + 2 * count_by is_three (take n xs)

-- the bytes before the first that begins a longer piece are pieces of one byte each
short_run : (xs : List ℕ) → ((i : ℕ) → get_or xs i 0 < 256) → ShortRun xs (prefix_len (λ x. not (is_longer x)) xs)
short_run [] fits = record { pieces = tt; count = refl }
short_run (b ∷ xs) fits =
    elim (cases_Bool (is_longer b)) [
      | inl longer ↦ rw longer (record { pieces = tt; count = refl })
      | inr short ↦
          let n = prefix_len (λ x. not (is_longer x)) xs in
          let later = short_run xs (λ i. fits (suc i)) in
          let one = one_byte b (fits 0) short in
          let next : 1 + n ≡ suc n = omega arith in
          let whole : length (flat_map waits_of (singles (take (suc n) (b ∷ xs)))) ≡ length (waits_of (b ∷ [])) + length
          (flat_map waits_of (singles (take n xs))) =
          length-append (waits_of (b ∷ [])) (flat_map waits_of (singles (take n xs))) in
          let threes : count_by is_three (take (suc n) (b ∷ xs)) ≡ cond (is_three b) 1 0 + count_by is_three (take n xs) = sum_by-cons (λ (x : ℕ). cond (is_three x) 1 0) b (take n xs) in
          let here : ShortRun (b ∷ xs) (suc n) = record {
            pieces = (one.piece, later.pieces);
            count = omega (arith, whole, threes, one.count, later.count);
          } in
          let e : cond (not (is_longer b)) (1 + n) 0 ≡ suc n = ap (λ (t : Bool). cond (not t) (1 + n) 0) short ∙ next in
          subst (ShortRun (b ∷ xs)) (sym e) here
    ]

-- of n bytes at most n hold three steps
pub threes_within : (xs : List ℕ) (n : ℕ) → count_by is_three (take n xs) ≤ n
threes_within xs n = omega (arith, count_by-le-length is_three (take n xs), length-take n xs)

-- ---- 16 bytes

-- what `count_short` needs of the run and of the threes in it
module _ (bytes : List ℕ) (enough : 16 ≤ length bytes) (fits : (i : ℕ) → Fits w8 (get_or bytes i 0)) where
  -- the next 16 bytes
  lanes : List ℕ
  lanes = chunk 0 16 bytes

  lanes_long : length lanes ≡ 16
  unfolding lanes
  lanes_long = length-chunk 0 16 bytes enough

  lanes_fit : (i : ℕ) → get_or lanes i 0 < 256
  unfolding lanes
  lanes_fit i = IsBytes-take 16 bytes (λ j. (fits j).fits) i

  -- the lowest set bit of the mask is the number of bytes before the first that begins a longer piece
  pub run_is : (run : ℕ) →
      run ≡ first_set (mask_l
      (map (top 7) (zip2 (λ (a b : ℕ). cond (eqb a b) 255 0) (zip2 bit_and (chunk 0 16 bytes) (replicate 16 2))
      (replicate 16 2))) % 2 ^ 64) 16 → run ≡ prefix_len (λ x. not (is_longer x)) (chunk 0 16 bytes)
  unfolding lanes
  run_is run run-is =
      run-is
      ∙ ap (λ (m : ℕ). first_set m 16) (lane_mask lanes 2 2 lanes_long)
      ∙ first_set_mask_l is_longer lanes 16 lanes_long (omega arith)

  -- there are at most 16 of them
  pub run_within : (run : ℕ) → run ≡ prefix_len (λ x. not (is_longer x)) (chunk 0 16 bytes) → run ≤ 16
  unfolding lanes
  run_within run run-is = omega (arith, run-is, lanes_long, prefix_len-le-length (λ x. not (is_longer x)) lanes)

  pub run_short : (run : ℕ) → run ≡ prefix_len (λ x. not (is_longer x)) (chunk 0 16 bytes) → ShortRun (chunk 0 16 bytes) run
  unfolding lanes
  run_short run run-is = subst (ShortRun lanes) (sym run-is) (short_run lanes lanes_fit)

  -- the first `run` lanes are the first `run` bytes
  pub take_lanes : (run : ℕ) → run ≤ 16 → take run (chunk 0 16 bytes) ≡ take run bytes
  take_lanes run within = take-take run 16 bytes within

  -- the set bits of the mask count those of them that hold three steps
  pub threes_are : (run threes : ℕ) → run ≤ 16 →
      threes ≡ count_ones (mask_l
      (map (top 7) (zip2 (λ (a b : ℕ). cond (eqb a b) 255 0) (zip2 bit_and (chunk 0 16 bytes) (replicate 16 3))
      (replicate 16 0))) % 2 ^ 64 % (1 * 2 ^ run % 2 ^ 64)) → threes ≡ count_by is_three (take run (chunk 0 16 bytes))
  unfolding lanes
  threes_are run threes within threes-is =
      let few : 2 ^ run ≤ 2 ^ 16 = pow_mono within in
      let whole : 1 * 2 ^ run % 2 ^ 64 ≡ 2 ^ run = omega (arith, few) in
      threes-is
      ∙ ap (λ (n : ℕ). count_ones (mask_l (map (top 7) (zip2 (λ (a b : ℕ). cond (eqb a b) 255 0) (zip2 bit_and lanes (replicate 16 3)) (replicate 16 0))) % 2 ^ 64 % n)) whole
      ∙ ap (λ (m : ℕ). count_ones (m % 2 ^ run)) (lane_mask lanes 3 0 lanes_long)
      ∙ ap count_ones (mask_take (map is_three lanes) run ∙ ap mask_l (take-map is_three run lanes))
      ∙ ones-mask_l is_three (take run lanes)
