-- The ticks in the body of a record.
use Rattle.std.proofs.Common.{◌≡◌, ℕ, ◌+◌, ◌/◌, ◌%◌, Bool, true, false, List, ◌∷◌, ◌++◌, length, drop, refl, ap, sym, ◌∙◌, arith}
use Rattle.std.proofs.Math.Seq.{drop-append-add}
use Rattle.std.specs.declared.cmp.Ordering.{Ordering}
use Rattle.std.specs.declared.cmp.Ordering.TheVariants.{Less, Equal, Greater}
use Rattle.std.specs.Ordering.{nat_cmp, is_eq, is_lt, ordering_then}
use Rattle.std.specs.Cmp.Lexicographic.{slice_cmp}
use Rattle.byteorder.specs.Endian.{little_bytes, little_number}
use Rattle.byteorder.specs.Numbers.{little_number-reads_back}
use Rattle.tws_file.specs.Text.{Solution, solution, body_of, IsSolution}
use Rattle.tws_file.proofs.Comparing.{then_as_one}
use Rattle.tws_best.specs.Rank.{ticks_of, rank_of, rank_cmp}

-- there are twelve bytes before the ticks: here for any parts of these lengths
after_twelve : (password moves ticks : List ℕ) (a b flags start p q r s : ℕ) → length password ≡ 4
    → drop 12 ((a ∷ b ∷ password) ++ (flags ∷ start ∷ (p ∷ q ∷ r ∷ s ∷ (ticks ++ moves)))) ≡ ticks ++ moves
after_twelve password moves ticks a b flags start p q r s four =
    let rest : List ℕ = flags ∷ start ∷ (p ∷ q ∷ r ∷ s ∷ (ticks ++ moves)) in
    let size : 12 ≡ length (a ∷ b ∷ password) + 6 = omega (arith, four) in
    ap (λ n. drop n ((a ∷ b ∷ password) ++ rest)) size ∙ drop-append-add (a ∷ b ∷ password) rest 6

-- the ticks in a solution's body are the solution's
pub ticks_in : (s : Solution) → IsSolution s → ticks_of (body_of (solution s)) ≡ s.ticks
ticks_in s fits =
    ap (little_number 4) (after_twelve s.key.password s.moves (little_bytes 4 s.ticks) (s.key.number % 256) (s.key.number / 256 % 256) s.flags s.start _ _ _ _ fits.fields.key.fits.password_length)
    ∙ little_number-reads_back 4 s.ticks s.moves fits.fields.ticks

-- ---- the rank of a solution, without its body

tied : (o b : Ordering) → is_eq o ≡ true → ordering_then o b ≡ b
tied Less b eq = absurd cc
tied Equal b eq = refl
tied Greater b eq = absurd cc

decided : (o b : Ordering) → is_eq o ≡ false → ordering_then o b ≡ o
decided Less b eq = refl
decided Equal b eq = absurd cc
decided Greater b eq = refl

-- a solution compared with a body by ticks, size and bytes, in this order
module _ (s : Solution) (old : List ℕ) (t z o : Ordering) (fits : IsSolution s) (t-is : t ≡ nat_cmp s.ticks (ticks_of old))
    (z-is : z ≡ nat_cmp (length (body_of (solution s))) (length old)) (o-is : o ≡ ordering_then t z) where
  -- the ranks compare by ticks and size, and then by the bytes
  rank_is : rank_cmp (rank_of (body_of (solution s))) (rank_of old) ≡ ordering_then o (slice_cmp nat_cmp (body_of (solution s)) old)
  rank_is =
      let b = slice_cmp nat_cmp (body_of (solution s)) old in
      ap (λ n. ordering_then (nat_cmp n (ticks_of old)) (ordering_then (nat_cmp (length (body_of (solution s))) (length old)) b)) (ticks_in s fits)
      ∙ (ap (λ p. ordering_then p (ordering_then (nat_cmp (length (body_of (solution s))) (length old)) b)) (sym t-is)
      ∙ (ap (λ p. ordering_then t (ordering_then p b)) (sym z-is)
      ∙ (then_as_one t z b ∙ ap (λ p. ordering_then p b) (sym o-is))))

  -- ticks and size are equal, so the bytes decide
  pub below_by_bytes : (r : Bool) (b : Ordering) → is_eq o ≡ true → b ≡ slice_cmp nat_cmp (body_of (solution s)) old → r ≡ is_lt b → r ≡ is_lt (rank_cmp (rank_of (body_of (solution s))) (rank_of old))
  below_by_bytes r b eq b-is r-is = r-is ∙ ap is_lt (b-is ∙ (sym (tied o (slice_cmp nat_cmp (body_of (solution s)) old) eq) ∙ sym rank_is))

  -- ticks or size decide
  pub below_by_size : (r : Bool) → is_eq o ≡ false → r ≡ is_lt o → r ≡ is_lt (rank_cmp (rank_of (body_of (solution s))) (rank_of old))
  below_by_size r eq r-is = r-is ∙ ap is_lt (sym (decided o (slice_cmp nat_cmp (body_of (solution s)) old) eq) ∙ sym rank_is)
