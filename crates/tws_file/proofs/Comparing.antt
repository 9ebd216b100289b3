-- Comparing bytes in two parts with others, byte by byte.
use Rattle.std.proofs.Common.{◌≡◌, ℕ, List, [], ◌∷◌, ◌++◌, length, ap, sym, ◌∙◌, refl, arith}
use Rattle.std.specs.declared.cmp.Ordering.{Ordering}
use Rattle.std.specs.declared.cmp.Ordering.TheVariants.{Less, Equal, Greater}
use Rattle.std.specs.Ordering.{nat_cmp, ordering_then}
use Rattle.std.specs.Cmp.Lexicographic.{slice_cmp}

-- a difference in the first part decides, otherwise the second part does
pub then_as_one : (a b c : Ordering) → ordering_then a (ordering_then b c) ≡ ordering_then (ordering_then a b) c
then_as_one Less b c = refl
then_as_one Equal b c = refl
then_as_one Greater b c = refl

-- parts of the same length are compared one after the other
cmp_parts : (xs zs ys ws : List ℕ) → length xs ≡ length zs
    → slice_cmp nat_cmp (xs ++ ys) (zs ++ ws) ≡ ordering_then (slice_cmp nat_cmp xs zs) (slice_cmp nat_cmp ys ws)
cmp_parts [] [] ys ws same = refl
cmp_parts [] (z ∷ zs) ys ws same = absurd (omega (arith, same))
cmp_parts (x ∷ xs) [] ys ws same = absurd (let no : ⊥ = omega (arith, same) in no)
cmp_parts (x ∷ xs) (z ∷ zs) ys ws same =
    ap (ordering_then (nat_cmp x z)) (cmp_parts xs zs ys ws (omega (arith, same)))
    ∙ then_as_one (nat_cmp x z) (slice_cmp nat_cmp xs zs) (slice_cmp nat_cmp ys ws)

-- two texts, each in two parts of which the first have the same length
module _ (first rest body head tail bytes : List ℕ) (body-is : first ++ rest ≡ body) (bytes-is : head ++ tail ≡ bytes) (same : length first ≡ length head) where
  -- the first parts are compared, and then the others
  whole-is : slice_cmp nat_cmp body bytes ≡ ordering_then (slice_cmp nat_cmp first head) (slice_cmp nat_cmp rest tail)
  whole-is = sym (ap (λ xs. slice_cmp nat_cmp xs bytes) body-is) ∙ (sym (ap (slice_cmp nat_cmp (first ++ rest)) bytes-is) ∙ cmp_parts first head rest tail same)

  -- the first parts are the same bytes
  pub by_the_rest : (o : Ordering) → slice_cmp nat_cmp first head ≡ Equal → o ≡ slice_cmp nat_cmp rest tail → o ≡ slice_cmp nat_cmp body bytes
  by_the_rest o equal is = is ∙ sym (whole-is ∙ ap (λ r. ordering_then r (slice_cmp nat_cmp rest tail)) equal)

  -- the first parts differ
  pub by_the_first : (o : Ordering) → (o ≡ Equal → ⊥) → o ≡ slice_cmp nat_cmp first head → o ≡ slice_cmp nat_cmp body bytes
  by_the_first o other is = decided o other ∙ (ap (λ r. ordering_then r (slice_cmp nat_cmp rest tail)) is ∙ sym whole-is)
    where
      decided : (o : Ordering) → (o ≡ Equal → ⊥) → o ≡ ordering_then o (slice_cmp nat_cmp rest tail)
      decided Less other = refl
      decided Equal other = absurd (other refl)
      decided Greater other = refl
