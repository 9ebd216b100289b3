-- Inputs by their sources, and what several of them have if standard input is among them.
use Rattle.std.proofs.Common.{◌≡◌, ℕ, false, List, [], ◌∷◌, Option, Some, None, IfSome, refl, ap, true≢false, inl, inr, ⊎_elim, string_bytes}
use Rattle.command_line.specs.declared.source.Source.{Source}
use Rattle.command_line.specs.declared.source.Source.TheVariants.{Standard, Named}
use Rattle.command_line.specs.Inputs.{has_standard, knowns_of}
use Rattle.show_commands.specs.SeveralInputs.{AreLessKnown, FilesRan}
use Rattle.show_commands.specs.Knowing.{reported_less}

module _ (bytes_of : List ℕ → Option (List ℕ)) where
  -- what standard input had makes no difference to inputs among which it is not
  pub knowns_without : (a b : Option (List ℕ)) (sources : List Source) → has_standard sources ≡ false → knowns_of bytes_of a sources ≡ knowns_of bytes_of b sources
  knowns_without a b [] none = refl
  knowns_without a b (Standard ∷ sources) none = absurd (true≢false none)
  knowns_without a b (Named name ∷ sources) none = ap (λ (ks : List (Option (List ℕ))). bytes_of (string_bytes name) ∷ ks) (knowns_without a b sources none)

  -- what standard input had is perhaps not known, but was read
  less_given : (bytes : List ℕ) (given : Option (List ℕ)) → IfSome given (λ (xs : List ℕ). bytes ≡ xs) → IfSome given (λ (xs : List ℕ). Some bytes ≡ Some xs)
  less_given bytes None same = tt
  less_given bytes (Some xs) same = ap Some same

  -- the same is known of a file before and after
  same_known : (known : Option (List ℕ)) → IfSome known (λ (bytes : List ℕ). known ≡ Some bytes)
  same_known None = tt
  same_known (Some bytes) = refl

  pub knowns_read : (bytes : List ℕ) (given : Option (List ℕ)) → IfSome given (λ (xs : List ℕ). bytes ≡ xs) → (sources : List Source) → AreLessKnown (knowns_of bytes_of (Some bytes) sources) (knowns_of bytes_of given sources)
  knowns_read bytes given same [] = tt
  knowns_read bytes given same (Standard ∷ sources) = (less_given bytes given same, knowns_read bytes given same sources)
  knowns_read bytes given same (Named name ∷ sources) = (same_known (bytes_of (string_bytes name)), knowns_read bytes given same sources)

-- what a command did, over inputs of which less is known
pub ran_less : (W P V Q : Type 0) (more less : List (Option (List ℕ))) (status : ℕ) (old new : Option (List ℕ)) → (W → V) → (P → Q) →
    AreLessKnown more less → FilesRan W P more status old new → FilesRan V Q less status old new
ran_less W P V Q more less status old new whole prefix are ran = record {
  done = λ e. whole (ran.done e);
  failed = λ e. ⊎_elim (λ same. inl same) (λ cut. inr (prefix cut)) (ran.failed e);
  unreadable = λ e. let bad = ran.unreadable e in let why = bad.1 in (bad.0, (why.0, why.1, λ texts reported. why.2 texts (reported_less more less texts are reported)));
  never = ran.never;
  few = ran.few;
}
