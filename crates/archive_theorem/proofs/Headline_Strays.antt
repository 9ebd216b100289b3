-- Each stranger's datagram entered the network by an event.
use Rattle.std.proofs.Common.{◌≡◌, ℕ, List, [], ◌∷◌, ◌++◌, Contains, sym, subst, inl, inr}
use Rattle.archive_table.specs.Table.{Maps}
use Rattle.archive_model.specs.World.{Datagram, stray, World, WorldStep, run_from, Origin, first_world}
use Rattle.archive_theorem.specs.Headline.{StraysBy}
use Rattle.archive_model.proofs.Places.{Has-from_contains}
use Rattle.archive_model.proofs.Growing.{step-adds}
use Rattle.archive_model.proofs.Origins.{added-in}
use Rattle.archive_theorem.proofs.Claim_Invariant.{none_at}

strays_at : (before after : List WorldStep) (s : WorldStep) (d : Datagram) → s.event ≡ stray d → StraysBy (before ++ s ∷ after) d
strays_at [] after s d is = inl is
strays_at (x ∷ before) after s d is = inr (strays_at before after s d is)

-- in a run each stranger's datagram enters by an event
pub strays-by : (o : Origin) (steps : List WorldStep) (d : Datagram) → Contains (run_from steps (first_world o)).strays d → StraysBy steps d
strays-by o steps d among =
    let w = first_world o in
    let has = Has-from_contains (run_from steps w).strays d among in
    elim (added-in (λ (v : World). v.strays) (λ v s x. s.event ≡ stray x) (λ v s. (step-adds v s).strays) steps w has.position d has.is) [
      | inl old ↦ none_at d (record { position = has.position; is = old })
      | inr k ↦ subst (λ (l : List WorldStep). StraysBy l d) (sym k.split) (strays_at k.before k.after k.step d k.fits)
    ]
