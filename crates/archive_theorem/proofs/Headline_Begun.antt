-- Every operation that has begun is that of an event, and its count of files taken is that of the run before it.
use Rattle.std.proofs.Common.{◌≡◌, ℕ, List, length, Contains, inl, inr}
use Rattle.archive_table.specs.Table.{Maps}
use Rattle.archive_model.specs.World.{Begun, begin, World, WorldStep, run_from, Origin, first_world}
use Rattle.archive_theorem.specs.Headline.{BeganBy}
use Rattle.archive_model.proofs.Places.{Has-from_contains}
use Rattle.archive_model.proofs.Growing.{step-adds}
use Rattle.archive_model.proofs.Origins.{added-in}
use Rattle.archive_theorem.proofs.Claim_Invariant.{none_at}

-- the event begins it
abbrev Begins : World → WorldStep → Begun → Type 0
Begins w s b = (s.event ≡ begin b.client b.operation) × (b.taken ≡ length w.taken)

-- in a run each operation begins with an event
pub began-by : (o : Origin) (steps : List WorldStep) (b : Begun) → Contains (run_from steps (first_world o)).begun b → BeganBy (first_world o) steps b
began-by o steps b among =
    let w = first_world o in
    let has = Has-from_contains (run_from steps w).begun b among in
    elim (added-in (λ (v : World). v.begun) Begins (λ v s. (step-adds v s).begun) steps w has.position b has.is) [
      | inl old ↦ none_at b (record { position = has.position; is = old })
      | inr k ↦ record { before = k.before; step = k.step; after = k.after; split = k.split; event = k.fits.0; counted = k.fits.1 }
    ]
