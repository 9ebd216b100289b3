use Rattle.std.proofs.Common.{ap}
use Rattle.archive_keepers.proofs.Lifetimes.{EndsWithin, all_within, both_within, static_within}
use Rattle.archive_keepers.proofs.Logs.{same_after_keep, same_after_refusal}
use Rattle.archive_keepers.proofs.readable.ReadableKeeper.keep.Goals as goal
use Rattle.archive_keepers.proofs.readable.ReadableKeeper.keep.Goals.{then-is_refused, else-is_refused}

pub of-self-inside-requires : goal.of-self-inside-requires
of-self-inside-requires g c κs within =
    let log : EndsWithin κs.1.1.0 κs.1.0 = record { each = within.0.0 } in
    let lent : EndsWithin κs.1.1.1.0 κs.1.0 = record { each = within.0.1.0 } in
    let logged : EndsWithin κs.1.1.1.1.0 κs.1.0 = record { each = within.0.1.1.0 } in
    let alloc : EndsWithin g.row.A.lives κs.1.0 = record { each = within.1.0 } in
    all_within (search (both_within, static_within) depth 80 fits 5000)

pub invariant_of-self : goal.invariant_of-self
invariant_of-self g c =
    elim c.if-is_refused.branch [
      | then-is_refused w ↦
          same_after_refusal _ _ _ _ _ _ _ _ (ap (λ i. i.entries.entries) w.self-inside-is) (ap (λ i. g.K.Keeper.calls i.keeper) w.self-inside-is) w.result-is c.of-self-inside.ensures c.self.invariant
      | else-is_refused w ↦
          same_after_keep _ _ _ _ _ _ _ _ _ _ (ap (λ i. i.entries.entries) w.self-inside-is) (ap (λ i. g.K.Keeper.calls i.keeper) w.self-inside-is) w.result-is w.keep-result.ensures.calls c.of-self-inside.ensures c.self.invariant
    ]
