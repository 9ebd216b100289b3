-- No step sends more than one datagram, so the network never has more datagrams than steps.
use Rattle.std.proofs.Common.{ℕ, suc, ◌+◌, ◌≤◌, List, [], ◌∷◌, length, ap, inl, inr, arith, length-append}
use Rattle.archive_table.specs.Table.{Maps}
use Rattle.archive_model.specs.World.{Datagram, WorldStep, World, happens, run_from, Origin, first_world}
use Rattle.archive_model.specs.Adding.{AddsOne}
use Rattle.archive_model.proofs.Growing.{step-adds}

-- a step adds at most one datagram
step_sends : {old new : List Datagram} → AddsOne (λ (d : Datagram). Unit {0}) old new → length new ≤ suc (length old)
step_sends {old} (inl same) = omega (arith, ap length same)
step_sends {old} (inr one) = omega (arith, ap length one.1, length-append old (one.0 ∷ []))

-- the network has at most one more datagram for each step
run_from-sends : (steps : List WorldStep) (w : World) → length (run_from steps w).net ≤ length w.net + length steps
run_from-sends [] w = omega arith
run_from-sends (s ∷ steps) w =
    let now = step_sends (step-adds w s).net in
    let rest = run_from-sends steps (happens s w) in
    omega (arith, now, rest)

-- so in a run no more datagrams than steps
pub run-sends : (o : Origin) (steps : List WorldStep) → length (run_from steps (first_world o)).net ≤ length steps
run-sends o steps =
    let all : length (run_from steps (first_world o)).net ≤ 0 + length steps = run_from-sends steps (first_world o) in
    omega arith
