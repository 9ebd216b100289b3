use Rattle.std.proofs.Common.{◌≡◌, ◌≢◌, ℕ, ◌<◌, ◌≤◌, Bor, Global}
use Rattle.refusing.specs.declared.Refusing.{Refusing}
use Rattle.refusing.specs.declared.each_request.Outcome.{Outcome}
use Rattle.refusing.specs.declared.each_request.Outcome.TheVariants.{Wrong}
use Rattle.refusing.proofs.each_request.refuse_each.Given as goal

-- no run so far returned a wrong answer
abbrev pub invariant-loop-nth : goal.invariant-loop-nth
invariant-loop-nth g l =
    (n : ℕ) → 1 ≤ n → n < l.nth → (refusing : Bor (Refusing Global)) × (outcome : Outcome) × (refusing.now.nth ≡ n) × (outcome ≢ Wrong) × (goal.Fn-dyn g).post l.run.now (refusing, tt) outcome
