use Rattle.std.proofs.Common.{rules, ℕ, ◌+◌, ◌<◌, ◌≤◌, arith, inl, inr, sym, subst, eq-or-lt_of_le}
use Rattle.refusing.proofs.each_request.refuse_each.Goals as goal

-- what holds of all numbers below m, and of m, holds of all numbers below m + 1
up_to_next : (P : ℕ → Type 0) (m : ℕ) → ((n : ℕ) → 1 ≤ n → n < m → P n) → P m → (n : ℕ) → 1 ≤ n → n < m + 1 → P n
up_to_next P m before here n first below = elim (eq-or-lt_of_le (let last : n ≤ m = omega (arith, below) in last)) [
  | inl is ↦ subst P (sym is) here
  | inr less ↦ before n first less
]

pub loop-nth-preserved : goal.loop-nth-preserved
loop-nth-preserved g c = up_to_next _ c.loop-nth.nth c.loop-nth.invariant (search rules)

pub returns-in-loop-nth-clause-each : goal.returns-in-loop-nth-clause-each
returns-in-loop-nth-clause-each g c = λ n first few. c.loop-nth.invariant n first (omega (arith, few, c.if-nth-least.false))

pub returns-then-nth-least-clause-last : goal.returns-then-nth-least-clause-last
returns-then-nth-least-clause-last g c = search rules

pub returns-then-nth-least-clause-each : goal.returns-then-nth-least-clause-each
returns-then-nth-least-clause-each g c = search rules
