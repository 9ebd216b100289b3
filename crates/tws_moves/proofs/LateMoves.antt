-- Moves that no bytes spell: the first wait that no layout holds.
use Rattle.std.proofs.Common.{◌≡◌, ◌⊎◌, ℕ, suc, ◌+◌, ◌<◌, ◌≤◌, List, [], ◌∷◌, length, take, inl, inr, slice_index_or, sym, subst, arith, length-take, get_or-take}
use Rattle.std.specs.List.{AllByRecursion}
use Rattle.std.proofs.lemmas.Bool.{cases_lt, cases_order}
use Rattle.tws_moves.specs.declared.act.Act.TheVariants.{Step}
use Rattle.tws_moves.specs.Move.{Move, Wait, IsAct, IsTimed, waits_from}
use Rattle.tws_moves.specs.Shortest.{IsSpelled, IsTooLateAt, shortest_of}
use Rattle.tws_moves.specs.Steps.{HasLayout, ticks_limit}
use Rattle.byte_output.proofs.Lists.{all_at, all_take_fewer}
use Rattle.tws_moves.proofs.Waits.{waits_length, waits_take, timed_take}
use Rattle.tws_moves.proofs.Least.{held_spells, spelled_held}

-- a wait, where any will do
any_wait : Wait
any_wait = record { ticks = 0; act = Step 0 }

-- the wait at `index` is the first that no layout holds
module _ (moves : List Move) (timed : IsTimed moves) (index : ℕ) (inside : index < length moves)
    (held : AllByRecursion HasLayout (take index (waits_from 0 moves)))
    (unheld : (w : Wait) → HasLayout (slice_index_or (waits_from 0 moves) index w) → ⊥) where
  -- the moves before that one are spelled
  fronts_spelled : (n : ℕ) → n ≤ index → IsSpelled (take n moves)
  fronts_spelled n before =
      let fewer = subst (AllByRecursion HasLayout) (sym (waits_take 0 n moves)) (all_take_fewer HasLayout n index (waits_from 0 moves) before held) in
      (shortest_of (take n moves), held_spells (take n moves) (timed_take n moves timed) fewer)

  -- no bytes spell the moves up to that one and including it
  with_it : IsSpelled (take (index + 1) moves) → ⊥
  with_it spelled =
      let all = subst (AllByRecursion HasLayout) (waits_take 0 (index + 1) moves) (spelled_held spelled.0 (take (index + 1) moves) spelled.1) in
      let within : index < index + 1 = omega arith in
      let at = all_at HasLayout (take (index + 1) (waits_from 0 moves)) index any_wait (omega (arith, length-take (index + 1) (waits_from 0 moves), waits_length 0 moves)) all in
      unheld any_wait (subst HasLayout (get_or-take (index + 1) (waits_from 0 moves) index any_wait within) at)

  -- no bytes spell all the moves
  never : IsSpelled moves → ⊥
  never spelled = unheld any_wait (all_at HasLayout (waits_from 0 moves) index any_wait (omega (arith, waits_length 0 moves)) (spelled_held spelled.0 moves spelled.1))

  -- so that move is the one that waits too long
  pub too_late : IsTooLateAt moves index
  too_late = record { within = inside; before = fronts_spelled; first = with_it; none = never }

-- there is only one such index
pub one_index : (moves : List Move) (m n : ℕ) → IsTooLateAt moves m → IsTooLateAt moves n → m ≡ n
one_index moves m n first second =
    elim (cases_order m n) [
      | inl same ↦ same
      | inr (inl less) ↦ absurd (first.first (second.before (m + 1) (omega arith)))
      | inr (inr more) ↦ absurd (second.first (first.before (n + 1) (omega arith)))
    ]

-- ---- every list of timed moves

-- the first wait that no layout holds
pub record FirstUnheld (waits : List Wait) : Type 0 where
  pub index : ℕ
  pub inside : index < length waits
  pub held : AllByRecursion HasLayout (take index waits)
  pub unheld : (d : Wait) → HasLayout (slice_index_or waits index d) → ⊥

-- either layouts hold all waits, or there is a first wait that none holds
first_unheld : (waits : List Wait) → AllByRecursion (λ (w : Wait). IsAct w.act) waits → AllByRecursion HasLayout waits ⊎ FirstUnheld waits
first_unheld [] acts = inl tt
first_unheld (w ∷ ws) acts =
    elim (cases_lt w.ticks (ticks_limit w.act)) [
      | inl below ↦ elim (first_unheld ws acts.1) [
        | inl all ↦ inl (record { act = acts.0; ticks = below }, all)
        | inr later ↦ inr (record { index = suc later.index; inside = omega (arith, later.inside); held = (record { act = acts.0; ticks = below }, later.held); unheld = later.unheld })
      ]
      | inr over ↦ inr (record { index = 0; inside = omega arith; held = tt; unheld = λ d held. omega (arith, held.ticks, over) })
    ]

-- if the acts of the moves are valid, so are those of their waits
acts_of_waits : (tick : ℕ) (moves : List Move) → AllByRecursion (λ (m : Move). IsAct m.act) moves → AllByRecursion (λ (w : Wait). IsAct w.act) (waits_from tick moves)
acts_of_waits tick [] acts = tt
acts_of_waits tick (m ∷ ms) acts = (acts.0, acts_of_waits (m.at + 1) ms acts.1)

-- timed moves are spelled by some bytes, or there is a first move that waits too long
pub late_or_spelled : (moves : List Move) → AllByRecursion (λ (m : Move). IsAct m.act) moves → IsTimed moves → IsSpelled moves ⊎ ((index : ℕ) × IsTooLateAt moves index)
late_or_spelled moves acts timed =
    elim (first_unheld (waits_from 0 moves) (acts_of_waits 0 moves acts)) [
      | inl all ↦ inl (shortest_of moves, held_spells moves timed all)
      | inr late ↦ inr (late.index, too_late moves timed late.index (omega (arith, late.inside, waits_length 0 moves)) late.held late.unheld)
    ]
