-- The running tick: each move is made at the sum of the waits up to its own, plus the number of moves before it.
use Rattle.std.proofs.Common.{◌≡◌, ℕ, zero, suc, ◌+◌, ◌<◌, List, [], ◌∷◌, ◌++◌, length, take, slice_index_or, refl, ap, ◌∙◌, arith}
use Rattle.std.specs.List.{sum_by}
use Rattle.std.proofs.lemmas.List.Sums.{sum_by-cons}
use Rattle.tws_moves.specs.declared.act.Act.{Act}
use Rattle.tws_moves.specs.Move.{Move, Wait, AreMoves, moves_from, tick_after}

-- the waits up to number i, and the ticks of the moves between them
abbrev ticks_to : List Wait → ℕ → ℕ
ticks_to waits i = sum_by (λ (w : Wait). w.ticks) (take (i + 1) waits) + i

-- the first move is made after its own wait
first_ticks : (w : Wait) (ws : List Wait) → ticks_to (w ∷ ws) 0 ≡ w.ticks
first_ticks w ws = omega arith

-- each later one after one more tick, for the move before, and the waits since
later_ticks : (w : Wait) (ws : List Wait) (i : ℕ) → ticks_to (w ∷ ws) (suc i) ≡ w.ticks + ticks_to ws i + 1
later_ticks w ws i =
    let next : suc i + 1 ≡ suc (i + 1) = omega arith in
    let cut = ap (λ (n : ℕ). sum_by (λ (v : Wait). v.ticks) (take n (w ∷ ws))) next ∙ sum_by-cons (λ (v : Wait). v.ticks) w (take (i + 1) ws) in
    omega (arith, cut)

-- made from a tick on
record Made (tick : ℕ) (waits : List Wait) (moves : List Move) : Type 0 where
  count : length moves ≡ length waits
  act : (i : ℕ) (m : Move) (w : Wait) → i < length waits → (slice_index_or moves i m).act ≡ (slice_index_or waits i w).act
  at : (i : ℕ) (m : Move) → i < length waits → (slice_index_or moves i m).at ≡ tick + ticks_to waits i

pub count_from : (tick : ℕ) (waits : List Wait) → length (moves_from tick waits) ≡ length waits
count_from tick [] = refl
count_from tick (w ∷ ws) = omega (arith, count_from (tick + w.ticks + 1) ws)

-- the moves have the acts of the waits, in order
act_from : (tick : ℕ) (waits : List Wait) (i : ℕ) (m : Move) (v : Wait) → i < length waits → (slice_index_or (moves_from tick waits) i m).act ≡ (slice_index_or waits i v).act
act_from tick [] i m v inside = absurd (omega (arith, inside))
act_from tick (w ∷ ws) zero m v inside = refl
act_from tick (w ∷ ws) (suc i) m v inside = act_from (tick + w.ticks + 1) ws i m v (omega (arith, inside))

-- a move's tick is the starting tick plus the ticks up to it
at_from : (tick : ℕ) (waits : List Wait) (i : ℕ) (m : Move) → i < length waits → (slice_index_or (moves_from tick waits) i m).at ≡ tick + ticks_to waits i
at_from tick [] i m inside = absurd (omega (arith, inside))
at_from tick (w ∷ ws) zero m inside = omega (arith, first_ticks w ws)
at_from tick (w ∷ ws) (suc i) m inside =
    omega (arith, at_from (tick + w.ticks + 1) ws i m (omega (arith, inside)), later_ticks w ws i)

-- the moves by a running tick are those that the waits make from that tick on
made_from : (tick : ℕ) (waits : List Wait) → Made tick waits (moves_from tick waits)
made_from tick waits = record { count = count_from tick waits; act = act_from tick waits; at = at_from tick waits }

-- no other moves are made
made_alone : (tick : ℕ) (waits : List Wait) (moves : List Move) → Made tick waits moves → moves ≡ moves_from tick waits
made_alone tick [] [] made = refl
made_alone tick [] (m ∷ ms) made = absurd (omega (arith, made.count))
made_alone tick (w ∷ ws) [] made = absurd (omega (arith, made.count))
made_alone tick (w ∷ ws) (m ∷ ms) made =
    let at : m.at ≡ tick + w.ticks = omega (arith, made.at 0 m (omega arith), first_ticks w ws) in
    let act : m.act ≡ w.act = made.act 0 m w (omega arith) in
    let rest : Made (tick + w.ticks + 1) ws ms = record {
      count = omega (arith, made.count);
      act = λ i n v inside. made.act (suc i) n v (omega (arith, inside));
      at = λ i n inside. omega (arith, made.at (suc i) n (omega (arith, inside)), later_ticks w ws i);
    } in
    let make : ℕ → Act → Move = λ t a. record { at = t; act = a } in
    let head : make m.at m.act ≡ make (tick + w.ticks) w.act = cc in
    let tail = made_alone (tick + w.ticks + 1) ws ms rest in
    cc

-- ---- from the first tick on

-- waits make the moves that are counted by a running tick from 0
pub moves_of_waits : (waits : List Wait) → AreMoves waits (moves_from 0 waits)
moves_of_waits waits =
    let made = made_from 0 waits in
    record { count = made.count; act = made.act; at = λ i m inside. omega (arith, made.at i m inside) }

-- waits make no other moves than those counted by a running tick from 0
pub moves_alone : (waits : List Wait) (moves : List Move) → AreMoves waits moves → moves ≡ moves_from 0 waits
moves_alone waits moves are = made_alone 0 waits moves (record { count = are.count; act = are.act; at = λ i m inside. omega (arith, are.at i m inside) })

-- ---- one part after another

pub moves_from-append : (tick : ℕ) (v w : List Wait) → moves_from tick (v ++ w) ≡ moves_from tick v ++ moves_from (tick_after tick v) w
moves_from-append tick [] w = refl
moves_from-append tick (x ∷ v) w = ap (λ (ms : List Move). record { at = tick + x.ticks; act = x.act } ∷ ms) (moves_from-append (tick + x.ticks + 1) v w)

pub tick_after-append : (tick : ℕ) (v w : List Wait) → tick_after tick (v ++ w) ≡ tick_after (tick_after tick v) w
tick_after-append tick [] w = refl
tick_after-append tick (x ∷ v) w = tick_after-append (tick + x.ticks + 1) v w
