-- The waits of moves, and the moves of waits: each conversion undoes the other.
use Rattle.std.proofs.Common.{◌≡◌, ℕ, zero, suc, ◌+◌, ◌-◌, ◌<◌, ◌≤◌, List, [], ◌∷◌, length, take, slice_index_or, refl, ap, sym, ◌∙◌, arith, get_or-take, length-take}
use Rattle.tws_moves.specs.declared.act.Act.{Act}
use Rattle.tws_moves.specs.Move.{Move, Wait, IsTimed, moves_from, waits_from}

-- the waits of the moves that waits make are these waits
pub waits_back : (tick : ℕ) (waits : List Wait) → waits_from tick (moves_from tick waits) ≡ waits
waits_back tick [] = refl
waits_back tick (w ∷ ws) =
    let make : ℕ → List Wait → List Wait = λ t vs. record { ticks = t; act = w.act } ∷ vs in
    let head : tick + w.ticks - tick ≡ w.ticks = omega arith in
    let tail = waits_back (tick + w.ticks + 1) ws in
    let whole : make (tick + w.ticks - tick) (waits_from (tick + w.ticks + 1) (moves_from (tick + w.ticks + 1) ws)) ≡ make w.ticks ws = cc in
    whole

-- the first move, if there is one, is at this tick or later
abbrev pub IsFrom : ℕ → List Move → Type 0
IsFrom tick moves = (m : Move) → 0 < length moves → tick ≤ (slice_index_or moves 0 m).at

pub timed_tail : (m : Move) (ms : List Move) → IsTimed (m ∷ ms) → IsTimed ms
timed_tail m ms timed i d inside =
    let next : suc i + 1 ≡ suc (i + 1) = omega arith in
    rw next at (timed (suc i) d (omega arith))

-- what follows a move is made after its tick
pub from_next : (m : Move) (ms : List Move) → IsTimed (m ∷ ms) → IsFrom (m.at + 1) ms
from_next m ms timed d some = omega (arith, timed 0 d (omega arith))

-- timed moves are the moves that their waits make
pub moves_back : (tick : ℕ) (moves : List Move) → IsTimed moves → IsFrom tick moves → moves_from tick (waits_from tick moves) ≡ moves
moves_back tick [] timed from = refl
moves_back tick (m ∷ ms) timed from =
    let make : ℕ → List Move → List Move = λ t ns. record { at = t; act = m.act } ∷ ns in
    let head : tick + (m.at - tick) ≡ m.at = omega (arith, from m (omega arith)) in
    let next : tick + (m.at - tick) + 1 ≡ m.at + 1 = omega arith in
    let tail = ap (λ (t : ℕ). moves_from t (waits_from (m.at + 1) ms)) next ∙ moves_back (m.at + 1) ms (timed_tail m ms timed) (from_next m ms timed) in
    let whole : make (tick + (m.at - tick)) (moves_from (tick + (m.at - tick) + 1) (waits_from (m.at + 1) ms)) ≡ make m.at ms = cc in
    whole

-- the moves that waits make are timed
pub timed_moves : (tick : ℕ) (waits : List Wait) → IsTimed (moves_from tick waits)
timed_moves tick [] i m inside = absurd (omega (arith, inside))
timed_moves tick (w ∷ []) i m inside = absurd (omega (arith, inside))
timed_moves tick (v ∷ w ∷ ws) zero m inside = omega arith
timed_moves tick (v ∷ w ∷ ws) (suc i) m inside =
    let next : suc i + 1 ≡ suc (i + 1) = omega arith in
    rw next (timed_moves (tick + v.ticks + 1) (w ∷ ws) i m (omega (arith, inside)))

pub waits_length : (tick : ℕ) (moves : List Move) → length (waits_from tick moves) ≡ length moves
waits_length tick [] = refl
waits_length tick (m ∷ ms) = omega (arith, waits_length (m.at + 1) ms)

-- the waits of the first n moves are the first n waits
pub waits_take : (tick n : ℕ) (moves : List Move) → waits_from tick (take n moves) ≡ take n (waits_from tick moves)
waits_take tick zero moves = refl
waits_take tick (suc n) [] = refl
waits_take tick (suc n) (m ∷ ms) = ap (λ (ws : List Wait). record { ticks = m.at - tick; act = m.act } ∷ ws) (waits_take (m.at + 1) n ms)

pub timed_take : (n : ℕ) (moves : List Move) → IsTimed moves → IsTimed (take n moves)
timed_take n moves timed i m inside =
    let one : i < n = omega (arith, inside, length-take n moves) in
    let two : i + 1 < n = omega (arith, inside, length-take n moves) in
    omega (arith, timed i m (omega (arith, inside, length-take n moves)), ap (λ (k : Move). k.at) (get_or-take n moves i m one), ap (λ (k : Move). k.at) (get_or-take n moves (i + 1) m two))

-- ---- one wait

-- a later move's wait counts from the tick after the move before it
later_wait : (tick : ℕ) (moves : List Move) (i : ℕ) (d e : Move) (w : Wait) → suc i < length moves →
    slice_index_or (waits_from tick moves)
    (suc i) w ≡ record {
      ticks = (slice_index_or moves (suc i) d).at - ((slice_index_or moves i e).at + 1);
      act =
          (slice_index_or moves (suc i) d).act;
    }
later_wait tick [] i d e w inside = absurd (omega arith)
later_wait tick (m ∷ []) i d e w inside = absurd (omega arith)
later_wait tick (m ∷ n ∷ ms) zero d e w inside = refl
later_wait tick (m ∷ n ∷ ms) (suc i) d e w inside = later_wait (m.at + 1) (n ∷ ms) i d e w (omega arith)

-- the wait of the move at index i, counted from the tick after the previous move
wait_at : (moves : List Move) (i : ℕ) (d e : Move) (w : Wait) → 1 ≤ i → i < length moves →
    slice_index_or (waits_from 0 moves) i w ≡ record {
      ticks =
          (slice_index_or moves i d).at - ((slice_index_or moves (i - 1) e).at + 1);
      act = (slice_index_or moves i d).act;
    }
wait_at moves zero d e w later inside = absurd (omega arith)
wait_at moves (suc i) d e w later inside =
    let before : i ≡ suc i - 1 = omega arith in
    later_wait 0 moves i d e w inside ∙
    ap (λ (j : ℕ). let v : Wait =
    record {
      ticks = (slice_index_or moves (suc i) d).at - ((slice_index_or moves j e).at + 1);
      act =
          (slice_index_or moves (suc i) d).act;
    } in v) before

-- a wait computed from two neighbouring moves is the wait at that index
pub wait_is : (moves : List Move) (i ticks : ℕ) (act : Act) (this before : Move) (w : Wait) → 1 ≤ i → i < length moves →
    this ≡ slice_index_or moves i this → before ≡ slice_index_or moves (i - 1) before → ticks ≡ this.at - before.at - 1 →
    act ≡ this.act → (let v : Wait = record { ticks = ticks; act = act } in v) ≡ slice_index_or (waits_from 0 moves) i w
wait_is moves i ticks act this before w later inside this-is before-is ticks-is act-is =
    let make : ℕ → Act → Wait = λ t a. record { ticks = t; act = a } in
    let one : ticks ≡ (slice_index_or moves i this).at - ((slice_index_or moves (i - 1) before).at + 1) = omega (arith, ap (λ (m : Move). m.at) this-is, ap (λ (m : Move). m.at) before-is) in
    let two : act ≡ (slice_index_or moves i this).act = act-is ∙ ap (λ (m : Move). m.act) this-is in
    let whole : make ticks act ≡ make ((slice_index_or moves i this).at - ((slice_index_or moves (i - 1) before).at + 1)) (slice_index_or moves i this).act = cc in
    whole ∙ sym (wait_at moves i this before w later inside)
