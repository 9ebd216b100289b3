-- Moves, and the ticks at which they are made.
use Rattle.std.specs.Prelude.{◌≡◌, ℕ, ◌+◌, ◌-◌, ◌<◌, ◌^◌, List, [], ◌∷◌, length, take, slice_index_or}
use Rattle.std.specs.List.{sum_by}
use Rattle.tws_moves.specs.declared.act.Act.{Act}
use Rattle.tws_moves.specs.declared.act.Act.TheVariants.{Step, Code}

-- a step in one of eight directions, or one of 512 codes
abbrev pub IsAct : Act → Type 0
IsAct (Step direction) = direction < 8
IsAct (Code code) = code < 512

-- what is done, and at which tick
pub record Move : Type 0 where
  pub at : ℕ
  pub act : Act

pub record IsMove (m : Move) : Type 0 where
  pub at : m.at < 2 ^ 64
  pub act : IsAct m.act

-- an act, and how many ticks go by before it, counted from the first tick at which it could have been made
pub record Wait : Type 0 where
  pub ticks : ℕ
  pub act : Act

-- The moves that waits make, in the same order: before the n-th move the first n waits go by, and the ticks of the n -
-- 1 moves before it.
pub record AreMoves (waits : List Wait) (moves : List Move) : Type 0 where
  pub count : length moves ≡ length waits
  pub act : (i : ℕ) (m : Move) (w : Wait) → i < length waits → (slice_index_or moves i m).act ≡ (slice_index_or waits i w).act
  pub at : (i : ℕ) (m : Move) → i < length waits → (slice_index_or moves i m).at ≡ sum_by (λ (w : Wait). w.ticks) (take (i + 1) waits) + i

-- each move but the first is at a greater tick than the one before
abbrev pub IsTimed : List Move → Type 0
IsTimed moves = (i : ℕ) (m : Move) → i + 1 < length moves → (slice_index_or moves i m).at < (slice_index_or moves (i + 1) m).at

-- ---- by a running tick

-- the moves that waits make, from a tick on
abbrev pub moves_from : ℕ → List Wait → List Move
moves_from tick [] = []
moves_from tick (w ∷ ws) = record { at = tick + w.ticks; act = w.act } ∷ moves_from (tick + w.ticks + 1) ws

-- the first tick at which a later move can be made
abbrev pub tick_after : ℕ → List Wait → ℕ
tick_after tick [] = tick
tick_after tick (w ∷ ws) = tick_after (tick + w.ticks + 1) ws

-- the waits before moves that are made from a tick on
abbrev pub waits_from : ℕ → List Move → List Wait
waits_from tick [] = []
waits_from tick (m ∷ ms) = record { ticks = m.at - tick; act = m.act } ∷ waits_from (m.at + 1) ms
