-- Definitions for the private steps of reading and writing. Callers need none of them.
use Rattle.std.specs.Prelude.{◌≡◌, ◌==◌, ℕ, ◌+◌, ◌*◌, ◌<◌, ◌≤◌, ◌^◌, nat_lt, List, [], ◌∷◌, ◌++◌, length, map, take, drop, if◌then◌else◌}
use Rattle.std.specs.List.{flat_map, AllByRecursion}
use Rattle.std.specs.Int.{w64, trailing_zeros}
use Rattle.tws_moves.specs.declared.act.Act.{Act}
use Rattle.tws_moves.specs.declared.act.Act.TheVariants.{Step, Code}
use Rattle.tws_moves.specs.declared.pending.Pending.{Pending}
use Rattle.tws_moves.specs.declared.pending.Pending.TheVariants as pending
use Rattle.tws_moves.specs.declared.layout.Layout.{Layout}
use Rattle.tws_moves.specs.declared.layout.Layout.TheVariants as layout
use Rattle.tws_moves.specs.Bytes.{number_of, bits, little_bytes}
use Rattle.tws_moves.specs.Move.{Move, Wait, IsAct, moves_from, tick_after}
use Rattle.tws_moves.specs.Spelling.{IsPiece, layout_of, piece_length, waits_of, join}
use Rattle.tws_moves.specs.Shortest.{alone, waits_bytes}

-- the bytes are shorter than the piece that they begin, or there are none
abbrev pub IsPieceCut : List ℕ → Type 0
IsPieceCut [] = Unit {0}
IsPieceCut (first ∷ rest) = 1 + length rest < piece_length first

-- each byte as a piece
abbrev pub singles : List ℕ → List (List ℕ)
singles bytes = map (λ (b : ℕ). b ∷ []) bytes

-- the position of the lowest set bit, or `n` if none is set
abbrev pub first_set : (mask n : ℕ) → ℕ
first_set mask n = if mask == 0 then n else trailing_zeros w64 mask

-- the bytes are these pieces followed by a rest
pub record ArePieces (bytes rest : List ℕ) (pieces : List (List ℕ)) : Type 0 where
  pub fits : AllByRecursion IsPiece pieces
  pub split : bytes ≡ join pieces ++ rest

-- the pieces so far make these moves, and a later move can be made from this tick on
pub record ReadsSoFar (bytes rest : List ℕ) (moves : List Move) (tick : ℕ) : Type 0 where
  pub pieces : List (List ℕ)
  pub so_far : ArePieces bytes rest pieces
  pub moves_are : moves ≡ moves_from 0 (flat_map waits_of pieces)
  pub tick_is : tick ≡ tick_after 0 (flat_map waits_of pieces)

-- the pieces so far make `count` moves
pub record CountsSoFar (bytes rest : List ℕ) (count : ℕ) : Type 0 where
  pub pieces : List (List ℕ)
  pub so_far : ArePieces bytes rest pieces
  pub count_is : count ≡ length (flat_map waits_of pieces)

-- ---- writing

-- the waits that a layout can hold before an act are below this
abbrev pub ticks_limit : Act → ℕ
ticks_limit (Step direction) = if nat_lt direction 4 then 2 ^ 27 else 2 ^ 11
ticks_limit (Code code) = 2 ^ 26

-- some layout holds the wait
pub record HasLayout (w : Wait) : Type 0 where
  pub act : IsAct w.act
  pub ticks : w.ticks < ticks_limit w.act

-- The first piece of the waits' spelling has the value `number` and `length_of` bytes, and holds `count` waits.
pub record IsNextPiece (waits : List Wait) (length_of number count : ℕ) : Type 0 where
  pub some : 1 ≤ count
  pub within : count ≤ length waits
  pub held : AllByRecursion HasLayout (take count waits)
  pub bytes : waits_bytes waits ≡ little_bytes length_of number ++ waits_bytes (drop count waits)

-- the spelling begins with the first wait alone
abbrev pub BeginsAlone : List Wait → Type 0
BeginsAlone [] = ⊥
BeginsAlone (w ∷ ws) = waits_bytes (w ∷ ws) ≡ alone w ++ waits_bytes ws

-- the bytes so far are the spelling of the waits before the one at `index`
pub record WritesSoFar (waits : List Wait) (bytes : List ℕ) (index : ℕ) : Type 0 where
  pub within : index ≤ length waits
  pub held : AllByRecursion HasLayout (take index waits)
  pub split : waits_bytes waits ≡ bytes ++ waits_bytes (drop index waits)

-- ---- packing

-- from which value on a code's piece is the shortest for its wait, by how many bytes it has after its first two
abbrev pub least_more : ℕ → ℕ
least_more more = if more == 0 then 0 else 2 ^ (8 + 8 * more)

-- The same of any piece of several bytes, by its layout and its first byte. No piece has 2^40 as its value.
abbrev pub least_in : Layout → ℕ → ℕ
least_in layout.ThreeSteps first = 2 ^ 40
least_in layout.ShortStep first = 2 ^ 40
least_in layout.MiddleStep first = 2 ^ 8
least_in layout.LongStep first = 2 ^ 16
least_in layout.Code first = least_more (bits 2 2 first)

abbrev pub least_value : ℕ → ℕ
least_value first = least_in (layout_of first) first

-- the piece has several bytes and is the shortest for its wait
abbrev pub IsShortestAlone : List ℕ → Type 0
IsShortestAlone [] = ⊥
IsShortestAlone (first ∷ rest) = least_value first ≤ number_of (first ∷ rest)

-- a step that waits three ticks
abbrev pub plain_step : ℕ → Wait
plain_step direction = record { ticks = 3; act = Step direction }

-- the steps that are not written yet
abbrev pub pending_waits : Pending → List Wait
pending_waits pending.None = []
pending_waits (pending.One a) = plain_step a ∷ []
pending_waits (pending.Two a b) = plain_step a ∷ plain_step b ∷ []

abbrev pub IsPending : Pending → Type 0
IsPending pending.None = Unit {0}
IsPending (pending.One a) = a < 4
IsPending (pending.Two a b) = (a < 4) × (b < 4)

-- The waits were added: the spelling of what was pending before and of these waits continues with what is pending
-- after.
pub record Packs (old : List ℕ) (before : Pending) (waits : List Wait) (new : List ℕ) (after : Pending) : Type 0 where
  pub fits : IsPending after
  pub bytes : (rest : List Wait) → old ++ waits_bytes (pending_waits before ++ (waits ++ rest)) ≡ new ++ waits_bytes (pending_waits after ++ rest)

-- the same for the moves of the pieces that come before the rest
pub record PacksPieces (bytes rest old : List ℕ) (before : Pending) (new : List ℕ) (after : Pending) : Type 0 where
  pub pieces : List (List ℕ)
  pub so_far : ArePieces bytes rest pieces
  pub packs : Packs old before (flat_map waits_of pieces) new after
