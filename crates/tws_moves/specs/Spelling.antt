-- How bytes spell moves: they are pieces, each in one of five layouts, which are those in Tile World's comments on
-- solutions. docs/FORMATS.md has the layouts as a table.
use Rattle.std.specs.Prelude.{◌≡◌, ◌⊎◌, ℕ, zero, suc, ◌+◌, ◌-◌, ◌<◌, ◌≤◌, ◌/◌, ◌%◌, ◌^◌, ◌==◌, List, [], ◌∷◌, length, take, drop, if◌then◌else◌}
use Rattle.std.specs.List.{flat_map, AllByRecursion}
use Rattle.tws_moves.specs.declared.act.Act.TheVariants.{Step, Code}
use Rattle.tws_moves.specs.declared.layout.Layout.{Layout}
use Rattle.tws_moves.specs.declared.layout.Layout.TheVariants as layout
use Rattle.tws_moves.specs.declared.moves_fault.MovesFault.{MovesFault}
use Rattle.tws_moves.specs.declared.moves_fault.MovesFault.TheVariants.{Cut, Memory}
use Rattle.byte_output.specs.Bytes.{IsBytes}
use Rattle.tws_moves.specs.Bytes.{number_of, bits}
use Rattle.tws_moves.specs.Move.{Move, Wait, AreMoves, moves_from}

-- ---- pieces

-- the layout of a piece, by the low bits of its first byte
abbrev pub layout_of : ℕ → Layout
layout_of first =
    if first % 4 == 0 then layout.ThreeSteps else
    if first % 4 == 1 then layout.ShortStep else
    if first % 4 == 2 then layout.MiddleStep else
    if first / 16 % 2 == 0 then layout.LongStep else layout.Code

-- the length of a piece of this layout that begins with this byte
abbrev pub layout_length : Layout → ℕ → ℕ
layout_length layout.ThreeSteps first = 1
layout_length layout.ShortStep first = 1
layout_length layout.MiddleStep first = 2
layout_length layout.LongStep first = 4
layout_length layout.Code first = 2 + bits 2 2 first

abbrev pub piece_length : ℕ → ℕ
piece_length first = layout_length (layout_of first) first

-- the waits and acts that a piece of this layout with the value `n` holds
abbrev pub layout_waits : Layout → ℕ → List Wait
layout_waits layout.ThreeSteps n =
    record { ticks = 3; act = Step (bits 2 2 n) } ∷ record { ticks = 3; act = Step (bits 4 2 n) } ∷ record { ticks = 3; act = Step (bits 6 2 n) } ∷ []
layout_waits layout.ShortStep n = record { ticks = bits 5 3 n; act = Step (bits 2 3 n) } ∷ []
layout_waits layout.MiddleStep n = record { ticks = bits 5 11 n; act = Step (bits 2 3 n) } ∷ []
layout_waits layout.LongStep n = record { ticks = bits 5 27 n; act = Step (bits 2 2 n) } ∷ []
layout_waits layout.Code n = record { ticks = n / 2 ^ 14; act = Code (bits 5 9 n) } ∷ []

abbrev pub waits_of : List ℕ → List Wait
waits_of [] = []
waits_of (first ∷ rest) = layout_waits (layout_of first) (number_of (first ∷ rest))

-- a piece is as long as its first byte says
abbrev pub IsWhole : List ℕ → Type 0
IsWhole [] = ⊥
IsWhole (first ∷ rest) = 1 + length rest ≡ piece_length first

pub record IsPiece (piece : List ℕ) : Type 0 where
  pub bytes : IsBytes piece
  pub whole : IsWhole piece

-- ---- the pieces of bytes, as a function

-- cut off piece by piece, in at most `steps` steps
abbrev pub pieces_in : ℕ → List ℕ → List (List ℕ)
pieces_in zero bytes = []
pieces_in (suc steps) [] = []
pieces_in (suc steps) (first ∷ rest) =
    (first ∷ take (piece_length first - 1) rest) ∷ pieces_in steps (drop (piece_length first - 1) rest)

-- the moves that the bytes spell, if they spell any: law `moves_by_function`
abbrev pub moves_in : List ℕ → List Move
moves_in bytes = moves_from 0 (flat_map waits_of (pieces_in (length bytes) bytes))

-- ---- spellings

-- pieces one after another
abbrev pub join : List (List ℕ) → List ℕ
join pieces = flat_map (λ (piece : List ℕ). piece) pieces

-- the bytes are joined pieces, whose waits and acts, in order, make the moves
pub record Spells (bytes : List ℕ) (moves : List Move) : Type 0 where
  pub pieces : List (List ℕ)
  pub fits : AllByRecursion IsPiece pieces
  pub joined : bytes ≡ join pieces
  pub made : AreMoves (flat_map waits_of pieces) moves

-- the bytes spell some moves
abbrev pub IsSpelling : List ℕ → Type 0
IsSpelling bytes = (moves : List Move) × Spells bytes moves

-- the bytes spell no moves, and `at` is the length of their longest prefix that spells some
pub record IsCutAt (bytes : List ℕ) (at : ℕ) : Type 0 where
  pub within : at < length bytes
  pub spelled : IsSpelling (take at bytes)
  pub longest : (n : ℕ) → n ≤ length bytes → IsSpelling (take n bytes) → n ≤ at

-- the bytes spell `n` moves
abbrev pub IsCount : List ℕ → ℕ → Type 0
IsCount bytes n = (moves : List Move) × Spells bytes moves × (n ≡ length moves)

-- the bytes are cut, and the fault says where
abbrev pub IsCut : List ℕ → MovesFault → Type 0
IsCut bytes (Cut at) = IsCutAt bytes at
IsCut bytes Memory = ⊥

-- a failed read: the bytes are cut, or out of memory
abbrev pub MovesFail : List ℕ → MovesFault → Type 0
MovesFail bytes e = IsCut bytes e ⊎ (e ≡ Memory)
