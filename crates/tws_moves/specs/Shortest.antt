-- The shortest bytes that spell moves, and the moves that no bytes spell.
use Rattle.std.specs.Prelude.{◌≡◌, ◌⊎◌, ℕ, ◌+◌, ◌*◌, ◌<◌, ◌≤◌, ◌^◌, ◌==◌, nat_lt, Bool, false, ◌&&◌, List, [], ◌∷◌, ◌++◌, length, take, if◌then◌else◌}
use Rattle.tws_moves.specs.declared.act.Act.{Act}
use Rattle.tws_moves.specs.declared.act.Act.TheVariants.{Step, Code}
use Rattle.tws_moves.specs.declared.spell_fault.SpellFault.{SpellFault}
use Rattle.tws_moves.specs.declared.spell_fault.SpellFault.TheVariants.{TooLate, Memory}
use Rattle.byte_output.specs.Bytes.{IsBytes}
use Rattle.tws_moves.specs.Bytes.{little_bytes}
use Rattle.tws_moves.specs.Move.{Move, Wait, waits_from}
use Rattle.tws_moves.specs.Spelling.{Spells, moves_in}

-- the bytes spell the moves, and no fewer bytes do
pub record IsShortest (bytes : List ℕ) (moves : List Move) : Type 0 where
  pub spells : Spells bytes moves
  pub least : (others : List ℕ) → IsBytes others → Spells others moves → length bytes ≤ length others

-- some bytes spell the moves
abbrev pub IsSpelled : List Move → Type 0
IsSpelled moves = (bytes : List ℕ) × Spells bytes moves

-- No bytes spell the moves: each prefix that ends before the move at `index` is spelled by some bytes, and none that
-- includes it is. So it waits too long after the one before it.
pub record IsTooLateAt (moves : List Move) (index : ℕ) : Type 0 where
  pub within : index < length moves
  pub before : (n : ℕ) → n ≤ index → IsSpelled (take n moves)
  pub first : IsSpelled (take (index + 1) moves) → ⊥
  pub none : IsSpelled moves → ⊥

-- the moves have no spelling, and the fault says where
abbrev pub IsTooLate : List Move → SpellFault → Type 0
IsTooLate moves (TooLate index) = IsTooLateAt moves index
IsTooLate moves Memory = ⊥

-- a failed write: no bytes spell the moves, or out of memory
abbrev pub SpellFails : List Move → SpellFault → Type 0
SpellFails moves e = IsTooLate moves e ⊎ (e ≡ Memory)

-- ---- the spelling that is written, from the left

-- how many bytes a code's piece has after its first two: the fewest that hold these ticks
abbrev pub code_more : ℕ → ℕ
code_more ticks =
    if nat_lt ticks (2 ^ 2) then 0 else
    if nat_lt ticks (2 ^ 10) then 1 else
    if nat_lt ticks (2 ^ 18) then 2 else 3

-- an act alone, in the shortest layout that holds it after a wait of `ticks`
abbrev pub act_bytes : (ticks : ℕ) → Act → List ℕ
act_bytes ticks (Step direction) =
    if nat_lt ticks (2 ^ 3) then little_bytes 1 (1 + 4 * direction + 2 ^ 5 * ticks) else
    if nat_lt ticks (2 ^ 11) then little_bytes 2 (2 + 4 * direction + 2 ^ 5 * ticks) else
    little_bytes 4 (3 + 4 * direction + 2 ^ 5 * ticks)
act_bytes ticks (Code code) =
    little_bytes (2 + code_more ticks) (19 + 4 * code_more ticks + 2 ^ 5 * code + 2 ^ 14 * ticks)

abbrev pub alone : Wait → List ℕ
alone w = act_bytes w.ticks w.act

-- a step in direction 0 to 3 that waits three ticks: one byte can hold three of them
abbrev pub is_plain_act : (ticks : ℕ) → Act → Bool
is_plain_act ticks (Step direction) = nat_lt direction 4 && (ticks == 3)
is_plain_act ticks (Code code) = false

abbrev pub is_plain : Wait → Bool
is_plain w = is_plain_act w.ticks w.act

-- a step's direction; a code has none
abbrev pub direction_of : Act → ℕ
direction_of (Step direction) = direction
direction_of (Code code) = 0

abbrev pub three_byte : Wait → Wait → Wait → ℕ
three_byte a b c = 4 * direction_of a.act + 16 * direction_of b.act + 64 * direction_of c.act

-- the next three in one byte if they are plain steps, otherwise the next one alone
abbrev pub waits_bytes : List Wait → List ℕ
waits_bytes [] = []
waits_bytes (a ∷ []) = alone a
waits_bytes (a ∷ b ∷ []) = alone a ++ alone b
waits_bytes (a ∷ b ∷ c ∷ rest) =
    if is_plain a && is_plain b && is_plain c then three_byte a b c ∷ waits_bytes rest else alone a ++ waits_bytes (b ∷ c ∷ rest)

-- the shortest bytes that spell the moves, if any do: law `shortest_by_function`
abbrev pub shortest_of : List Move → List ℕ
shortest_of moves = waits_bytes (waits_from 0 moves)

-- the shortest bytes that spell the same moves as these
abbrev pub packed_bytes : List ℕ → List ℕ
packed_bytes bytes = shortest_of (moves_in bytes)
