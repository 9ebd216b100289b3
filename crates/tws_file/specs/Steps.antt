-- Definitions for the private steps of writing, and for proofs about texts. Callers need none of them.
use Rattle.std.specs.Prelude.{◌≡◌, ◌⊎◌, ℕ, ◌≤◌, List, [], ◌∷◌, ◌++◌}
use Rattle.byteorder.specs.Endian.{little_bytes}
use Rattle.tws_file.specs.Text.{Solution, Record, pad, set, bare, solution, IsLevel, IsSet, HasSolutionFields}

-- the sizes that a record's body can have
abbrev pub IsSize : ℕ → Type 0
IsSize n = (n ≡ 0) ⊎ (n ≡ 6) ⊎ (16 ≤ n)

-- a record, except that its moves may be cut
abbrev pub IsShaped : Record → Type 0
IsShaped pad = Unit {0}
IsShaped (set rest) = IsSet rest
IsShaped (bare key) = IsLevel key
IsShaped (solution s) = HasSolutionFields s

-- the part of a record that may be long: all after the key of the set, or a solution's moves
abbrev pub tail_of : Record → List ℕ
tail_of pad = []
tail_of (set rest) = rest
tail_of (bare key) = []
tail_of (solution s) = s.moves

-- a solution's body after its key
abbrev pub solved_after_key : Solution → List ℕ
solved_after_key s = s.flags ∷ s.start ∷ (little_bytes 4 s.seed ++ (little_bytes 4 s.ticks ++ s.moves))
