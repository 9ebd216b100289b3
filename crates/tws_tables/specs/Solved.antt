-- The solutions of a file, and their times in seconds.
use Rattle.std.specs.Prelude.{ℕ, ◌*◌, ◌/◌, ◌%◌, List, [], ◌∷◌, ◌++◌, codes, decimal}
use Rattle.std.specs.List.{flat_map, sum_by}
use Rattle.tws_file.specs.Text.{Record, Solution, pad, set, bare, solution}

-- the solution that a record has, if it is one
abbrev pub solved : Record → List Solution
solved pad = []
solved (set rest) = []
solved (bare key) = []
solved (solution s) = s ∷ []

-- the solutions among records, in order
abbrev pub solutions_in : List Record → List Solution
solutions_in records = flat_map solved records

-- the rows of records, of which only solutions have one
abbrev pub rows_by : (row : Solution → List ℕ) → List Record → List ℕ
rows_by row records = flat_map row (solutions_in records)

abbrev pub total_ticks : List Solution → ℕ
total_ticks solutions = sum_by (λ s. s.ticks) solutions

-- a time in seconds with two decimals: 20 ticks are a second, so 2 are a tenth, and one left over is 5 hundredths
abbrev pub seconds_text : (ticks : ℕ) → List ℕ
seconds_text ticks = decimal (ticks / 20) ++ codes "." ++ decimal (ticks % 20 / 2) ++ decimal (ticks % 2 * 5)
