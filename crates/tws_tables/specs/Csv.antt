-- The solutions of a file as comma-separated values: a line with the names of the columns, and one for each solution.
use Rattle.std.specs.Prelude.{ℕ, List, [], ◌∷◌, length, map, codes, decimal}
use Rattle.std.specs.List.{flat_map, join_with_byte}
use Rattle.tws_moves.specs.Spelling.{moves_in}
use Rattle.tws_file.specs.declared.«ruleset».Ruleset.{Ruleset}
use Rattle.tws_file.specs.Words.{hex, line, password_text, ruleset_name}
use Rattle.tws_file.specs.Text.{File, Solution}
use Rattle.tws_tables.specs.Solved.{solutions_in, seconds_text}

-- further columns are only ever added at the end
abbrev pub csv_names : List (List ℕ)
csv_names =
    codes "level" ∷ codes "password" ∷ codes "ticks" ∷ codes "seconds" ∷ codes "moves" ∷ codes "bytes" ∷ codes "flags" ∷
    codes "start" ∷ codes "seed" ∷ codes "ruleset" ∷ []

-- what the columns have for a solution of a file of this ruleset
abbrev pub csv_fields : Ruleset → Solution → List (List ℕ)
csv_fields rules s =
    decimal s.key.number ∷ password_text s.key.password ∷ decimal s.ticks ∷ seconds_text s.ticks ∷
    decimal (length (moves_in s.moves)) ∷ decimal (length s.moves) ∷ hex (s.flags ∷ []) ∷ hex (s.start ∷ []) ∷
    decimal s.seed ∷ ruleset_name rules ∷ []

abbrev pub comma : ℕ
comma = 44

-- fields with a comma between each two, and a line feed after the last
abbrev pub csv_line : List (List ℕ) → List ℕ
csv_line fields = line (join_with_byte comma fields)

-- the lines after the first
abbrev pub csv_rows : File → List (List (List ℕ))
csv_rows file = map (csv_fields file.ruleset) (solutions_in file.records)

abbrev pub csv_of : File → List ℕ
csv_of file = flat_map csv_line (csv_names ∷ csv_rows file)
