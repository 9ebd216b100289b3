-- The table of a file by a list of levels: the file's solutions of each, or that it has none, and then its other solutions.
use Rattle.std.specs.Prelude.{ℕ, ◌==◌, ◌&&◌, Bool, false, List, [], ◌∷◌, ◌++◌, length, codes, decimal, map, count_by, if◌then◌else◌}
use Rattle.std.specs.List.{flat_map, list_any}
use Rattle.std.specs.Str.{bytes_eq}
use Rattle.tws_moves.specs.Spelling.{moves_in}
use Rattle.tws_file.specs.declared.key.Key.{Key}
use Rattle.tws_file.specs.declared.«ruleset».Ruleset.{Ruleset}
use Rattle.tws_file.specs.Text.{File, Record, pad, set, bare, solution}
use Rattle.tws_pages.specs.declared.level.Level.{Level}
use Rattle.tws_pages.specs.declared.markup.TheConstants.{LEVEL_TABLE_HEAD}
use Rattle.tws_pages.specs.Escaping.{escaped, shown_password}
use Rattle.tws_pages.specs.SetName.{first_name, shown_byte}
use Rattle.tws_tables.specs.Solved.{seconds_text, solutions_in, total_ticks}
use Rattle.tws_pages.specs.TimeLeft.{time_left}
use Rattle.tws_pages.specs.Page.{counts, heading, page_cell, table_end}

unfoldable pub level_table_head : List ℕ
level_table_head = LEVEL_TABLE_HEAD.now

-- the same number and the same password
abbrev pub same_key : Key → Key → Bool
same_key a b = (a.number == b.number) && bytes_eq a.password b.password

-- whether the record is a solution of the level
abbrev pub solves : Level → Record → Bool
solves level pad = false
solves level (set rest) = false
solves level (bare key) = false
solves level (solution s) = same_key s.key level.key

-- ---- rows: level, password, name, time left, seconds, moves

abbrev pub row_start : Key → List ℕ
row_start key = codes "<tr>" ++ page_cell (decimal key.number) ++ page_cell (shown_password key.password)

-- other bytes than printable ASCII as `?`
abbrev pub name_cell : List ℕ → List ℕ
name_cell name = page_cell (escaped (map shown_byte name))

abbrev pub spent_cells : (ticks moves : ℕ) → List ℕ
spent_cells ticks moves = page_cell (seconds_text ticks) ++ page_cell (decimal moves) ++ codes "</tr>" ++ 10 ∷ []

abbrev pub solved_row : Ruleset → Level → Key → (ticks moves : ℕ) → List ℕ
solved_row rules level key ticks moves = row_start key ++ name_cell level.name ++ page_cell (time_left rules level.limit ticks) ++ spent_cells ticks moves

abbrev pub key_cells : Key → List ℕ
key_cells key = page_cell (decimal key.number) ++ page_cell (shown_password key.password)

abbrev pub unsolved_row : Level → List ℕ
unsolved_row level = codes "<tr class=unsolved>" ++ key_cells level.key ++ name_cell level.name ++ (codes "<td></td><td></td><td></td></tr>" ++ 10 ∷ [])

-- of a level that is not in the list, the name and the time left are not known
abbrev pub other_row : Key → (ticks moves : ℕ) → List ℕ
other_row key ticks moves = row_start key ++ codes "<td></td><td></td>" ++ spent_cells ticks moves

-- ---- the rows of records

abbrev pub own_rows : Ruleset → Level → Record → List ℕ
own_rows rules level pad = []
own_rows rules level (set rest) = []
own_rows rules level (bare key) = []
own_rows rules level (solution s) = if same_key s.key level.key then solved_row rules level s.key s.ticks (length (moves_in s.moves)) else []

unfoldable pub level_rows : Ruleset → List Record → Level → List ℕ
level_rows rules records level = if list_any (solves level) records then flat_map (own_rows rules level) records else unsolved_row level

abbrev pub other_rows : List Level → Record → List ℕ
other_rows levels pad = []
other_rows levels (set rest) = []
other_rows levels (bare key) = []
other_rows levels (solution s) = if list_any (λ level. same_key s.key level.key) levels then [] else other_row s.key s.ticks (length (moves_in s.moves))

-- ---- the table

-- how many of the levels are solved
abbrev pub solved_count : List Level → List Record → ℕ
solved_count levels records = count_by (λ level. list_any (solves level) records) levels

abbrev pub solved_line : (solved all : ℕ) → List ℕ
solved_line solved all = codes "<p>Levels: " ++ (decimal all ++ (codes ", solved: " ++ (decimal solved ++ (codes "</p>" ++ 10 ∷ []))))

unfoldable pub level_section_head : List Level → Ruleset → List Record → List ℕ
level_section_head levels rules records =
    heading rules (first_name records) ++ solved_line (solved_count levels records) (length levels) ++
    counts (length (solutions_in records)) (total_ticks (solutions_in records)) ++ level_table_head

unfoldable pub level_section_with : List Level → Ruleset → List Record → List ℕ
level_section_with levels rules records =
    level_section_head levels rules records ++ flat_map (level_rows rules records) levels ++ flat_map (other_rows levels) records ++ table_end

abbrev pub level_section : List Level → File → List ℕ
level_section levels file = level_section_with levels file.ruleset file.records
