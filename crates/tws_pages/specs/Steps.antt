-- Definitions for private steps. Callers need none of them.
use Rattle.std.specs.Prelude.{ℕ, List, [], ◌∷◌, ◌++◌, codes, decimal}
use Rattle.tws_file.specs.declared.key.Key.{Key}
use Rattle.tws_file.specs.declared.«ruleset».Ruleset.{Ruleset}
use Rattle.tws_tables.specs.Solved.{seconds_text}
use Rattle.tws_pages.specs.Escaping.{shown_password}
use Rattle.tws_pages.specs.Page.{page_cell, title_of}

-- ---- the heading of a section, as it is written

abbrev pub opening : Ruleset → List ℕ
opening rules = codes "<section>" ++ 10 ∷ codes "<h2>" ++ title_of rules

abbrev pub closing : List ℕ
closing = codes "</h2>" ++ 10 ∷ []

-- ---- a row of a page, as it is written

abbrev pub level_cells : Key → List ℕ
level_cells key = codes "<tr>" ++ page_cell (decimal key.number) ++ page_cell (shown_password key.password)

abbrev pub time_cells : (ticks : ℕ) → List ℕ
time_cells ticks = page_cell (seconds_text ticks) ++ page_cell (decimal ticks)

abbrev pub move_cells : (moves bytes : ℕ) → List ℕ
move_cells moves bytes = page_cell (decimal moves) ++ page_cell (decimal bytes) ++ codes "</tr>" ++ 10 ∷ []

-- ---- rows by a list of levels, as they are written

abbrev pub no_cells : List ℕ
no_cells = codes "<td></td><td></td>"

abbrev pub unsolved_start : List ℕ
unsolved_start = codes "<tr class=unsolved>"

abbrev pub unsolved_end : List ℕ
unsolved_end = codes "<td></td><td></td><td></td></tr>" ++ 10 ∷ []
