-- The solutions of files as a page of HTML, with a table for each file.
use Rattle.std.specs.Prelude.{◌||◌, nat_eq, ℕ, Bool, Option, None, Some, List, [], ◌∷◌, ◌++◌, length, codes, decimal}
use Rattle.std.specs.List.{flat_map, starts_with}
use Rattle.std.specs.Str.{chars}
use Rattle.tws_moves.specs.Spelling.{moves_in}
use Rattle.tws_file.specs.declared.«ruleset».Ruleset.{Ruleset}
use Rattle.tws_file.specs.declared.«ruleset».Ruleset.TheVariants.{Lynx, Ms}
use Rattle.tws_file.specs.Words.{line}
use Rattle.tws_file.specs.Text.{File, Record, Solution}
use Rattle.tws_pages.specs.declared.markup.TheConstants.{PAGE_START, PAGE_STYLE, PAGE_BODY, TABLE_HEAD, TABLE_END, PAGE_END}
use Rattle.tws_pages.specs.Escaping.{escaped, shown_password}
use Rattle.tws_pages.specs.SetName.{first_name, shown_name}
use Rattle.tws_tables.specs.Solved.{solutions_in, total_ticks, seconds_text}

-- ---- the markup that every page has, which the constants spell

unfoldable pub page_start : List ℕ
page_start = PAGE_START.now

unfoldable pub page_style : List ℕ
page_style = PAGE_STYLE.now

unfoldable pub page_body : List ℕ
page_body = PAGE_BODY.now

unfoldable pub table_head : List ℕ
table_head = TABLE_HEAD.now

unfoldable pub table_end : List ℕ
table_end = TABLE_END.now

unfoldable pub page_end : List ℕ
page_end = PAGE_END.now

-- whether the part stands somewhere in the text
abbrev pub has_part : (part text : List ℕ) → Bool
has_part part [] = starts_with nat_eq [] part
has_part part (c ∷ text) = starts_with nat_eq (c ∷ text) part || has_part part text

-- what a script, or a reference to something outside the page, would need
abbrev pub ways_out : List (List ℕ)
ways_out =
    codes "script" ∷ codes "href" ∷ codes "src" ∷ codes "url" ∷ codes "import" ∷ codes "http" ∷ codes "//" ∷ codes " on" ∷ []

-- ---- rows

-- level, password, seconds, ticks, moves, bytes
abbrev pub page_cells : Solution → List (List ℕ)
page_cells s =
    decimal s.key.number ∷ shown_password s.key.password ∷ seconds_text s.ticks ∷ decimal s.ticks ∷
    decimal (length (moves_in s.moves)) ∷ decimal (length s.moves) ∷ []

abbrev pub page_cell : List ℕ → List ℕ
page_cell text = codes "<td>" ++ text ++ codes "</td>"

abbrev pub page_row : Solution → List ℕ
page_row s = line (codes "<tr>" ++ flat_map page_cell (page_cells s) ++ codes "</tr>")

-- ---- tables

abbrev pub title_of : Ruleset → List ℕ
title_of Lynx = codes "Lynx"
title_of Ms = codes "MS"

-- the name of a level set, after the ruleset
abbrev pub named : Option (List ℕ) → List ℕ
named None = []
named (Some name) = codes ": " ++ escaped (shown_name name)

abbrev pub heading : Ruleset → (name : Option (List ℕ)) → List ℕ
heading rules name = line (codes "<section>") ++ line (codes "<h2>" ++ title_of rules ++ named name ++ codes "</h2>")

abbrev pub counts : (solutions ticks : ℕ) → List ℕ
counts solutions ticks = line (codes "<p>Solutions: " ++ decimal solutions ++ codes ", seconds in all: " ++ seconds_text ticks ++ codes "</p>")

-- the ruleset and the level set, the counts, and the names of the columns
unfoldable pub section_head : Ruleset → (name : Option (List ℕ)) → (solutions ticks : ℕ) → List ℕ
section_head rules name solutions ticks = heading rules name ++ counts solutions ticks ++ table_head

-- the table of these records' solutions, with its head
abbrev pub section_with : Ruleset → List Record → List ℕ
section_with rules records =
    section_head rules (first_name records) (length (solutions_in records)) (total_ticks (solutions_in records)) ++
    flat_map page_row (solutions_in records) ++ table_end

abbrev pub section_of : File → List ℕ
section_of file = section_with file.ruleset file.records

-- ---- the page

-- the title of a page and its first heading, which may be given
abbrev pub title_shown : Option (List ℕ) → List ℕ
title_shown None = codes "Tile World solutions"
title_shown (Some title) = escaped (chars title)

abbrev pub page_head : (title : Option (List ℕ)) → List ℕ
page_head title = page_start ++ title_shown title ++ page_style ++ title_shown title ++ page_body

abbrev pub page_with : (title : Option (List ℕ)) → List File → List ℕ
page_with title files = page_head title ++ flat_map section_of files ++ page_end

-- without a title
abbrev pub page_of : List File → List ℕ
page_of files = page_with None files
