-- Lines of a page as they are written, part by part.
use Rattle.std.proofs.Common.{◌≡◌, ℕ, ◌∷◌, List, [], ◌++◌, length, append_assoc, append-nil, Option, ◌∙◌}
use Rattle.std.specs.Prelude.{codes, decimal}
use Rattle.std.specs.List.{flat_map}
use Rattle.tws_moves.specs.Spelling.{moves_in}
use Rattle.tws_file.specs.declared.«ruleset».Ruleset.{Ruleset}
use Rattle.tws_file.specs.Text.{Solution}
use Rattle.tws_tables.specs.Solved.{seconds_text}
use Rattle.tws_pages.specs.Escaping.{shown_password}
use Rattle.tws_pages.specs.Page.{counts, heading, named, page_row, title_of}
use Rattle.tws_pages.specs.Steps.{opening, closing, level_cells, time_cells, move_cells}

-- six cells, as three parts, whatever is before and after each and all
six_cells : (old first before after last end a b c d e f : List ℕ) →
    old ++ (first ++ (before ++ a ++ after) ++ (before ++ b ++ after)) ++ ((before ++ c ++ after) ++ (before ++ d ++ after)) ++
    ((before ++ e ++ after) ++ (before ++ f ++ after) ++ last ++ end) ≡ old ++
    (first ++ flat_map (λ (text : List ℕ). before ++ text ++ after) (a ∷ b ∷ c ∷ d ∷ e ∷ f ∷ []) ++ last ++ end)
six_cells old first before after last end a b c d e f = simp (append_assoc, append-nil)

-- two lines, as three parts
two_lines : (old section end begin title name last : List ℕ) →
    old ++ (section ++ end ++ begin ++ title) ++ name ++ (last ++ end) ≡ old ++ ((section ++ end) ++ ((begin ++ title ++ name ++ last) ++ end))
two_lines old section end begin title name last = simp append_assoc

-- a line, as it is written
one_line : (old begin first middle second last end : List ℕ) →
    old ++ (begin ++ (first ++ (middle ++ (second ++ (last ++ end))))) ≡ old ++ ((begin ++ first ++ middle ++ second ++ last) ++ end)
one_line old begin first middle second last end = simp append_assoc

-- a solution's row of a page is written
pub row_written : (s : Solution) (old level time whole : List ℕ) (moves bytes : ℕ) → moves ≡ length (moves_in s.moves) → bytes ≡ length s.moves
    → level ≡ old ++ level_cells s.key → time ≡ level ++ time_cells s.ticks → whole ≡ time ++ move_cells moves bytes
    → whole ≡ old ++ page_row s
row_written s old level time whole moves bytes moves-is bytes-is level-is time-is whole-is =
    rw (whole-is, time-is, level-is, moves-is, bytes-is)
    (six_cells old (codes "<tr>") (codes "<td>") (codes "</td>") (codes "</tr>") (10 ∷ []) (decimal s.key.number) (shown_password s.key.password)
    (seconds_text s.ticks) (decimal s.ticks) (decimal (length (moves_in s.moves))) (decimal (length s.moves)))

-- the counts of a section are written
pub counts_written : (solutions ticks : ℕ) (old whole : List ℕ)
    → whole ≡ old ++ (codes "<p>Solutions: " ++ (decimal solutions ++ (codes ", seconds in all: " ++ (seconds_text ticks ++ (codes "</p>" ++ 10 ∷ [])))))
    → whole ≡ old ++ counts solutions ticks
counts_written solutions ticks old whole whole-is =
    whole-is ∙ one_line old (codes "<p>Solutions: ") (decimal solutions) (codes ", seconds in all: ") (seconds_text ticks) (codes "</p>") (10 ∷ [])

-- the heading of a section is written
pub heading_written : (rules : Ruleset) (name : Option (List ℕ)) (old opened written whole : List ℕ) → opened ≡ old ++ opening rules → written ≡ opened ++ named name
    → whole ≡ written ++ closing → whole ≡ old ++ heading rules name
heading_written rules name old opened written whole opened-is written-is whole-is =
    rw (whole-is, written-is, opened-is) (two_lines old (codes "<section>") (10 ∷ []) (codes "<h2>") (title_of rules) (named name) (codes "</h2>"))
