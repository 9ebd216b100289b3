-- A table of the levels of a list with the best times of both rulesets side by side.
use Rattle.std.specs.Prelude.{ℕ, ◌&&◌, min, Bool, true, false, Option, None, Some, List, [], ◌∷◌, ◌++◌, codes, if◌then◌else◌}
use Rattle.std.specs.List.{flat_map, fold, list_any}
use Rattle.tws_file.specs.declared.«ruleset».Ruleset.{Ruleset}
use Rattle.tws_file.specs.declared.«ruleset».Ruleset.TheVariants.{Lynx, Ms}
use Rattle.tws_file.specs.Text.{File, Record, pad, set, bare, solution}
use Rattle.tws_pages.specs.declared.level.Level.{Level}
use Rattle.tws_pages.specs.declared.markup.TheConstants.{SIDES_HEAD}
use Rattle.tws_pages.specs.Page.{page_cell, table_end}
use Rattle.tws_pages.specs.TimeLeft.{time_left}
use Rattle.tws_pages.specs.LevelTable.{key_cells, name_cell, same_key}

unfoldable pub sides_head : List ℕ
sides_head = SIDES_HEAD.now

abbrev pub same_rules : Ruleset → Ruleset → Bool
same_rules Lynx Lynx = true
same_rules Lynx Ms = false
same_rules Ms Lynx = false
same_rules Ms Ms = true

-- ---- the best time of a level

abbrev pub better : Option ℕ → (ticks : ℕ) → Option ℕ
better None ticks = Some ticks
better (Some best) ticks = Some (min best ticks)

abbrev pub with_record : Level → Option ℕ → Record → Option ℕ
with_record level best pad = best
with_record level best (set rest) = best
with_record level best (bare key) = best
with_record level best (solution s) = if same_key s.key level.key then better best s.ticks else best

-- files of the other ruleset do not count
abbrev pub with_file : Ruleset → Level → Option ℕ → File → Option ℕ
with_file rules level best file = if same_rules file.ruleset rules then fold (with_record level) best file.records else best

abbrev pub best_time : Ruleset → Level → List File → Option ℕ
best_time rules level files = fold (with_file rules level) None files

-- ---- rows: level, password, name, time left under Lynx and under MS

abbrev pub side_start : (lynx ms : Option ℕ) → List ℕ
side_start None None = codes "<tr class=unsolved>"
side_start None (Some ms) = codes "<tr>"
side_start (Some lynx) None = codes "<tr>"
side_start (Some lynx) (Some ms) = codes "<tr>"

abbrev pub time_cell : Ruleset → (limit : ℕ) → Option ℕ → List ℕ
time_cell rules limit None = codes "<td></td>"
time_cell rules limit (Some ticks) = page_cell (time_left rules limit ticks)

abbrev pub side_end : List ℕ
side_end = codes "</tr>" ++ 10 ∷ []

unfoldable pub sides_row : Level → (lynx ms : Option ℕ) → List ℕ
sides_row level lynx ms =
    side_start lynx ms ++ key_cells level.key ++ name_cell level.name ++ time_cell Lynx level.limit lynx ++ time_cell Ms level.limit ms ++ side_end

unfoldable pub level_sides : List File → Level → List ℕ
level_sides files level = sides_row level (best_time Lynx level files) (best_time Ms level files)

-- ---- the table

unfoldable pub sides_table : List Level → List File → List ℕ
sides_table levels files = sides_head ++ flat_map (level_sides files) levels ++ table_end

abbrev pub has_rules : Ruleset → List File → Bool
has_rules rules files = list_any (λ file. same_rules file.ruleset rules) files

-- where there are files of both
unfoldable pub side_by_side : List Level → List File → List ℕ
side_by_side levels files = if has_rules Lynx files && has_rules Ms files then sides_table levels files else []
