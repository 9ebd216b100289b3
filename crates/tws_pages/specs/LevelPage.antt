-- The page of files by a list of levels.
use Rattle.std.specs.Prelude.{ℕ, Option, None, Some, List, ◌++◌}
use Rattle.std.specs.List.{flat_map}
use Rattle.tws_file.specs.Text.{File}
use Rattle.tws_pages.specs.declared.level.Level.{Level}
use Rattle.tws_pages.specs.Page.{page_end, page_head, page_with}
use Rattle.tws_pages.specs.LevelTable.{level_section}
use Rattle.tws_pages.specs.SideBySide.{side_by_side}

abbrev pub level_page : (title : Option (List ℕ)) → List Level → List File → List ℕ
level_page title levels files = page_head title ++ side_by_side levels files ++ flat_map (level_section levels) files ++ page_end

-- without a list it is the page of the files
abbrev pub page_by : (title : Option (List ℕ)) → (levels : Option (List Level)) → List File → List ℕ
page_by title None files = page_with title files
page_by title (Some levels) files = level_page title levels files
