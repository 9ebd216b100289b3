use Rattle.std.proofs.Common.{◌≡◌, ◌++◌, take, string_bytes}
use Rattle.std.specs.List.{flat_map}
use Rattle.tws_pages.specs.LevelTable.{level_section}
use Rattle.tws_pages.proofs.level_page.push_sections.Given as goal

abbrev pub invariant-loop-file : goal.invariant-loop-file
invariant-loop-file g l = string_bytes l.text ≡ string_bytes l.initial.text ++ flat_map (level_section l.levels) (take l.file-index l.files)
