use Rattle.std.proofs.Common.{◌≡◌, ◌++◌, take, string_bytes}
use Rattle.std.specs.List.{flat_map}
use Rattle.tws_file.specs.Record.{records_of}
use Rattle.tws_pages.specs.LevelTable.{level_rows}
use Rattle.tws_pages.proofs.level_section.push_levels.Given as goal

abbrev pub invariant-loop-level : goal.invariant-loop-level
invariant-loop-level g l = string_bytes l.text ≡ string_bytes l.initial.text ++ flat_map (level_rows l.ruleset (records_of l.records)) (take l.level-index l.levels)
