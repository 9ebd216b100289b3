use Rattle.std.proofs.Common.{◌≡◌, ◌++◌, take, string_bytes}
use Rattle.std.specs.List.{flat_map}
use Rattle.tws_pages.specs.SideBySide.{level_sides}
use Rattle.tws_pages.proofs.side_by_side.push_rows.Given as goal

abbrev pub invariant-loop-level : goal.invariant-loop-level
invariant-loop-level g l = string_bytes l.text ≡ string_bytes l.initial.text ++ flat_map (level_sides l.files) (take l.level-index l.levels)
