use Rattle.std.proofs.Common.{◌≡◌, ◌++◌, take, string_bytes}
use Rattle.std.specs.List.{flat_map}
use Rattle.tws_file.specs.Record.{records_of}
use Rattle.tws_pages.specs.LevelTable.{other_rows}
use Rattle.tws_pages.proofs.level_section.push_others.Given as goal

abbrev pub invariant-loop-record : goal.invariant-loop-record
invariant-loop-record g l = string_bytes l.text ≡ string_bytes l.initial.text ++ flat_map (other_rows l.levels) (records_of (take l.record-index l.records))
