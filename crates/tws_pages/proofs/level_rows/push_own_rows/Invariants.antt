use Rattle.std.proofs.Common.{◌≡◌, ◌++◌, take, string_bytes}
use Rattle.std.specs.List.{flat_map}
use Rattle.tws_file.specs.Record.{records_of}
use Rattle.tws_pages.specs.LevelTable.{own_rows}
use Rattle.tws_pages.proofs.level_rows.push_own_rows.Given as goal

abbrev pub invariant-loop-record : goal.invariant-loop-record
invariant-loop-record g l = string_bytes l.text ≡ string_bytes l.initial.text ++ flat_map (own_rows l.ruleset l.level) (records_of (take l.record-index l.records))
