use Rattle.std.proofs.Common.{◌≡◌, take}
use Rattle.std.specs.List.{fold}
use Rattle.tws_file.specs.Record.{record_of}
use Rattle.tws_pages.specs.SideBySide.{with_record}
use Rattle.tws_pages.proofs.side_by_side.with_each.Given as goal

abbrev pub invariant-loop-record : goal.invariant-loop-record
invariant-loop-record g l = l.best ≡ fold (λ best one. with_record l.level best (record_of one)) l.initial.best (take l.record-index l.records)
