use Rattle.std.proofs.Common.{◌≡◌, map, take}
use Rattle.tws_file.specs.Record.{records_of}
use Rattle.tws_best.specs.Best.{keyed_body, solved_in}
use Rattle.tws_best.proofs.changes.solutions_among.Given as goal

abbrev pub invariant-loop-record : goal.invariant-loop-record
invariant-loop-record g l = map (λ s. keyed_body s.1.now) l.all.items ≡ solved_in (records_of (take l.record-index l.records))
