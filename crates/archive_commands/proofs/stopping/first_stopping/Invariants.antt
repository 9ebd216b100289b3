use Rattle.std.proofs.Common.{◌≡◌, take}
use Rattle.tws_file.specs.Record.{records_of}
use Rattle.archive_commands.specs.Stopping.{first_key, first_stopping}
use Rattle.archive_commands.proofs.stopping.first_stopping.Given as goal

abbrev pub invariant-loop-record : goal.invariant-loop-record
invariant-loop-record l = l.found ≡ first_key l.fn.before (first_stopping (records_of (take l.record-index l.records)))
