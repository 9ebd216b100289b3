use Rattle.tws_file.specs.Record.{record_of}
use Rattle.archive_commands.proofs.Stoppers.{first_next}
use Rattle.archive_commands.proofs.stopping.first_stopping.Goals as goal

pub loop-record-preserved : goal.loop-record-preserved
loop-record-preserved c =
    first_next record_of c.args.records.now c.loop-record.record-index c.record-item.result c.args.before c.loop-record.found c.or_that_of-found.result c.loop-record-test.true c.record-item.is c.loop-record.invariant c.or_that_of-found.ensures
