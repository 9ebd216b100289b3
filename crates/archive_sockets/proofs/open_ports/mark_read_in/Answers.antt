use Rattle.byte_output.proofs.Rows.{written_more}
use Rattle.archive_sockets.proofs.open_ports.mark_read_in.Goals as goal

pub loop-open-preserved : goal.loop-open-preserved
loop-open-preserved c =
    written_more _ _ _ _ _ _ c.loop-open-test.true c.loop-open.auto.ports c.loop-open.invariant c.mark_read.ensures
