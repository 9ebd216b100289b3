use Rattle.std.proofs.Common.{◌++◌, take}
use Rattle.byte_output.specs.Output.{Sends}
use Rattle.tws_file.proofs.Gathering.{texts}
use Rattle.tws_file.proofs.writing.send_records.Given as goal

abbrev pub invariant-loop-record : goal.invariant-loop-record
invariant-loop-record g l =
    Sends (g.W.Write.contents l.fn.out) (g.W.Write.contents l.out) (l.fn.buffer ++ texts (take l.record-index l.records)) l.buffer
