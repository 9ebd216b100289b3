use Rattle.std.proofs.lemmas.Result.{err_from_is_err_and}
use Rattle.byte_output.proofs.Lists.{at_none}
use Rattle.tws_file.specs.Record.{records_of}
use Rattle.tws_reader.proofs.Beginnings.{records_fail}
use Rattle.tws_reader.proofs.reading.read_records.Goals as goal

pub returns-in_err-record-clause-fault : goal.returns-in_err-record-clause-fault
returns-in_err-record-clause-fault g c =
    let p = err_from_is_err_and c.from_residual.result c.from_residual.ensures.1 in
    let so_far = c.loop-records in
    rw (p.1, p.2) (records_fail c.args.bytes.now so_far.rest.now c.args.start so_far.offset
    (records_of so_far.records.items) so_far.invariant.fits so_far.invariant.split so_far.invariant.place _ c.in_err-record.ensures.fault)

pub returns-clause-cut : goal.returns-clause-cut
returns-clause-cut g c = at_none _ c.in_default.is c.in_ok-record.ensures.cut
