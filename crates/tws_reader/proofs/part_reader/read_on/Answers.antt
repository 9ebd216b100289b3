use Rattle.tws_file.specs.Record.{records_of}
use Rattle.tws_reader.proofs.Continuing.{reads_on}
use Rattle.tws_reader.proofs.part_reader.read_on.Goals as goal

pub returns-clause-read : goal.returns-clause-read
returns-clause-read g c =
    reads_on c.args.records.now c.append.new.self
    (records_of c.in_ok-more.more.items) c.args.bytes.now c.in_ok-more.rest.now c.in_ok-append.ensures.ok c.in_ok-more.ensures.records c.in_ok-more.ensures.bytes c.in_ok-more.ensures.cut
