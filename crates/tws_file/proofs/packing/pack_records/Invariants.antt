use Rattle.std.proofs.Common.{◌≡◌, take, map}
use Rattle.tws_file.specs.Record.{records_of}
use Rattle.tws_file.specs.Packing.{packed_record}
use Rattle.tws_file.proofs.packing.pack_records.Given as goal

abbrev pub invariant-loop-record : goal.invariant-loop-record
invariant-loop-record g l = records_of l.packed.items ≡ map packed_record (records_of (take l.record-index l.records))
