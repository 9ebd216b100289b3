use Rattle.std.proofs.Common.{◌≡◌, ◌+◌, ◌++◌, length, flat_map}
use Rattle.std.specs.List.{AllByRecursion}
use Rattle.tws_file.specs.Text.{IsRecord, record_text}
use Rattle.tws_file.specs.Record.{records_of}
use Rattle.tws_reader.proofs.reading.read_records.Given as goal

-- the records so far and the rest are all of the bytes
abbrev pub invariant-loop-records : goal.invariant-loop-records
invariant-loop-records g l = record {
  fits : AllByRecursion IsRecord (records_of l.records.items);
  split : l.bytes ≡ flat_map record_text (records_of l.records.items) ++ l.rest;
  place : l.offset + length l.rest ≡ l.fn.start + length l.bytes;
}

abbrev pub decreases-loop-records : goal.decreases-loop-records
decreases-loop-records g l = length l.rest
