use Rattle.std.proofs.Common.{◌≡◌, ◌*◌, ◌^◌, ◌≤◌, length, take}
use Rattle.tws_file.specs.Record.{records_of}
use Rattle.tws_tables.specs.Solved.{solutions_in, total_ticks}
use Rattle.tws_pages.proofs.totals.Totals.of.Given as goal

abbrev pub invariant-loop-record : goal.invariant-loop-record
invariant-loop-record g l = record {
  solutions : l.totals.solutions ≡ length (solutions_in (records_of (take l.record-index l.records)));
  ticks : l.totals.ticks ≡ total_ticks (solutions_in (records_of (take l.record-index l.records)));
  few : l.totals.solutions ≤ l.record-index;
  small : l.totals.ticks ≤ l.record-index * 2 ^ 32;
}
