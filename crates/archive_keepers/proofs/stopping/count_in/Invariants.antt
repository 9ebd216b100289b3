use Rattle.std.proofs.Common.{◌≡◌, ◌+◌, ◌≤◌, List, length}
use Rattle.std.specs.List.{flat_map, AllByRecursion}
use Rattle.tws_file.specs.Text.{Record, IsRecord, record_text}
use Rattle.archive_keepers.proofs.Cutting.{CountsOn}
use Rattle.archive_keepers.proofs.stopping.count_in.Given as goal

abbrev pub invariant-loop-body : goal.invariant-loop-body
invariant-loop-body l = record {
  few : l.count + length l.rest ≤ length l.records;
  counts : (rs : List Record) → AllByRecursion IsRecord rs → l.records ≡ flat_map record_text rs → CountsOn l.count l.rest rs;
}

abbrev pub decreases-loop-body : goal.decreases-loop-body
decreases-loop-body l = length l.rest
