use Rattle.std.proofs.Common.{◌≡◌, ◌*◌, take}
use Rattle.tftp_ends.specs.declared.chunks.TheConstants.{CHUNK_SIZE}
use Rattle.archive_table.specs.FileMerge.{HasMerged}
use Rattle.archive_table.proofs.file_merge.merge_chunks.Given as goal

abbrev pub invariant-loop-i : goal.invariant-loop-i
invariant-loop-i g l = record {
  first : l.merge.first ≡ l.fn.merge.first;
  rules : l.merge.now.ruleset ≡ l.fn.merge.now.ruleset;
  merged : HasMerged l.fn.merge.now.entries l.reader l.merge.now (take (CHUNK_SIZE * l.i) l.file);
}
