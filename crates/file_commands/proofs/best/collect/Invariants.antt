use Rattle.std.proofs.Common.{◌≡◌, ◌≤◌, length, take, drop, map}
use Rattle.std.specs.List.{AllByRecursion}
use Rattle.std.specs.Io.KnownBytes.{IsAtEnd}
use Rattle.file_commands.specs.Best.{Collects}
use Rattle.file_commands.specs.Steps.{AreNoted}
use Rattle.file_commands.proofs.best.collect.Given as goal

-- the first inputs were read, and are collected; the others are unchanged
abbrev pub invariant-loop-index : goal.invariant-loop-index
invariant-loop-index g l = record {
  count : length l.files ≡ length l.fn.files;
  others : drop l.index l.files ≡ drop l.index l.fn.files;
  ended : AllByRecursion (λ file. IsAtEnd (g.R.Read.remaining file)) (take l.index l.files);
  rules_few : l.notes.rules_count ≤ l.index;
  sets_few : l.notes.sets_count ≤ l.index;
  noted : AreNoted l.fn.ruleset l.fn.sources l.fn.named l.fn.notes l.notes (map (λ file. g.R.Read.remaining file) (take l.index l.fn.files));
  so_far : Collects l.fn.ruleset (map (λ file. g.R.Read.remaining file) (take l.index l.fn.files)) l.collection;
}
