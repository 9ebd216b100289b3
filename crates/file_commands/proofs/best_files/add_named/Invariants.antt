use Rattle.std.proofs.Common.{map, string_bytes, take}
use Rattle.file_commands.specs.BestFiles.{AddsNamed}
use Rattle.file_commands.proofs.best_files.add_named.Given as goal

-- the files of the first names were added
abbrev pub invariant-loop-name : goal.invariant-loop-name
invariant-loop-name l = AddsNamed (map string_bytes (take l.name-index l.names)) l.fn.sources.items l.sources.items
