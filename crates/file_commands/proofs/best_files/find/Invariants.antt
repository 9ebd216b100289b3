use Rattle.std.proofs.Common.{take}
use Rattle.file_commands.specs.BestFiles.{StandFor}
use Rattle.file_commands.proofs.best_files.find.Given as goal

-- what the first arguments stand for was found
abbrev pub invariant-loop-file : goal.invariant-loop-file
invariant-loop-file g l = StandFor (g.S.FileSystem.below_of l.system) (take l.file-index l.files) l.sources.items l.found.items
