use Rattle.std.proofs.Common.{◌≡◌, ◌++◌, Some, map, take}
use Rattle.either.specs.Either.{either}
use Rattle.command_line.specs.Inputs.{knowns_of}
use Rattle.show_commands.specs.Opening.{left_of}
use Rattle.show_commands.proofs.opening.add_closed.Given as goal

-- the inputs of the first sources were added
abbrev pub invariant-loop-source : goal.invariant-loop-source
invariant-loop-source g l =
    map (either (λ file. left_of (λ f. g.S.File.Read.remaining f) (g.S.FileSystem.bytes_of file.system.now file.name.now) file.stage) (λ bytes. Some bytes.now)) l.inputs.items ≡
    map (either (λ file. left_of (λ f. g.S.File.Read.remaining f) (g.S.FileSystem.bytes_of file.system.now file.name.now) file.stage) (λ bytes. Some bytes.now)) l.fn.inputs.items ++ knowns_of (g.S.FileSystem.bytes_of l.system) (Some l.standard) (take l.source-index l.sources)
