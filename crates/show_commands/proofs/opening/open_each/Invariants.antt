use Rattle.std.proofs.Common.{◌≡◌, Some, map, take}
use Rattle.either.specs.Either.{either}
use Rattle.command_line.specs.Inputs.{knowns_of}
use Rattle.show_commands.specs.Opening.{CanOpenAll, left_of}
use Rattle.show_commands.proofs.opening.open_each.Given as goal

-- the inputs of the first sources are open
abbrev pub invariant-loop-source : goal.invariant-loop-source
invariant-loop-source g l = record {
  opened : map (either (λ file. left_of (λ f. g.S.File.Read.remaining f) (g.S.FileSystem.bytes_of file.system.now file.name.now) file.stage) (λ bytes. Some bytes.now)) l.inputs.items ≡ knowns_of (g.S.FileSystem.bytes_of l.system) (Some l.standard) (take l.source-index l.sources);
  can : CanOpenAll (g.S.FileSystem.opens_of l.system) (take l.source-index l.sources);
  silent : l.errors ≡ l.fn.errors;
}
