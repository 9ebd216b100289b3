use Rattle.std.proofs.Common.{ℕ, List, Bor, map, take}
use Rattle.command_line.specs.Arguments.{AreSources}
use Rattle.command_line.proofs.arguments.sources_of.Given as goal

abbrev pub invariant-loop-name : goal.invariant-loop-name
invariant-loop-name l = AreSources (map (λ (name : Bor (List ℕ)). name.now) (take l.name-index l.fn.names)) l.sources.items
