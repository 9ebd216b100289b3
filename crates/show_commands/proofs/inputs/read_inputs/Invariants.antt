use Rattle.std.proofs.Common.{◌≡◌, length, take, drop, map}
use Rattle.std.specs.List.{AllByRecursion}
use Rattle.std.specs.Io.KnownBytes.{IsAtEnd}
use Rattle.show_commands.specs.SeveralInputs.{AreFiles}
use Rattle.show_commands.proofs.inputs.read_inputs.Given as goal

-- the first inputs were read; the others are unchanged
abbrev pub invariant-loop-index : goal.invariant-loop-index
invariant-loop-index g l = record {
  count : length l.inputs ≡ length l.fn.inputs;
  others : drop l.index l.inputs ≡ drop l.index l.fn.inputs;
  ended : AllByRecursion (λ input. IsAtEnd (g.R.Read.remaining input)) (take l.index l.inputs);
  so_far : AreFiles (map (λ input. g.R.Read.remaining input) (take l.index l.fn.inputs)) l.files.items;
}
