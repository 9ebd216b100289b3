-- Lines with a number, and how one fails.
use Rattle.std.specs.Prelude.{◌≡◌, ℕ, List, [], ◌∷◌, ◌++◌, decimal, Option}
use Rattle.byte_output.specs.Output.{AppendsPrefix}
use Rattle.command_line.specs.declared.tool_fault.ToolFault.{ToolFault}
use Rattle.command_line.specs.declared.tool_fault.ToolFault.TheVariants.{Read, Write, Unreadable, Memory, Socket, Transfer}

-- a number between two texts, as a line
abbrev pub number_line : (before : List ℕ) (n : ℕ) (after : List ℕ) → List ℕ
number_line before n after = before ++ decimal n ++ after ++ 10 ∷ []

-- a line was not written: the writer failed in it, or an allocation for it was refused
abbrev pub LineFails : (line : List ℕ) (old new : Option (List ℕ)) → ToolFault → Type 0
LineFails line old new Read = ⊥
LineFails line old new Write = AppendsPrefix old new line
LineFails line old new (Unreadable index fault) = ⊥
LineFails line old new Memory = new ≡ old
LineFails line old new Socket = ⊥
LineFails line old new (Transfer why) = ⊥
