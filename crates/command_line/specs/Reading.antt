-- An input that is read to its end, piece by piece, into a sink. The bytes that a reader has left are known if it has a
-- ghost log. What a sink has taken, and why it refuses more, are relations of its type.
use Rattle.std.specs.Prelude.{◌≡◌, ◌⊎◌, ℕ, ◌+◌, ◌^◌, ◌<◌, ◌≤◌, List, ◌++◌, length, Option, Result, Ok, Err}
use Rattle.std.specs.Io.KnownBytes.{Consumes, IsAtEnd}
use Rattle.command_line.specs.declared.limits.TheConstants.{INPUT_PIECE}
use Rattle.command_line.specs.declared.tool_fault.ToolFault.{ToolFault}
use Rattle.command_line.specs.declared.tool_fault.ToolFault.TheVariants.{Read}

-- the bytes that a sink has taken, together with a piece more, can be counted
pub record HasRoom {S : Type 0} (has_taken : S → List ℕ → Type 0) (sink : S) (piece : List ℕ) : Type 0 where
  pub bytes : List ℕ
  pub taken : has_taken sink bytes
  pub few : length bytes + length piece < 2 ^ 64

-- what was read of an input, with these bytes before and after, is what the sink has taken
pub record TakesAll {S : Type 0} (has_taken : S → List ℕ → Type 0) (old new : Option (List ℕ)) (sink : S) : Type 0 where
  pub bytes : List ℕ
  pub taken : has_taken sink bytes
  pub consumed : Consumes old new bytes

-- a sink that had taken what was read before refused the last piece, with this fault
pub record RefusesPiece {S : Type 0} (has_taken : S → List ℕ → Type 0) (refuses : List ℕ → ToolFault → Type 0) (old new : Option (List ℕ)) (e : ToolFault) : Type 0 where
  pub sink : S
  pub bytes : List ℕ
  pub piece : List ℕ
  pub taken : has_taken sink bytes
  pub small : length piece ≤ INPUT_PIECE
  pub consumed : Consumes old new (bytes ++ piece)
  pub refused : refuses (bytes ++ piece) e

-- what reading an input into a sink did, by its result: what the input had and has left, and the sink afterwards
abbrev pub ReadsInto : {S : Type 0} → (has_taken : S → List ℕ → Type 0) (refuses : List ℕ → ToolFault → Type 0) → (old new : Option (List ℕ)) → S → Result (Unit {0}) ToolFault → Type 0
ReadsInto has_taken refuses old new sink (Ok done) = TakesAll has_taken old new sink × IsAtEnd new
ReadsInto has_taken refuses old new sink (Err e) = ((e ≡ Read) × TakesAll has_taken old new sink) ⊎ RefusesPiece has_taken refuses old new e
