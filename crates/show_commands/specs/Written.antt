-- What a command of one input writes: a text of the file that was read, such as its listing.
use Rattle.std.specs.Prelude.{◌≡◌, ◌≢◌, ◌⊎◌, ℕ, ◌≤◌, List, Option, IfSome, string_bytes}
use Rattle.std.specs.Io.KnownBytes.{Appends, IsAtEnd}
use Rattle.tws_file.specs.Text.{File, IsText}
use Rattle.byte_output.specs.Output.{AppendsPrefix}
use Rattle.command_line.specs.declared.tool_fault.ToolFault.{ToolFault}
use Rattle.command_line.specs.declared.tool_fault.ToolFault.TheVariants.{Read, Write, Unreadable, Memory, Socket, Transfer}
use Rattle.command_line.specs.declared.source.Source.{Source}
use Rattle.command_line.specs.declared.source.Source.TheVariants.{Standard, Named}
use Rattle.command_line.specs.Faults.{ReadFails}
use Rattle.command_line.specs.Inputs.{IsUnreadable}

-- the bytes that were read are a file's text, and this text of the file was written
abbrev pub Writes : (File → List ℕ) → (known old new : Option (List ℕ)) → Type 0
Writes text known old new = IfSome known (λ (bytes : List ℕ). (file : File) × IsText bytes file × Appends old new (text file))

-- the bytes are a file's text, and a proper prefix of this text of the file was written
abbrev pub WritesPrefix : (File → List ℕ) → (known old new : Option (List ℕ)) → Type 0
WritesPrefix text known old new = IfSome known (λ (bytes : List ℕ). (file : File) × IsText bytes file × AppendsPrefix old new (text file))

abbrev pub WriteFails : (File → List ℕ) → (known old new : Option (List ℕ)) → ToolFault → Type 0
WriteFails text known old new Read = new ≡ old
WriteFails text known old new Write = WritesPrefix text known old new
WriteFails text known old new (Unreadable index fault) = (new ≡ old) × ReadFails 0 known (Unreadable index fault)
WriteFails text known old new Memory = (new ≡ old) ⊎ WritesPrefix text known old new
WriteFails text known old new Socket = ⊥
WriteFails text known old new (Transfer why) = ⊥

-- a command with one input, which writes this text of the file: what the input had and has left, and the output before
-- and after
pub record Ran (text : File → List ℕ) (status : ℕ) (known left old new : Option (List ℕ)) : Type 0 where
  pub done : status ≡ 0 → IsAtEnd left × Writes text known old new
  pub failed : status ≡ 2 → (new ≡ old) ⊎ WritesPrefix text known old new
  pub unreadable : status ≡ 3 → IsAtEnd left × (new ≡ old) × IsUnreadable known
  pub never : status ≢ 1
  pub few : status ≤ 3

-- the same over a file that is opened by its name
pub record FileRan (text : File → List ℕ) (status : ℕ) (known old new : Option (List ℕ)) : Type 0 where
  pub done : status ≡ 0 → Writes text known old new
  pub failed : status ≡ 2 → (new ≡ old) ⊎ WritesPrefix text known old new
  pub unreadable : status ≡ 3 → (new ≡ old) × IsUnreadable known
  pub never : status ≢ 1
  pub few : status ≤ 3

-- A command with one input, by where the input is read from. Given are what is known of the bytes of the file with each
-- name, and what holds if standard input was not read.
abbrev pub RanFrom : Source → (bytes_of : List ℕ → Option (List ℕ)) → (Unread : Type 0) → (File → List ℕ) → (status : ℕ) → (known left old new : Option (List ℕ)) → Type 0
RanFrom Standard bytes_of Unread text status known left old new = Ran text status known left old new
RanFrom (Named name) bytes_of Unread text status known left old new = Unread × FileRan text status (bytes_of (string_bytes name)) old new
