-- The lines that the commands of the archive print, and what a run of one has printed, by its exit status.
use Rattle.std.specs.Prelude.{◌≡◌, ◌≢◌, ◌⊎◌, ◌↔◌, ℕ, ◌≤◌, List, codes, Option, None}
use Rattle.std.specs.Io.KnownBytes.{Appends}
use Rattle.byte_output.specs.Output.{AppendsPrefix}
use Rattle.command_line.specs.declared.tool_fault.ToolFault.{ToolFault}
use Rattle.command_line.specs.declared.tool_fault.ToolFault.TheVariants.{Read, Write, Unreadable, Memory, Socket, Transfer}
use Rattle.archive_arguments.specs.Lines.{number_line}

abbrev pub sent_line : ℕ → List ℕ
sent_line len = number_line (codes "sent ") len (codes " bytes")

abbrev pub got_line : ℕ → List ℕ
got_line len = number_line (codes "got ") len (codes " bytes")

-- ---- by the exit status

-- a line with some number was written
abbrev pub Says : (text : ℕ → List ℕ) (old new : Option (List ℕ)) → Type 0
Says text old new = (n : ℕ) × Appends old new (text n)

-- nothing was written, or a proper prefix of a line
abbrev pub IsCutText : (text : ℕ → List ℕ) (old new : Option (List ℕ)) → Type 0
IsCutText text old new = (new ≡ old) ⊎ ((n : ℕ) × AppendsPrefix old new (text n))

abbrev pub Unsaid : (text : ℕ → List ℕ) (old new : Option (List ℕ)) → ToolFault → Type 0
Unsaid text old new Read = new ≡ old
Unsaid text old new Write = IsCutText text old new
Unsaid text old new (Unreadable index fault) = new ≡ old
Unsaid text old new Memory = IsCutText text old new
Unsaid text old new Socket = new ≡ old
Unsaid text old new (Transfer why) = new ≡ old

-- the fault is that of a line that was not written whole, or `P` holds
abbrev pub Unless : Type 0 → ToolFault → Type 0
Unless P e = (e ≡ Write) ⊎ (e ≡ Memory) ⊎ P

-- a transfer with a server at the host that was found, if one was, which prints this line
pub record Transfers (found : Option ℕ) (text : ℕ → List ℕ) (status : ℕ) (old new : Option (List ℕ)) : Type 0 where
  pub done : status ≡ 0 → Says text old new
  pub failed : status ≡ 2 → IsCutText text old new
  pub other : status ≢ 0 → status ≢ 2 → new ≡ old
  pub bad : (status ≡ 1) ↔ (found ≡ None)
  pub few : status ≤ 4
