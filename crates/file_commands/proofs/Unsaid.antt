-- What a command leaves that could not say what it had to say: nothing was written yet.
use Rattle.std.proofs.Common.{◌≢◌, ℕ, List, [], Option, Some, None, IfSome, inl, refl}
use Rattle.byte_output.specs.Output.{AppendsPrefix}
use Rattle.byte_output.proofs.Sending.{Sends-none}
use Rattle.tws_file.specs.Text.{File, IsText}
use Rattle.command_line.specs.declared.tool_fault.ToolFault.{ToolFault}
use Rattle.command_line.specs.declared.tool_fault.ToolFault.TheVariants.{Read, Write, Unreadable, Memory, Socket, Transfer}
use Rattle.command_line.specs.Faults.{IsReadOut}
use Rattle.show_commands.specs.Written.{WriteFails}
use Rattle.file_commands.specs.Notes.{IsSayFault}

-- nothing is a proper prefix of a text that has a byte
pub nothing_yet : (old : Option (List ℕ)) (words : List ℕ) → words ≢ [] → AppendsPrefix old old words
nothing_yet old words some = record { rest = words; some = some; sends = Sends-none old words }

module _ (text : File → List ℕ) (some : (f : File) → text f ≢ []) (file : File) (old : Option (List ℕ)) where
  -- nothing of the text of the file that was read
  text_unwritten : (known : Option (List ℕ)) → IfSome known (λ (bytes : List ℕ). IsText bytes file) → IfSome known (λ (bytes : List ℕ). (f : File) × IsText bytes f × AppendsPrefix old old (text f))
  text_unwritten None is = tt
  text_unwritten (Some bytes) is = (file, is, nothing_yet old (text file) (some file))

  pub unsaid : (known : Option (List ℕ)) → IfSome known (λ (bytes : List ℕ). IsText bytes file) → (e : ToolFault) → IsSayFault e → WriteFails text known old old e
  unsaid known is Read fails = absurd fails
  unsaid known is Write fails = text_unwritten known is
  unsaid known is (Unreadable index fault) fails = absurd fails
  unsaid known is Memory fails = inl refl
  unsaid known is Socket fails = absurd fails
  unsaid known is (Transfer why) fails = absurd fails

-- no input is reported as unreadable
pub unsaid_read_out : (left : Option (List ℕ)) (e : ToolFault) → IsSayFault e → IsReadOut left e
unsaid_read_out left Read fails = absurd fails
unsaid_read_out left Write fails = tt
unsaid_read_out left (Unreadable index fault) fails = absurd fails
unsaid_read_out left Memory fails = tt
unsaid_read_out left Socket fails = absurd fails
unsaid_read_out left (Transfer why) fails = absurd fails
