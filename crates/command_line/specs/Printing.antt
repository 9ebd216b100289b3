-- What is printed on standard error, in lines. Nobody is told if that fails: a line is printed whole or, if the writer fails, a
-- proper prefix of it.
use Rattle.std.specs.Prelude.{◌≡◌, ◌⊎◌, ℕ, List, [], ◌∷◌, ◌++◌, Option, Some, None, unwrap_or, slice_get, Result, Ok, Err, codes, decimal}
use Rattle.std.specs.Io.KnownBytes.{Appends}
use Rattle.clap.specs.Words.{Text}
use Rattle.byte_output.specs.Output.{AppendsPrefix}
use Rattle.tftp_packet.specs.declared.cause.Cause.TheVariants as cause
use Rattle.tws_file.specs.declared.file_fault.FileFault.{FileFault}
use Rattle.tws_file.specs.declared.file_fault.FileFault.TheVariants as file
use Rattle.tws_file.specs.Words.{fault_words}
use Rattle.command_line.specs.declared.job_fault.JobFault.{JobFault}
use Rattle.command_line.specs.declared.job_fault.JobFault.TheVariants as job
use Rattle.command_line.specs.declared.tool_fault.ToolFault.{ToolFault}
use Rattle.command_line.specs.declared.tool_fault.ToolFault.TheVariants.{Read, Write, Unreadable, Memory, Socket, Transfer}

-- ---- a line

-- `tws: WORDS`
abbrev pub plain_line : (words : List ℕ) → List ℕ
plain_line words = codes "tws: " ++ (words ++ 10 ∷ [])

-- `tws: NAME: WORDS`
abbrev pub line_about : (name words : List ℕ) → List ℕ
line_about name words = codes "tws: " ++ (name ++ (codes ": " ++ (words ++ 10 ∷ [])))

-- the text was printed, whole or up to where the writer failed
abbrev pub Prints : (text : List ℕ) → (old new : Option (List ℕ)) → Type 0
Prints text old new = Appends old new text ⊎ AppendsPrefix old new text

-- these texts were, one after the other
abbrev pub Printed : (texts : List (List ℕ)) → (old new : Option (List ℕ)) → Type 0
Printed [] old new = new ≡ old
Printed (text ∷ texts) old new = (mid : Option (List ℕ)) × Prints text old mid × Printed texts mid new

-- a line about what has this name, in words of the system
abbrev pub PrintsCause : (name : List ℕ) → (old new : Option (List ℕ)) → Type 0
PrintsCause name old new = (words : List ℕ) × Prints (line_about name words) old new

-- ---- faults

-- why an input is no solution file, by the name of the fault
abbrev pub unreadable_text : FileFault → List ℕ
unreadable_text (file.ShortHeader len) = codes "unreadable: ShortHeader(" ++ (decimal len ++ codes ")")
unreadable_text file.BadSignature = codes "unreadable: BadSignature"
unreadable_text (file.BadRuleset byte) = codes "unreadable: BadRuleset(" ++ (decimal byte ++ codes ")")
unreadable_text (file.ShortRecord at) = codes "unreadable: ShortRecord(" ++ (decimal at ++ codes ")")
unreadable_text (file.BadSize at) = codes "unreadable: BadSize(" ++ (decimal at ++ codes ")")
unreadable_text (file.MoveCut at) = codes "unreadable: MoveCut(" ++ (decimal at ++ codes ")")
unreadable_text file.Memory = codes "unreadable: Memory"

abbrev pub fault_text : ToolFault → List ℕ
fault_text Read = codes "read fault"
fault_text Write = codes "write fault"
fault_text (Unreadable index fault) = codes "input " ++ (decimal index ++ (codes ": " ++ unreadable_text fault))
fault_text Memory = codes "out of memory"
fault_text Socket = codes "socket fault"
fault_text (Transfer (cause.Refused code)) = codes "transfer failed: refused " ++ decimal code
fault_text (Transfer cause.TimedOut) = codes "transfer failed: timed out"
fault_text (Transfer cause.TooLong) = codes "transfer failed: too long"
fault_text (Transfer cause.Memory) = codes "transfer failed: out of memory"

-- ---- reports

-- the name of an input; one without a name is standard input
abbrev pub name_in : (names : List Text) → (index : ℕ) → Text
name_in names index = unwrap_or (slice_get names index) (codes "standard input")

-- why an input of this name is no solution file
abbrev pub unreadable_lines : (name : Text) → FileFault → List (List ℕ)
unreadable_lines name fault = line_about name (unreadable_text fault) ∷ line_about name (fault_words fault) ∷ []

-- why a command failed whose inputs have these names
abbrev pub report_lines : ToolFault → (names : List Text) → List (List ℕ)
report_lines Read names = plain_line (fault_text Read) ∷ []
report_lines Write names = plain_line (fault_text Write) ∷ []
report_lines (Unreadable index fault) names = unreadable_lines (name_in names index) fault
report_lines Memory names = plain_line (fault_text Memory) ∷ []
report_lines Socket names = plain_line (fault_text Socket) ∷ []
report_lines (Transfer why) names = plain_line (fault_text (Transfer why)) ∷ []

-- that was printed; if the command succeeded, nothing was
abbrev pub Reports : (names : List Text) → Result (Unit {0}) ToolFault → (old new : Option (List ℕ)) → Type 0
Reports names (Ok done) old new = new ≡ old
Reports names (Err fault) old new = Printed (report_lines fault names) old new

-- a fault of the file of this name, and then its cause
abbrev pub ReportsFile : ToolFault → (name : Text) → (old new : Option (List ℕ)) → Type 0
ReportsFile fault name old new = (mid : Option (List ℕ)) × Printed (report_lines fault []) old mid × PrintsCause name mid new

-- why the process's arguments were not read, by the exit status
abbrev pub ReportsArguments : (status : ℕ) → (old new : Option (List ℕ)) → Type 0
ReportsArguments status old new =
    ((status ≡ 1) × Printed (plain_line (codes "an argument is not UTF-8") ∷ []) old new) ⊎ ((status ≡ 2) × Printed (plain_line (codes "out of memory") ∷ []) old new)

-- why a standard stream failed, by the errors that output and input noted; nothing if neither did
abbrev pub ReportsStreams : {E : Type 0} → (out input : Option E) → (old new : Option (List ℕ)) → Type 0
ReportsStreams (Some error) input old new = PrintsCause (codes "standard output") old new
ReportsStreams None (Some error) old new = PrintsCause (codes "standard input") old new
ReportsStreams None None old new = new ≡ old

-- Why the arguments ask for no job: what is said of the words is a text of `clap`.
abbrev pub Explains : JobFault → (old new : Option (List ℕ)) → Type 0
Explains (job.Words error) old new = Unit {0}
Explains job.Memory old new = Printed (report_lines Memory []) old new
