-- What the commands of the archive print on standard error of a fault.
use Rattle.std.specs.Prelude.{◌≡◌, ◌⊎◌, ℕ, Bool, true, false, List, [], ◌∷◌, ◌++◌, take, Option, Some, None, Result, Ok, Err, string_bytes, codes, decimal}
use Rattle.std.specs.Int.{to_be_bytes, w32}
use Rattle.std.specs.Net.Text.{ipv4_text}
use Rattle.clap.specs.Words.{Text}
use Rattle.byte_output.specs.Output.{AppendsPrefix}
use Rattle.byte_output.specs.Printable.{shown}
use Rattle.tws_file.specs.declared.file_fault.FileFault.TheVariants as file
use Rattle.tftp_packet.specs.declared.endpoint.Endpoint.{Endpoint}
use Rattle.tftp_packet.specs.declared.cause.Cause.TheVariants as cause
use Rattle.command_line.specs.declared.source.Source.{Source}
use Rattle.command_line.specs.declared.source.Source.TheVariants.{Standard, Named}
use Rattle.command_line.specs.declared.tool_fault.ToolFault.{ToolFault}
use Rattle.command_line.specs.declared.tool_fault.ToolFault.TheVariants.{Read, Write, Unreadable, Memory, Socket, Transfer}
use Rattle.archive_sync.specs.declared.news_fault.NewsFault.{NewsFault}
use Rattle.archive_sync.specs.declared.news_fault.NewsFault.TheVariants as news
use Rattle.archive_sync.specs.declared.sync_fault.SyncFault.{SyncFault}
use Rattle.archive_sync.specs.declared.sync_fault.SyncFault.TheVariants.{From, To, News}
use Rattle.command_line.specs.Faults.{answer_status, input_fault, status_of}
use Rattle.command_line.specs.Saying.{Says}
use Rattle.command_line.specs.Printing.{Printed, PrintsCause, ReportsFile, fault_text, line_about, plain_line, report_lines}
use Rattle.archive_arguments.specs.Address.{bad_address_lines}
use Rattle.archive_commands.specs.declared.reached.Reached.{Reached}
use Rattle.archive_commands.specs.Faults.{run_fault}
use Rattle.archive_commands.specs.Labels.{are_several}
use Rattle.archive_commands.specs.Syncing.{sync_status}

-- ---- an address that cannot be used

abbrev pub no_host_reason : Text
no_host_reason = codes "neither an IPv4 address nor a host that can be found"

abbrev pub swapped_reason : Text
swapped_reason = codes "neither an IPv4 address nor a host that can be found; ADDRESS comes before FILE"

-- ---- what else is known of a transfer that failed

abbrev pub server_says : Text
server_says = codes "the server says"

-- what the server said, if that is known
abbrev pub refusal_lines : (refusal : List ℕ) → List (List ℕ)
refusal_lines [] = []
refusal_lines (byte ∷ bytes) = line_about server_says (shown (byte ∷ bytes)) ∷ []

-- no answer came from the host with these bytes
abbrev pub unanswered_line : (host : List ℕ) → (port : ℕ) → List ℕ
unanswered_line host port = plain_line (codes "no answer from " ++ (ipv4_text host ++ (codes " port " ++ (decimal port ++ codes ": does the archive run there, and may its answers come in?"))))

abbrev pub no_answer_line : Endpoint → List ℕ
no_answer_line server = unanswered_line (to_be_bytes w32 server.host) server.port

abbrev pub stopped_line : (block : ℕ) → (blocks : Option ℕ) → List ℕ
stopped_line block (Some blocks) = plain_line (codes "answers stopped after block " ++ (decimal block ++ (codes " of " ++ (decimal blocks ++ codes ": try again"))))
stopped_line block None = plain_line (codes "answers stopped after block " ++ (decimal block ++ codes ": try again"))

abbrev pub reached_line : (answered : Bool) → Endpoint → (block : ℕ) → (blocks : Option ℕ) → List ℕ
reached_line true server block blocks = stopped_line block blocks
reached_line false server block blocks = no_answer_line server

-- where it stopped, if that is known
abbrev pub reached_lines : Option Reached → List (List ℕ)
reached_lines None = []
reached_lines (Some r) = reached_line r.answered r.server r.block r.blocks ∷ []

-- What is printed after a fault, by the text of the last ERROR and by how far the last transfer came: what the server said only
-- if it refused, where the transfer stopped only if it timed out, and for a port what the system said, if that is known.
abbrev pub PrintsMore : ToolFault → (refusal : List ℕ) → (reached : Option Reached) → (old new : Option (List ℕ)) → Type 0
PrintsMore Read refusal reached old new = new ≡ old
PrintsMore Write refusal reached old new = new ≡ old
PrintsMore (Unreadable index fault) refusal reached old new = new ≡ old
PrintsMore Memory refusal reached old new = new ≡ old
PrintsMore Socket refusal reached old new = (new ≡ old) ⊎ PrintsCause (codes "no port") old new
PrintsMore (Transfer (cause.Refused code)) refusal reached old new = Printed (refusal_lines refusal) old new
PrintsMore (Transfer cause.TimedOut) refusal reached old new = Printed (reached_lines reached) old new
PrintsMore (Transfer cause.TooLong) refusal reached old new = new ≡ old
PrintsMore (Transfer cause.Memory) refusal reached old new = new ≡ old

-- the lines of a fault, and what is printed after them
abbrev pub ReportsTransfer : (lines : List (List ℕ)) → ToolFault → (refusal : List ℕ) → (reached : Option Reached) → (old new : Option (List ℕ)) → Type 0
ReportsTransfer lines fault refusal reached old new = (mid : Option (List ℕ)) × Printed lines old mid × PrintsMore fault refusal reached mid new

-- ---- what was fetched

-- the server at this address sent a file of the ruleset with this code, which is the other one
abbrev pub other_lines : (address : Text) → (code : ℕ) → List (List ℕ)
other_lines address code =
    line_about address (codes "unreadable: BadRuleset(" ++ (decimal code ++ codes ")")) ∷ line_about address (codes "byte 4 is " ++ (decimal code ++ codes ", the code of the other ruleset")) ∷ []

-- why no collection was fetched from the server at this address; what was sent is at fault if it is unreadable
abbrev pub ReportsReceived : ToolFault → (address : Text) → (refusal : List ℕ) → (reached : Option Reached) → (old new : Option (List ℕ)) → Type 0
ReportsReceived fault address refusal reached old new =
    ReportsTransfer (report_lines fault (address ∷ [])) fault refusal reached old new ⊎ ((index code : ℕ) × (fault ≡ Unreadable index (file.BadRuleset code)) × Printed (other_lines address code) old new)

-- the same, or why the file of this name was not written, if the system said that
abbrev pub ReportsGet : {C : Type 0} → (cause : Option C) → ToolFault → (file address : Text) → (refusal : List ℕ) → (reached : Option Reached) → (old new : Option (List ℕ)) → Type 0
ReportsGet (Some said) fault file address refusal reached old new = ReportsFile fault file old new
ReportsGet None fault file address refusal reached old new = ReportsReceived fault address refusal reached old new

-- what `get` reported with this status, for this address and this file
abbrev pub GetReports : (address file : Text) → (status : ℕ) → (refusal : List ℕ) → (reached : Option Reached) → (old new : Option (List ℕ)) → Type 0
GetReports address file status refusal reached old new =
    ((status ≡ 1) × Printed (bad_address_lines address no_host_reason) old new)
    ⊎ ((fault : ToolFault) × (status ≡ status_of fault) × (ReportsFile fault file old new ⊎ ReportsReceived fault address refusal reached old new))

-- ---- a file that was to be sent

-- as its report names it: standard input has no name
abbrev pub names_of : Source → List Text
names_of Standard = []
names_of (Named name) = string_bytes name ∷ []

abbrev pub name_of : Source → Text
name_of Standard = codes "standard input"
name_of (Named name) = string_bytes name

-- the lines of its fault; one of several is named
abbrev pub file_fault_lines : (several : Bool) → Source → ToolFault → List (List ℕ)
file_fault_lines false source fault = report_lines fault (names_of source)
file_fault_lines true source Read = line_about (name_of source) (fault_text Read) ∷ []
file_fault_lines true source Write = line_about (name_of source) (fault_text Write) ∷ []
file_fault_lines true source (Unreadable index fault) = report_lines (Unreadable index fault) (names_of source)
file_fault_lines true source Memory = line_about (name_of source) (fault_text Memory) ∷ []
file_fault_lines true source Socket = line_about (name_of source) (fault_text Socket) ∷ []
file_fault_lines true source (Transfer why) = line_about (name_of source) (fault_text (Transfer why)) ∷ []

-- that was printed, with what else is known; if it was sent, nothing was
abbrev pub ReportsSent : (several : Bool) → Source → Result (Unit {0}) ToolFault → (refusal : List ℕ) → (reached : Option Reached) → (old new : Option (List ℕ)) → Type 0
ReportsSent several source (Ok done) refusal reached old new = new ≡ old
ReportsSent several source (Err fault) refusal reached old new = ReportsTransfer (file_fault_lines several source fault) fault refusal reached old new

-- why two texts were not compared, of which the first has one of these names, and the second is from the server at this address
abbrev pub texts_lines : (names : List Text) → (address : Text) → NewsFault → List (List ℕ)
texts_lines names address (news.First fault) = report_lines (input_fault 0 fault) names
texts_lines names address (news.Second fault) = report_lines (input_fault 0 fault) (address ∷ [])
texts_lines names address news.Rulesets = line_about address (codes "different rulesets") ∷ []
texts_lines names address news.Memory = report_lines Memory names

-- that a file which is one of several was not
abbrev pub uncompared_lines : (several : Bool) → Source → List (List ℕ)
uncompared_lines false source = []
uncompared_lines true source = line_about (name_of source) (codes "not compared") ∷ []

-- why a file was not compared with the collection at this address
abbrev pub ReportsUncompared : (several : Bool) → Source → (address : Text) → SyncFault → (refusal : List ℕ) → (reached : Option Reached) → (old new : Option (List ℕ)) → Type 0
ReportsUncompared several source address (From fault) refusal reached old new = ReportsTransfer (file_fault_lines several source (run_fault fault)) (run_fault fault) refusal reached old new
ReportsUncompared several source address (To fault) refusal reached old new = ReportsTransfer (file_fault_lines several source (run_fault fault)) (run_fault fault) refusal reached old new
ReportsUncompared several source address (News why) refusal reached old new =
    (mid : Option (List ℕ)) × Printed (texts_lines (names_of source) address why) old mid × Printed (uncompared_lines several source) mid new

-- what was reported of a file with this status: how it was sent, or why it was not compared
abbrev pub ReportsOne : (several : Bool) → Source → (address : Text) → (status : ℕ) → (refusal : List ℕ) → (reached : Option Reached) → (old new : Option (List ℕ)) → Type 0
ReportsOne several source address status refusal reached old new =
    ((done : Result (Unit {0}) ToolFault) × (status ≡ answer_status done) × ReportsSent several source done refusal reached old new)
    ⊎ ((why : SyncFault) × (status ≡ sync_status why) × ReportsUncompared several source address why refusal reached old new)

-- the same of each of these files, in order, by what its wire then had
abbrev pub ReportsEach : (several : Bool) → (address : Text) → List Source → (old new : Option (List ℕ)) → Type 0
ReportsEach several address [] old new = new ≡ old
ReportsEach several address (source ∷ sources) old new =
    (mid : Option (List ℕ)) × ((status : ℕ) × (refusal : List ℕ) × (reached : Option Reached) × ReportsOne several source address status refusal reached old mid) × ReportsEach several address sources mid new

-- why a file was not read, with this status
abbrev pub ReportsUnread : (several : Bool) → Source → (status : ℕ) → (old new : Option (List ℕ)) → Type 0
ReportsUnread several source status old new =
    ((fault : ToolFault) × (status ≡ status_of fault) × Printed (file_fault_lines several source fault) old new) ⊎ ((status ≡ 2) × ReportsFile Read (name_of source) old new)

-- the first of these files that was not read
pub record ReportsFirst (sources : List Source) (status : ℕ) (old new : Option (List ℕ)) : Type 0 where
  pub front : List Source
  pub source : Source
  pub rest : List Source
  pub split : sources ≡ front ++ source ∷ rest
  pub reports : ReportsUnread (are_several sources) source status old new

-- This was said, and then each file reported, unless a text was missing; or it could not be said.
abbrev pub SaysThen : (note : List ℕ) → List Source → (address : Text) → (old new : Option (List ℕ)) → Type 0
SaysThen note sources address old new =
    ((mid : Option (List ℕ)) × Says note (mid ≡ old) old mid × ((count : ℕ) × ReportsEach (are_several sources) address (take count sources) mid new))
    ⊎ ((mid : Option (List ℕ)) × AppendsPrefix old mid note × Printed (report_lines Write []) mid new)
