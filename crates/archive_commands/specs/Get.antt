-- The command `get`: what it does over any wire, any file and any output.
use Rattle.std.specs.Prelude.{◌≡◌, ◌≢◌, ◌⊎◌, ℕ, List, [], Option, Some, Result, Ok, Err, OnOk, IfErr, string_bytes, codes}
use Rattle.std.specs.Io.KnownBytes.{Appends}
use Rattle.clap.specs.Words.{App, Row, Text, first_of, new_app, with_rule}
use Rattle.tws_file.specs.declared.file_fault.FileFault.{FileFault}
use Rattle.tws_file.specs.declared.file_fault.FileFault.TheVariants.{BadRuleset}
use Rattle.tws_file.specs.declared.«ruleset».Ruleset.{Ruleset}
use Rattle.tws_file.specs.Fault.{HasFileFault}
use Rattle.tws_file.specs.Fields.{ruleset_code}
use Rattle.tws_file.specs.Text.{File, IsText}
use Rattle.tftp_packet.specs.declared.endpoint.Endpoint.{Endpoint}
use Rattle.archive_runs.specs.declared.run_fault.RunFault.{RunFault}
use Rattle.archive_runs.specs.declared.run_fault.RunFault.TheVariants as run
use Rattle.archive_wire.specs.Wire.{Entry}
use Rattle.archive_runs.specs.Run.{Run}
use Rattle.archive_runs.specs.Rounds.{GetsInRounds, MakesDally}
use Rattle.archive_commands.specs.declared.get.GetArguments.{GetArguments}
use Rattle.archive_commands.specs.declared.limits.TheConstants.{ROUNDS}
use Rattle.command_line.specs.declared.tool_fault.ToolFault.{ToolFault}
use Rattle.command_line.specs.declared.tool_fault.ToolFault.TheVariants.{Read, Write, Unreadable, Memory, Socket, Transfer}
use Rattle.archive_commands.specs.Locating.{Locates}
use Rattle.command_line.specs.Arguments.{HasRuleset, RulesetNames, ruleset_rule}
use Rattle.archive_commands.specs.Arguments.{HasTarget, address_rule, file_rule}
use Rattle.archive_arguments.specs.Arguments.{number_rule, port_option}
use Rattle.command_line.specs.Faults.{answer_status}
use Rattle.system_files.specs.Files.{Keeps, Publishes}
use Rattle.archive_commands.specs.Known.{Known}
use Rattle.archive_commands.specs.Lines.{Transfers, got_line}
use Rattle.archive_arguments.specs.Lines.{LineFails}

abbrev pub get_name : Text
get_name = codes "get"

-- `get ADDRESS RULESET FILE [--port N]`
abbrev pub get_app : RulesetNames → App
get_app names = with_rule (with_rule (with_rule (with_rule (new_app get_name) address_rule) (ruleset_rule names)) file_rule) (number_rule port_option)

-- what was found for its arguments
pub record AsksToGet (rows : List Row) (arguments : GetArguments) : Type 0 where
  pub rules_are : HasRuleset rows arguments.ruleset
  pub file_is : first_of file_rule.id rows ≡ Some (string_bytes arguments.file)
  pub target_is : HasTarget rows arguments.target

-- ---- what it does

-- a complete run of a get into memory, with this result and these bytes
abbrev pub GetRuns : (server : Endpoint) (rules : Ruleset) (result : Result (ℕ × Run) RunFault) (bytes : List ℕ) (before after : Option (List Entry)) → Type 0
GetRuns server rules result bytes before after = GetsInRounds server rules ROUNDS result before after (Some []) (Some bytes)

-- the bytes are a solution file of this ruleset
pub record IsOf (rules : Ruleset) (bytes : List ℕ) : Type 0 where
  pub file : File
  pub text : IsText bytes file
  pub rules_are : file.ruleset ≡ rules

-- they are one of another ruleset, whose code is in their byte 4
pub record IsOfOther (rules : Ruleset) (bytes : List ℕ) (fault : FileFault) : Type 0 where
  pub file : File
  pub text : IsText bytes file
  pub differs : file.ruleset ≢ rules
  pub fault_is : fault ≡ BadRuleset (ruleset_code file.ruleset)

-- why they are not
abbrev pub IsNotOf : (rules : Ruleset) (bytes : List ℕ) → FileFault → Type 0
IsNotOf rules bytes fault = HasFileFault bytes fault ⊎ IsOfOther rules bytes fault

-- the same as a fault of the command; memory may run out
abbrev pub JudgeFault : (rules : Ruleset) (bytes : List ℕ) → ToolFault → Type 0
JudgeFault rules bytes Read = ⊥
JudgeFault rules bytes Write = ⊥
JudgeFault rules bytes (Unreadable index fault) = (index ≡ 0) × IsNotOf rules bytes fault
JudgeFault rules bytes Memory = Unit {0}
JudgeFault rules bytes Socket = ⊥
JudgeFault rules bytes (Transfer why) = ⊥

-- a solution file of the ruleset was fetched
pub record FetchesFile (server : Endpoint) (rules : Ruleset) (got : ℕ × Run) (bytes : List ℕ) (before after : Option (List Entry)) : Type 0 where
  pub runs : GetRuns server rules (Ok got) bytes before after
  pub is : IsOf rules bytes

-- the draft, with these contents, was given these bytes and became the file
pub record Replaces (name : List ℕ) (bytes : List ℕ) (drafted : Option (List ℕ)) (files now : List ℕ → Option (List ℕ)) : Type 0 where
  pub written : Option (List ℕ)
  pub appended : Appends drafted written bytes
  pub published : Publishes name written files now

-- the collection was fetched, and its bytes became the file
pub record Fetches (server : Endpoint) (rules : Ruleset) (name : List ℕ) (got : ℕ × Run) (before after : Option (List Entry)) (drafted : Option (List ℕ)) (files now : List ℕ → Option (List ℕ)) : Type 0 where
  pub bytes : List ℕ
  pub fetched : FetchesFile server rules got bytes before after
  pub replaced : Replaces name bytes drafted files now

-- what was fetched is no solution file of the ruleset, for this reason
pub record FetchesOther (server : Endpoint) (rules : Ruleset) (fault : FileFault) (before after : Option (List Entry)) : Type 0 where
  pub got : ℕ × Run
  pub bytes : List ℕ
  pub runs : GetRuns server rules (Ok got) bytes before after
  pub is_not : IsNotOf rules bytes fault

-- a run with this result may have ended because memory ran out
abbrev pub MayBeShort : Result (ℕ × Run) RunFault → Type 0
MayBeShort (Ok got) = Unit {0}
MayBeShort (Err run.Socket) = ⊥
MayBeShort (Err (run.Transfer why)) = ⊥
MayBeShort (Err run.Memory) = Unit {0}
MayBeShort (Err run.Write) = Unit {0}

-- why no collection was fetched
abbrev pub ReceiveFault : (server : Endpoint) (rules : Ruleset) (before after : Option (List Entry)) → ToolFault → Type 0
ReceiveFault server rules before after Read = ⊥
ReceiveFault server rules before after Write = ⊥
ReceiveFault server rules before after (Unreadable index fault) = (index ≡ 0) × FetchesOther server rules fault before after
ReceiveFault server rules before after Memory = (result : Result (ℕ × Run) RunFault) × (bytes : List ℕ) × GetRuns server rules result bytes before after × MayBeShort result
ReceiveFault server rules before after Socket = (bytes : List ℕ) × GetRuns server rules (Err run.Socket) bytes before after
ReceiveFault server rules before after (Transfer why) = (bytes : List ℕ) × GetRuns server rules (Err (run.Transfer why)) bytes before after

-- why no collection became the file: none was fetched, or it could not be written
abbrev pub FetchFault : (server : Endpoint) (rules : Ruleset) (before after : Option (List Entry)) → ToolFault → Type 0
FetchFault server rules before after e = ReceiveFault server rules before after e
    ⊎ ((e ≡ Write) × ((got : ℕ × Run) × (bytes : List ℕ) × FetchesFile server rules got bytes before after))

pub record FetchFails (server : Endpoint) (rules : Ruleset) (before after : Option (List Entry)) (files now : List ℕ → Option (List ℕ)) (e : ToolFault) : Type 0 where
  pub fault : FetchFault server rules before after e
  pub kept : Keeps files now

-- the collection was fetched, and after what was done about its line the client dallied
pub record GetEnded (server : Endpoint) (rules : Ruleset) (name : List ℕ) (before after : Option (List Entry)) (drafted : Option (List ℕ)) (files now : List ℕ → Option (List ℕ)) (Line : List ℕ → Type 0) : Type 0 where
  pub len : ℕ
  pub run : Run
  pub last : Run
  pub mid : Option (List Entry)
  pub got : Fetches server rules name (len, run) before mid drafted files now
  pub line : Line (got_line len)
  pub dallied : MakesDally ROUNDS run last mid after

-- it was fetched, and the line that reports it was written
abbrev pub Gets : (server : Endpoint) (rules : Ruleset) (name : List ℕ) (before after : Option (List Entry)) (drafted : Option (List ℕ)) (files now : List ℕ → Option (List ℕ)) (old new : Option (List ℕ)) → Type 0
Gets server rules name before after drafted files now old new = GetEnded server rules name before after drafted files now (Appends old new)

-- no draft was begun, and nothing was sent
pub record GetUnbegun (before after : Option (List Entry)) (files now : List ℕ → Option (List ℕ)) (old new : Option (List ℕ)) (e : ToolFault) : Type 0 where
  pub fault_is : e ≡ Write
  pub silent : after ≡ before
  pub kept : Keeps files now
  pub unsaid : new ≡ old

-- no collection became the file, or none was reported
abbrev pub GetFails : (server : Endpoint) (rules : Ruleset) (name : List ℕ) (before after : Option (List Entry)) (drafted : Option (List ℕ)) (files now : List ℕ → Option (List ℕ)) (old new : Option (List ℕ)) → ToolFault → Type 0
GetFails server rules name before after drafted files now old new e =
    GetUnbegun before after files now old new e
    ⊎ (FetchFails server rules before after files now e × (new ≡ old))
    ⊎ GetEnded server rules name before after drafted files now (λ (line : List ℕ). LineFails line old new e)

-- a get of this ruleset into the file of this name, from the server at this host and port, ended with this status
pub record GetEnds (server : Endpoint) (rules : Ruleset) (name : List ℕ) (status : ℕ) (before after : Option (List Entry)) (drafted : Option (List ℕ)) (files now : List ℕ → Option (List ℕ)) (old new : Option (List ℕ)) : Type 0 where
  pub done : Result (Unit {0}) ToolFault
  pub status_is : status ≡ answer_status done
  pub gets : OnOk done (Gets server rules name before after drafted files now old new)
  pub fails : IfErr done (GetFails server rules name before after drafted files now old new)

-- what is known that a draft for its file begins with
abbrev pub get_drafted : (drafted_of : List ℕ → Option (List ℕ)) → GetArguments → Option (List ℕ)
get_drafted drafted_of arguments = drafted_of (string_bytes arguments.file)

-- What it did, by the exit status, given what is known of files and hosts, and of the bytes of the files afterwards. The
-- server is at the host to which the address that was given leads, and at the port. Only a get whose whole collection
-- was written changes a file, that of its name: at status 3 what was fetched is none.
pub record GetRan (known : Known) (arguments : GetArguments) (status : ℕ) (before after : Option (List Entry)) (now : List ℕ → Option (List ℕ)) (old new : Option (List ℕ)) : Type 0 where
  pub found : Option ℕ
  pub located : Locates known.host_of (string_bytes arguments.target.address) found
  pub transfers : Transfers found got_line status old new
  pub other : status ≡ 3 → (host : ℕ) × (found ≡ Some host) × (fault : FileFault) × FetchesOther (record { host = host; port = arguments.target.port }) arguments.ruleset fault before after
  pub ended : status ≢ 1 → (host : ℕ) × (found ≡ Some host) × GetEnds (record { host = host; port = arguments.target.port }) arguments.ruleset (string_bytes arguments.file) status before after (get_drafted known.drafted_of arguments) known.bytes_of now old new
  pub nowhere : status ≡ 1 → (after ≡ before) × Keeps known.bytes_of now
  pub harmless : status ≢ 0 → status ≢ 2 → Keeps known.bytes_of now
