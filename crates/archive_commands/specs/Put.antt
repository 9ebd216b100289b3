-- The command `put`: what it does over any wire, any file and any output.
use Rattle.std.specs.Prelude.{◌≡◌, ◌⊎◌, ℕ, ◌<◌, ◌≤◌, List, ◌++◌, length, Option, IfSome, Result, Ok, Err, codes}
use Rattle.std.specs.Io.KnownBytes.{Appends, Consumes, IsAtEnd}
use Rattle.clap.specs.Words.{App, Row, Rule, Text, new_app, with_rule}
use Rattle.byte_output.specs.Output.{AppendsPrefix}
use Rattle.tws_file.specs.declared.file_fault.FileFault.{FileFault}
use Rattle.tws_file.specs.declared.key.Key.{Key}
use Rattle.tws_file.specs.Text.{IsReadable, Record}
use Rattle.tws_file.specs.Fault.{HasFileFault, IsLasting}
use Rattle.tws_reader.specs.PartReader.{HasRead, PartReading}
use Rattle.tftp_packet.specs.declared.endpoint.Endpoint.{Endpoint}
use Rattle.tftp_ends.specs.declared.limits.TheConstants.{MAX_FILE}
use Rattle.tftp_packet.specs.declared.cause.Cause.TheVariants as cause
use Rattle.archive_runs.specs.declared.run_fault.RunFault.{RunFault}
use Rattle.archive_runs.specs.declared.run_fault.RunFault.TheVariants as run
use Rattle.archive_wire.specs.Wire.{Entry}
use Rattle.archive_runs.specs.Rounds.{PutsInRounds}
use Rattle.archive_commands.specs.declared.put.PutArguments.{PutArguments}
use Rattle.archive_commands.specs.declared.limits.TheConstants.{ROUNDS}
use Rattle.command_line.specs.declared.limits.TheConstants.{INPUT_PIECE}
use Rattle.command_line.specs.declared.tool_fault.ToolFault.{ToolFault}
use Rattle.command_line.specs.declared.tool_fault.ToolFault.TheVariants.{Read, Write, Unreadable, Memory, Socket, Transfer}
use Rattle.archive_commands.specs.Arguments.{HasTarget, address_rule, flag_rule}
use Rattle.archive_arguments.specs.Arguments.{number_rule, port_option}
use Rattle.command_line.specs.Arguments.{HasFlag, HasSources, files_rule}
use Rattle.archive_commands.specs.Lines.{sent_line}
use Rattle.archive_commands.specs.Stopping.{first_stopping}

abbrev pub put_name : Text
put_name = codes "put"

-- with only its files and where they are sent
abbrev pub sending_app : App
sending_app = with_rule (with_rule (with_rule (new_app put_name) address_rule) files_rule) (number_rule port_option)

abbrev pub better_rule : Rule
better_rule = flag_rule (codes "better")

-- `put ADDRESS FILE.. [--port N] [--better]`
abbrev pub put_app : App
put_app = with_rule sending_app better_rule

-- what was found for its arguments
pub record AsksToPut (rows : List Row) (arguments : PutArguments) : Type 0 where
  pub sources_are : HasSources rows arguments.sources.items
  pub target_is : HasTarget rows arguments.target
  pub better_is : HasFlag better_rule rows arguments.better

-- ---- what it does

-- at most so many bytes of an input were read
pub record ReadsAtMost (most : ℕ) (old new : Option (List ℕ)) : Type 0 where
  pub bytes : List ℕ
  pub consumed : Consumes old new bytes
  pub few : length bytes ≤ most

-- the bytes have no fault that lasts whatever follows
abbrev pub IsSound : List ℕ → Type 0
IsSound bytes = (fault : FileFault) → IsLasting fault → HasFileFault bytes fault → ⊥

-- these bytes of an input were kept, and read as they came; the level is that of the first solution that stops Tile World
pub record HasBytes (kept : List ℕ) (reader : PartReading) (found : Option Key) (bytes : List ℕ) : Type 0 where
  pub same : kept ≡ bytes
  pub short : length bytes ≤ MAX_FILE
  pub records : List Record
  pub read : HasRead reader records bytes
  pub first : found ≡ first_stopping records
  pub sound : IsSound bytes

-- why an input that begins with these bytes is read no further
abbrev pub RefusesBytes : List ℕ → ToolFault → Type 0
RefusesBytes bytes Read = ⊥
RefusesBytes bytes Write = ⊥
RefusesBytes bytes (Unreadable index fault) = (index ≡ 0) × IsLasting fault × HasFileFault bytes fault
RefusesBytes bytes Memory = Unit {0}
RefusesBytes bytes Socket = ⊥
RefusesBytes bytes (Transfer why) = (why ≡ cause.TooLong) × (MAX_FILE < length bytes) × IsSound bytes

-- the last piece that was read of an input brought a fault that lasts
pub record BreaksOff (fault : FileFault) (old new : Option (List ℕ)) : Type 0 where
  pub bytes : List ℕ
  pub piece : List ℕ
  pub small : length piece ≤ INPUT_PIECE
  pub consumed : Consumes old new (bytes ++ piece)
  pub sound : IsSound bytes
  pub lasts : IsLasting fault
  pub is : HasFileFault (bytes ++ piece) fault

-- an input that is reported as unreadable was read to its end, or up to a fault that lasts
abbrev pub IsReadUp : (old new : Option (List ℕ)) → ToolFault → Type 0
IsReadUp old new Read = Unit {0}
IsReadUp old new Write = Unit {0}
IsReadUp old new (Unreadable index fault) = IsAtEnd new ⊎ BreaksOff fault old new
IsReadUp old new Memory = Unit {0}
IsReadUp old new Socket = Unit {0}
IsReadUp old new (Transfer why) = Unit {0}

-- more bytes than a file may have, at the beginning of these, have no fault that lasts
pub record BeginsLong (bytes : List ℕ) : Type 0 where
  pub begin : List ℕ
  pub rest : List ℕ
  pub split : bytes ≡ begin ++ rest
  pub long : MAX_FILE < length begin
  pub sound : IsSound begin

-- an input whose bytes, if they are known, begin so
abbrev pub IsLong : (known : Option (List ℕ)) → Type 0
IsLong known = IfSome known BeginsLong

-- an input is not a file that can be sent, or was not read to its end
abbrev pub WholeFails : (known : Option (List ℕ)) → ToolFault → Type 0
WholeFails known Read = Unit {0}
WholeFails known Write = ⊥
WholeFails known (Unreadable index fault) = (index ≡ 0) × IfSome known (λ (bytes : List ℕ). HasFileFault bytes fault)
WholeFails known Memory = Unit {0}
WholeFails known Socket = ⊥
WholeFails known (Transfer why) = (why ≡ cause.TooLong) × IsLong known

-- the whole input is these bytes, which are the text of a file that can be sent
pub record IsWholeInput (known : Option (List ℕ)) (bytes : List ℕ) : Type 0 where
  pub known_is : IfSome known (λ (xs : List ℕ). bytes ≡ xs)
  pub readable : IsReadable bytes
  pub short : length bytes ≤ MAX_FILE

-- a complete run of a put of these bytes, with this result
pub record PutRuns (known : Option (List ℕ)) (server : Endpoint) (result : Result ℕ RunFault) (before after : Option (List Entry)) : Type 0 where
  pub bytes : List ℕ
  pub whole : IsWholeInput known bytes
  pub runs : PutsInRounds server bytes ROUNDS result before after

-- the whole input was put, and the line that reports it was written
pub record Puts (known : Option (List ℕ)) (server : Endpoint) (before after : Option (List Entry)) (old new : Option (List ℕ)) : Type 0 where
  pub len : ℕ
  pub put : PutRuns known server (Ok len) before after
  pub said : Appends old new (sent_line len)

-- a put that ran but was not reported: a proper prefix of the line was written
pub record PutUnsaid (known : Option (List ℕ)) (server : Endpoint) (before after : Option (List Entry)) (old new : Option (List ℕ)) : Type 0 where
  pub len : ℕ
  pub put : PutRuns known server (Ok len) before after
  pub prefix : AppendsPrefix old new (sent_line len)

-- Nothing is sent over the wire if the input is too long, is not read to its end, or is not a solution file.
abbrev pub PutFails : (known : Option (List ℕ)) (server : Endpoint) (before after : Option (List Entry)) (old new : Option (List ℕ)) → ToolFault → Type 0
PutFails known server before after old new Read = (after ≡ before) × (new ≡ old)
PutFails known server before after old new Write = PutUnsaid known server before after old new
PutFails known server before after old new (Unreadable index fault) = (after ≡ before) × (new ≡ old) × (index ≡ 0) × IfSome known (λ (bytes : List ℕ). HasFileFault bytes fault)
PutFails known server before after old new Memory = (new ≡ old) × ((after ≡ before) ⊎ PutRuns known server (Err run.Memory) before after ⊎ ((len : ℕ) × PutRuns known server (Ok len) before after))
PutFails known server before after old new Socket = (new ≡ old) × PutRuns known server (Err run.Socket) before after
PutFails known server before after old new (Transfer why) = (new ≡ old) × (PutRuns known server (Err (run.Transfer why)) before after ⊎ ((why ≡ cause.TooLong) × (after ≡ before) × IsLong known))
