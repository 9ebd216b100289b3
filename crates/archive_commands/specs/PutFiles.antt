-- What `put` does once it is known where the archive is: it reads all files, says which of their solutions stop Tile World, and
-- then sends each file, whole or what of it is better.
use Rattle.std.specs.Prelude.{◌≡◌, ◌≢◌, ◌⊎◌, ℕ, ◌==◌, ◌≤◌, Bool, true, false, ◌&&◌, if◌then◌else◌, List, [], ◌∷◌, ◌++◌, length, Option, IfOk, Result, Ok, Err, string_bytes}
use Rattle.std.specs.Io.KnownBytes.{Appends, IsAtEnd}
use Rattle.std.specs.List.{AllZip}
use Rattle.tws_file.specs.declared.key.Key.{Key}
use Rattle.tftp_packet.specs.declared.endpoint.Endpoint.{Endpoint}
use Rattle.archive_wire.specs.Wire.{Entry}
use Rattle.archive_runs.specs.declared.run_fault.RunFault.{RunFault}
use Rattle.archive_runs.specs.Rounds.{PutsInRounds}
use Rattle.command_line.specs.declared.source.Source.{Source}
use Rattle.command_line.specs.declared.source.Source.TheVariants.{Standard, Named}
use Rattle.command_line.specs.declared.tool_fault.ToolFault.{ToolFault}
use Rattle.command_line.specs.Faults.{answer_status, status_of}
use Rattle.archive_commands.specs.declared.limits.TheConstants.{ROUNDS}
use Rattle.archive_commands.specs.Faults.{run_fault}
use Rattle.archive_commands.specs.Labels.{are_several, label_of}
use Rattle.archive_commands.specs.Lines.{sent_line}
use Rattle.archive_arguments.specs.Lines.{LineFails}
use Rattle.archive_commands.specs.Put.{IsReadUp, IsWholeInput, WholeFails}
use Rattle.archive_commands.specs.PutBetter.{PutsBetter}
use Rattle.archive_commands.specs.Stopping.{IsFirstStopping, stopping_lines}
use Rattle.archive_commands.specs.Syncing.{Stops, first_of}

-- ---- reading, given what is known of the bytes of the file with each name, and what standard input had and has left

-- a file was read whole
abbrev pub HasRead : (bytes_of : List ℕ → Option (List ℕ)) → Source → (bytes : List ℕ) → (given left : Option (List ℕ)) → Type 0
HasRead bytes_of Standard bytes given left = IsWholeInput given bytes × IsAtEnd left
HasRead bytes_of (Named name) bytes given left = IsWholeInput (bytes_of (string_bytes name)) bytes × (left ≡ given)

-- it was not, and this is the status
abbrev pub IsUnread : (bytes_of : List ℕ → Option (List ℕ)) → Source → (given left : Option (List ℕ)) → (status : ℕ) → Type 0
IsUnread bytes_of Standard given left status = (fault : ToolFault) × (status ≡ status_of fault) × WholeFails given fault × IsReadUp given left fault
IsUnread bytes_of (Named name) given left status = (fault : ToolFault) × (status ≡ status_of fault) × WholeFails (bytes_of (string_bytes name)) fault × (left ≡ given)

-- each of the files was, in order
abbrev pub AreRead : (bytes_of : List ℕ → Option (List ℕ)) → List Source → (texts : List (List ℕ)) → (given left : Option (List ℕ)) → Type 0
AreRead bytes_of [] [] given left = left ≡ given
AreRead bytes_of [] (text ∷ texts) given left = ⊥
AreRead bytes_of (source ∷ sources) [] given left = ⊥
AreRead bytes_of (source ∷ sources) (text ∷ texts) given left = (mid : Option (List ℕ)) × HasRead bytes_of source text given mid × AreRead bytes_of sources texts mid left

-- the first file that was not read whole ended it, with this status
pub record FailsToRead (bytes_of : List ℕ → Option (List ℕ)) (sources : List Source) (given left : Option (List ℕ)) (status : ℕ) : Type 0 where
  pub front : List Source
  pub source : Source
  pub rest : List Source
  pub split : sources ≡ front ++ source ∷ rest
  pub texts : List (List ℕ)
  pub mid : Option (List ℕ)
  pub read : AreRead bytes_of front texts given mid
  pub unread : IsUnread bytes_of source mid left status

-- that of a fault
pub record IsFailedStatus (status : ℕ) : Type 0 where
  pub some : status ≢ 0
  pub usage : status ≢ 1
  pub few : status ≤ 4

-- ---- sending a file whole

-- the line for what was put; or why it was not put, or not said
abbrev pub SaysWhole : (label : List ℕ) → Result ℕ RunFault → Result (Unit {0}) ToolFault → (old new : Option (List ℕ)) → Type 0
SaysWhole label (Ok len) (Ok done) old new = Appends old new (label ++ sent_line len)
SaysWhole label (Ok len) (Err e) old new = LineFails (label ++ sent_line len) old new e
SaysWhole label (Err fault) (Ok done) old new = ⊥
SaysWhole label (Err fault) (Err e) old new = (e ≡ run_fault fault) × (new ≡ old)

-- the text was put and its length said, with this result
pub record PutsText (label mine : List ℕ) (to : Endpoint) (done : Result (Unit {0}) ToolFault) (before after : Option (List Entry)) (old new : Option (List ℕ)) : Type 0 where
  pub sent : Result ℕ RunFault
  pub put : PutsInRounds to mine ROUNDS sent before after
  pub counted : IfOk sent (λ (n : ℕ). n ≡ length mine)
  pub said : SaysWhole label sent done old new

-- with this status
pub record PutsWhole (label mine : List ℕ) (to : Endpoint) (status : ℕ) (before after : Option (List Entry)) (old new : Option (List ℕ)) : Type 0 where
  pub done : Result (Unit {0}) ToolFault
  pub puts : PutsText label mine to done before after old new
  pub status_is : status ≡ answer_status done

-- ---- sending each file

-- a text was put, or what of it is better than the collection as it is then
abbrev pub SendsOne : (better : Bool) → (label mine : List ℕ) → (to : Endpoint) → (status : ℕ) → (before after : Option (List Entry)) → (old new : Option (List ℕ)) → Type 0
SendsOne true label mine to status before after old new = PutsBetter label mine to status before after old new
SendsOne false label mine to status before after old new = PutsWhole label mine to status before after old new

-- The status for one of several files. There 3 would say that nothing was sent, so a collection that is no solution file
-- counts as a failed transfer.
abbrev pub status_among : (several : Bool) → (status : ℕ) → ℕ
status_among several status = if several && (status == 3) then 4 else status

-- a file was sent, and then the later ones, whatever came of it; the status is that of the first fault
pub record SendsThen (several : Bool) (First Later : (status : ℕ) → (before after : Option (List Entry)) → (old new : Option (List ℕ)) → Type 0) (status : ℕ) (before after : Option (List Entry)) (old new : Option (List ℕ)) : Type 0 where
  pub one : ℕ
  pub late : ℕ
  pub mid : Option (List Entry)
  pub between : Option (List ℕ)
  pub first : First one before mid old between
  pub later : Later late mid after between new
  pub status_is : status ≡ first_of (status_among several one) late

-- each of these files has the text in its place
abbrev pub SendsEach : (better several : Bool) → (to : Endpoint) → List Source → (texts : List (List ℕ)) → (status : ℕ) → (before after : Option (List Entry)) → (old new : Option (List ℕ)) → Type 0
SendsEach better several to [] texts status before after old new = Stops status 0 before after old new
SendsEach better several to (source ∷ sources) [] status before after old new = Stops status 0 before after old new
SendsEach better several to (source ∷ sources) (text ∷ texts) status before after old new =
    SendsThen several (SendsOne better (label_of several source) text to) (SendsEach better several to sources texts) status before after old new

-- ---- the whole

-- all files were read, or one was not
abbrev pub ReadsFiles : (bytes_of : List ℕ → Option (List ℕ)) → List Source → Result (List (List ℕ)) ℕ → (given left : Option (List ℕ)) → Type 0
ReadsFiles bytes_of sources (Ok texts) given left = AreRead bytes_of sources texts given left
ReadsFiles bytes_of sources (Err status) given left = FailsToRead bytes_of sources given left status

-- each file is sent; or there was this to say before, and it could not be said
abbrev pub SendsSaid : (better several : Bool) → (note : List ℕ) → (to : Endpoint) → List Source → (texts : List (List ℕ)) → (status : ℕ) → (before after : Option (List Entry)) → (old new : Option (List ℕ)) → Type 0
SendsSaid better several note to sources texts status before after old new =
    SendsEach better several to sources texts status before after old new ⊎ ((note ≢ []) × Stops status 2 before after old new)

-- which of the solutions in these texts stop Tile World
pub record NotesStopping (several : Bool) (sources : List Source) (texts : List (List ℕ)) (note : List ℕ) : Type 0 where
  pub found : List (Option Key)
  pub first : AllZip IsFirstStopping texts found
  pub note_is : note ≡ stopping_lines several sources found

-- nothing is sent if one was not
abbrev pub SendsFiles : (better : Bool) → List Source → Result (List (List ℕ)) ℕ → (to : Endpoint) → (status : ℕ) → (before after : Option (List Entry)) → (old new : Option (List ℕ)) → Type 0
SendsFiles better sources (Ok texts) to status before after old new =
    (note : List ℕ) × NotesStopping (are_several sources) sources texts note × SendsSaid better (are_several sources) note to sources texts status before after old new
SendsFiles better sources (Err wanted) to status before after old new = Stops status wanted before after old new

-- a put of these files, to the server at this host and port, ended with this status
pub record PutsFiles (bytes_of : List ℕ → Option (List ℕ)) (better : Bool) (sources : List Source) (to : Endpoint) (status : ℕ) (before after : Option (List Entry)) (given left old new : Option (List ℕ)) : Type 0 where
  pub read : Result (List (List ℕ)) ℕ
  pub reads : ReadsFiles bytes_of sources read given left
  pub sends : SendsFiles better sources read to status before after old new
