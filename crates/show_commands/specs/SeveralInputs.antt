-- What the commands of several inputs have in common; which text of them a command writes is in the file of its name.
use Rattle.std.specs.Prelude.{◌≡◌, ◌≢◌, ◌⊎◌, ℕ, ◌+◌, ◌<◌, ◌≤◌, List, [], ◌∷◌, length, take, slice_index_or, Option, Some, IfSome}
use Rattle.std.specs.List.{AllByRecursion}
use Rattle.std.specs.Io.KnownBytes.{IsAtEnd}
use Rattle.tws_file.specs.declared.file_fault.FileFault.{FileFault}
use Rattle.tws_file.specs.Text.{File, IsReadable, IsText}
use Rattle.tws_file.specs.Fault.{HasFileFault}
use Rattle.command_line.specs.declared.source.Source.{Source}
use Rattle.command_line.specs.declared.tool_fault.ToolFault.{ToolFault}
use Rattle.command_line.specs.declared.tool_fault.ToolFault.TheVariants.{Read, Write, Unreadable, Memory, Socket, Transfer}
use Rattle.command_line.specs.Inputs.{ReadsAmong, knowns_of}

-- ---- what is known of the inputs

-- the bytes of the inputs are known, and are these
abbrev pub AreReported : List (Option (List ℕ)) → List (List ℕ) → Type 0
AreReported [] [] = Unit {0}
AreReported [] (text ∷ texts) = ⊥
AreReported (known ∷ knowns) [] = ⊥
AreReported (known ∷ knowns) (text ∷ texts) = (known ≡ Some text) × AreReported knowns texts

-- of each input at most this is known
abbrev pub AreLessKnown : (more less : List (Option (List ℕ))) → Type 0
AreLessKnown [] [] = Unit {0}
AreLessKnown [] (left ∷ less) = ⊥
AreLessKnown (known ∷ more) [] = ⊥
AreLessKnown (known ∷ more) (left ∷ less) = IfSome left (λ (bytes : List ℕ). known ≡ Some bytes) × AreLessKnown more less

-- these are the files whose texts the inputs are
abbrev pub AreFiles : List (Option (List ℕ)) → List File → Type 0
AreFiles [] [] = Unit {0}
AreFiles [] (file ∷ files) = ⊥
AreFiles (known ∷ knowns) [] = ⊥
AreFiles (known ∷ knowns) (file ∷ files) = IfSome known (λ (bytes : List ℕ). IsText bytes file) × AreFiles knowns files

-- ---- why they were not all read

-- the input with this number, counted from 0, is the first that is not the text of a file, and has this fault
pub record IsFirstUnreadable (texts : List (List ℕ)) (index : ℕ) (fault : FileFault) : Type 0 where
  pub within : index < length texts
  pub before : AllByRecursion IsReadable (take index texts)
  pub has_fault : HasFileFault (slice_index_or texts index []) fault

-- some input is not the text of a file
abbrev pub HasUnreadable : List (Option (List ℕ)) → Type 0
HasUnreadable knowns = (index : ℕ) × (fault : FileFault) × ((texts : List (List ℕ)) → AreReported knowns texts → IsFirstUnreadable texts index fault)

-- not all inputs were read
abbrev pub CollectFails : List (Option (List ℕ)) → ToolFault → Type 0
CollectFails knowns Read = Unit {0}
CollectFails knowns Write = ⊥
CollectFails knowns (Unreadable index fault) = (texts : List (List ℕ)) → AreReported knowns texts → IsFirstUnreadable texts index fault
CollectFails knowns Memory = Unit {0}
CollectFails knowns Socket = ⊥
CollectFails knowns (Transfer why) = ⊥

-- the inputs up to one that is reported as unreadable were read to their ends
abbrev pub AreReadOut : {R : Type 0} → (R → Option (List ℕ)) → List R → ToolFault → Type 0
AreReadOut reported files Read = Unit {0}
AreReadOut reported files Write = Unit {0}
AreReadOut reported files (Unreadable index fault) = AllByRecursion (λ file. IsAtEnd (reported file)) (take (index + 1) files)
AreReadOut reported files Memory = Unit {0}
AreReadOut reported files Socket = Unit {0}
AreReadOut reported files (Transfer why) = Unit {0}

-- a command over these inputs did not write its text whole; `Prefix` says that it wrote a proper prefix
abbrev pub FilesFail : (Prefix : Type 0) → List (Option (List ℕ)) → (old new : Option (List ℕ)) → ToolFault → Type 0
FilesFail Prefix knowns old new Read = new ≡ old
FilesFail Prefix knowns old new Write = Prefix
FilesFail Prefix knowns old new (Unreadable index fault) = (new ≡ old) × CollectFails knowns (Unreadable index fault)
FilesFail Prefix knowns old new Memory = (new ≡ old) ⊎ Prefix
FilesFail Prefix knowns old new Socket = ⊥
FilesFail Prefix knowns old new (Transfer why) = ⊥

-- ---- by the exit status

-- what a command over these inputs did: it wrote its text, or nothing or a proper prefix of it; or an input is
-- unreadable
pub record FilesRan (Whole Prefix : Type 0) (knowns : List (Option (List ℕ))) (status : ℕ) (old new : Option (List ℕ)) : Type 0 where
  pub done : status ≡ 0 → Whole
  pub failed : status ≡ 2 → (new ≡ old) ⊎ Prefix
  pub unreadable : status ≡ 3 → (new ≡ old) × HasUnreadable knowns
  pub never : status ≢ 1
  pub few : status ≤ 3

-- What a command did over the inputs of these sources, given what is known of the bytes of the file with each name,
-- and what holds if standard input was not read: what standard input had and has left, and the output before and
-- after. What it writes, whole or as a proper prefix, is said of what is known of the inputs, and of the output
-- before and after.
abbrev pub FilesRanFrom : List Source → (bytes_of : List ℕ → Option (List ℕ)) → (Unread : Type 0) → (Whole Prefix : List (Option (List ℕ)) → (old new : Option (List ℕ)) → Type 0) → (status : ℕ) → (given left old new : Option (List ℕ)) → Type 0
FilesRanFrom sources bytes_of Unread Whole Prefix status given left old new =
    let knowns : List (Option (List ℕ)) = knowns_of bytes_of given sources in
    ReadsAmong sources Unread status left × FilesRan (Whole knowns old new) (Prefix knowns old new) knowns status old new
