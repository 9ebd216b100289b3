-- Inputs: where they are read from, and the result of reading a whole one. The bytes that a reader has left are known if it
-- has a ghost log.
use Rattle.std.specs.Prelude.{◌≡◌, ℕ, Bool, true, false, List, map, Option, IfSome, string_bytes}
use Rattle.std.specs.List.{list_any}
use Rattle.std.specs.Io.KnownBytes.{IsAtEnd}
use Rattle.tws_file.specs.declared.file_fault.FileFault.{FileFault}
use Rattle.tws_file.specs.Fault.{HasFileFault}
use Rattle.tws_file.specs.Text.{File, IsText}
use Rattle.command_line.specs.declared.source.Source.{Source}
use Rattle.command_line.specs.declared.source.Source.TheVariants.{Standard, Named}

-- what is known of the bytes of an input, given what is known of the file with each name and of standard input
abbrev pub known_of : (bytes_of : List ℕ → Option (List ℕ)) (given : Option (List ℕ)) → Source → Option (List ℕ)
known_of bytes_of given Standard = given
known_of bytes_of given (Named name) = bytes_of (string_bytes name)

-- the same of several inputs
abbrev pub knowns_of : (bytes_of : List ℕ → Option (List ℕ)) (given : Option (List ℕ)) → List Source → List (Option (List ℕ))
knowns_of bytes_of given sources = map (known_of bytes_of given) sources

abbrev pub is_standard : Source → Bool
is_standard Standard = true
is_standard (Named name) = false

-- standard input is among the inputs
abbrev pub has_standard : List Source → Bool
has_standard sources = list_any is_standard sources

-- What a command of several inputs did to standard input, by its exit status: it was read only if it is among them, and to
-- its end at status 0.
pub record ReadsAmong (sources : List Source) (Unread : Type 0) (status : ℕ) (left : Option (List ℕ)) : Type 0 where
  pub unread : has_standard sources ≡ false → Unread
  pub ended : has_standard sources ≡ true → status ≡ 0 → IsAtEnd left

-- What a command did to standard input, which had this left, by its exit status: it was read only if it is the source, to its
-- end at status 0, and not at status 1. `Unread` is what holds if it was not read.
abbrev pub ReadsSource : Source → (Unread : Type 0) (status : ℕ) (left : Option (List ℕ)) → Type 0
ReadsSource Standard Unread status left = (status ≡ 0 → IsAtEnd left) × (status ≡ 1 → Unread)
ReadsSource (Named name) Unread status left = Unread

-- the bytes, if they are known, are not the text of a file
abbrev pub IsUnreadable : (known : Option (List ℕ)) → Type 0
IsUnreadable known = (fault : FileFault) × IfSome known (λ (bytes : List ℕ). HasFileFault bytes fault)

-- the file was read, to the input's end
pub record IsRead (old new : Option (List ℕ)) (file : File) : Type 0 where
  pub text : IfSome old (λ (bytes : List ℕ). IsText bytes file)
  pub ended : IsAtEnd new
