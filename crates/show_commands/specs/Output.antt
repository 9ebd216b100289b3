-- Where a command writes its text: to standard output, or into a file, whole or not at all.
use Rattle.std.specs.Prelude.{◌≡◌, ◌≢◌, ◌⊎◌, ℕ, Bool, true, false, List, [], Option, Some, None, codes}
use Rattle.std.specs.Io.KnownBytes.{Appends}
use Rattle.clap.specs.Words.{Rule, Text, new_rule}
use Rattle.system_files.specs.Files.{Keeps, Publishes}

-- `-o FILE`, `--output FILE`
abbrev pub output_rule : Rule
output_rule = record (new_rule (codes "output")) { short = Some 111; long = Some (codes "output"); value_names = 1 }

-- the file of this name has what a draft for it begins with, and then this text; each other file still has its bytes
abbrev pub Replaces : (name text : List ℕ) → (drafted : Option (List ℕ)) → (before after : List ℕ → Option (List ℕ)) → Type 0
Replaces name text drafted before after = (written : Option (List ℕ)) × Appends drafted written text × Publishes name written before after

-- How a run ended, by its exit status, that had made a text for the file of this name with the status `made`. At status 0 the
-- file has the text. Otherwise each file has its bytes, and the status is that of making the text, or 2 if it was made.
pub record Saves (name text : List ℕ) (made status : ℕ) (drafted : Option (List ℕ)) (before after : List ℕ → Option (List ℕ)) : Type 0 where
  pub saved : status ≡ 0 → (made ≡ 0) × Replaces name text drafted before after
  pub kept : status ≢ 0 → Keeps before after
  pub status_is : (status ≡ made) ⊎ ((made ≡ 0) × (status ≡ 2))

-- a usage error: nothing was read or written, and no file changed
pub record IsRefused (Unread Unwritten : Type 0) (status : ℕ) (before after : List ℕ → Option (List ℕ)) : Type 0 where
  pub status_is : status ≡ 1
  pub unread : Unread
  pub unwritten : Unwritten
  pub kept : after ≡ before

-- What a run did, by the file that it was to write, if one was named, and by whether it would have written a solution file to a
-- terminal: that is refused. `Does` says what its command does to a writer, by the status and by what the writer had and has.
-- Given are what holds if nothing was read, and if nothing was written; the exit status; what is known of a draft for each
-- file, and of the files before and after; and standard output before and after.
abbrev pub WritesTo : Option Text → (spills : Bool) → (Does : (status : ℕ) → (old new : Option (List ℕ)) → Type 0) → (Unread Unwritten : Type 0) → (status : ℕ) → (drafted_of before after : List ℕ → Option (List ℕ)) → (old new : Option (List ℕ)) → Type 0
WritesTo None true Does Unread Unwritten status drafted_of before after old new = IsRefused Unread Unwritten status before after
WritesTo None false Does Unread Unwritten status drafted_of before after old new = (after ≡ before) × Does status old new
WritesTo (Some name) spills Does Unread Unwritten status drafted_of before after old new = Unwritten × ((made : ℕ) × (text : List ℕ) × Does made (Some []) (Some text) × Saves name text made status (drafted_of name) before after)
