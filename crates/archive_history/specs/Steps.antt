-- Definitions for the private steps of a record.
use Rattle.std.specs.Prelude.{◌≡◌, ◌≢◌, ℕ, ◌-◌, List, ◌++◌, take, drop, Option, None, Some}
use Rattle.byte_output.specs.Output.{Sends}
use Rattle.folders.specs.Folder.{FolderModel, Only, Stays}
use Rattle.archive_history.specs.History.{draft_of, numbered}
use Rattle.archive_history.specs.Kept.{kept_of}

-- a file was added under this name, one of those with this stem, and nothing else but its draft was touched
pub record IsRecordedAs {D : Type 0} (m : FolderModel D) (stem name text : List ℕ) (old new : D) : Type 0 where
  pub number : ℕ
  pub is : name ≡ numbered stem number
  pub was_free : m.reads old name None
  pub added : Only (Some text) (m.reads new name)
  pub others : (other : List ℕ) → other ≢ name → other ≢ draft_of name → Stays m old new other

-- Of a file, the record from `at` up to `after` was passed: the bytes from `begun` on waited before, and those from `next` on
-- do after it. Bytes that were sent are written, or gathered in the buffer.
abbrev pub Passes : (old new : Option (List ℕ)) (buffer buffer' : List ℕ) (file : List ℕ) (begun at after next : ℕ) → Type 0
Passes old new buffer buffer' file begun at after next =
    (sent : List ℕ) × Sends old new (buffer ++ sent) buffer' × (sent ++ take (after - next) (drop next file) ≡ take (at - begun) (drop begun file) ++ kept_of (after - at) (drop at file))
