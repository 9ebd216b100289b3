-- What the publication of a file makes of the names in a folder.
use Rattle.std.specs.Prelude.{◌≡◌, ◌⊎◌, ◌≤◌, ℕ, List, Option, None, Some}
use Rattle.byte_output.specs.Failures.{Rises}
use Rattle.folders.specs.Folder.{FolderModel, Only}

-- Under this name there is what was possible before, or this text, and a crash at any moment left one of these.
pub record Replaces {D : Type 0} (m : FolderModel D) (old new : D) (name text : List ℕ) : Type 0 where
  pub now : (read : Option (List ℕ)) → m.reads new name read → m.reads old name read ⊎ (read ≡ Some text)
  pub left : (left : Option (List ℕ)) → m.leaves new name left → m.leaves old name left ⊎ (left ≡ Some text)
  pub later : m.moment old ≤ m.moment new
  pub each : (left : Option (List ℕ)) → m.left_since new (m.moment old) name left → m.leaves old name left ⊎ (left ≡ Some text)
  pub before : (t : ℕ) (left : Option (List ℕ)) → t ≤ m.moment old → m.left_since new t name left → m.left_since old t name left ⊎ (left ≡ Some text)

-- Under this name there is this text and nothing else, also after a crash.
pub record HasOnly {D : Type 0} (m : FolderModel D) (d : D) (name text : List ℕ) : Type 0 where
  pub now : Only (Some text) (m.reads d name)
  pub held : Only text (m.holds d name)
  pub left : Only (Some text) (m.leaves d name)

-- this text was written under this name, and synced
pub record IsWritten {D : Type 0} (m : FolderModel D) (d : D) (name text : List ℕ) : Type 0 where
  pub now : Only (Some text) (m.reads d name)
  pub held : Only text (m.holds d name)

-- a count of faults rose twice
abbrev pub RisesTwice : (old new : ℕ) → Type 0
RisesTwice old new = (mid : ℕ) × Rises old mid × Rises mid new

-- What can be read under a name could be read before, or there is no file now; unless a second call failed.
abbrev pub IsCleared : {D : Type 0} (m : FolderModel D) (old new : D) (name : List ℕ) (faults faults' : ℕ) → Type 0
IsCleared m old new name faults faults' =
    RisesTwice faults faults' ⊎ ((read : Option (List ℕ)) → m.reads new name read → m.reads old name read ⊎ (read ≡ None))
