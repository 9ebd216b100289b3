-- A folder in memory: the list of all changes to it, the newest first here.
use Rattle.std.specs.Prelude.{◌≡◌, ◌⊎◌, ◌≤◌, ◌||◌, ℕ, Bool, true, false, List, [], ◌∷◌, length, reverse, find, Option, None, Some, string_bytes, option_and_then, if◌then◌else◌}
use Rattle.std.specs.Str.{bytes_eq}
use Rattle.std.proofs.Common.{inl, inr}
use Rattle.std.proofs.Math.Nat.{not-suc-le_self}
use Rattle.folders.specs.declared.memory_folder.FolderChange.{FolderChange}
use Rattle.folders.specs.declared.memory_folder.FolderChange.TheVariants.{Put, Removed, Renamed, Synced}
use Rattle.folders.specs.declared.memory_folder.MemoryFolder.{MemoryFolder}
use Rattle.folders.specs.Folder.{FolderModel, Texts}

-- whether a change says what a name has
abbrev pub touches : (name : List ℕ) → FolderChange → Bool
touches name (Put put text) = bytes_eq (string_bytes put) name
touches name (Removed removed) = bytes_eq (string_bytes removed) name
touches name (Renamed from to text) = bytes_eq (string_bytes from) name || bytes_eq (string_bytes to) name
touches name Synced = false

-- what it says that a name has
abbrev pub text_at : (name : List ℕ) → FolderChange → Option (List ℕ)
text_at name (Put put text) = Some text.items
text_at name (Removed removed) = None
text_at name (Renamed from to text) = if bytes_eq (string_bytes to) name then Some text.items else None
text_at name Synced = None

abbrev pub is_synced : FolderChange → Bool
is_synced (Put put text) = false
is_synced (Removed removed) = false
is_synced (Renamed from to text) = false
is_synced Synced = true

abbrev pub latest : (name : List ℕ) → List FolderChange → Option FolderChange
latest name changes = find (touches name) changes

-- the file under a name
abbrev pub file : List FolderChange → (name : List ℕ) → Option (List ℕ)
file changes name = option_and_then (text_at name) (latest name changes)

-- what is on the disk: the changes before the last sync of the folder
abbrev pub disk : List FolderChange → List FolderChange
disk [] = []
disk (c ∷ changes) = if is_synced c then changes else disk changes

-- what a crash may leave
abbrev pub leaves : List FolderChange → Texts
leaves changes name left = (left ≡ file (disk changes) name) ⊎ (left ≡ file changes name)

-- what a crash might have left since there were so many changes
abbrev pub since : ℕ → List FolderChange → Texts
since count [] name left = leaves [] name left
since count (c ∷ changes) name left = leaves (c ∷ changes) name left ⊎ ((count ≤ length changes) × since count changes name left)

pub since_now : (count : ℕ) (changes : List FolderChange) (name : List ℕ) (left : Option (List ℕ)) → leaves changes name left → since count changes name left
since_now count [] name left now = now
since_now count (c ∷ changes) name left now = inl now

pub since_only : (changes : List FolderChange) (name : List ℕ) (left : Option (List ℕ)) → since (length changes) changes name left → leaves changes name left
since_only [] name left now = now
since_only (c ∷ changes) name left (inl now) = now
since_only (c ∷ changes) name left (inr earlier) = absurd (not-suc-le_self (length changes) earlier.0)

abbrev pub newest : MemoryFolder → List FolderChange
newest f = reverse f.changes.items

abbrev pub memory_model : FolderModel MemoryFolder
memory_model = record {
  reads = λ f name read. read ≡ file (newest f) name;
  holds = λ f name text. file (newest f) name ≡ Some text;
  leaves = λ f name left. leaves (newest f) name left;
  moment = λ f. length (newest f);
  left_since = λ f count name left. since count (newest f) name left;
  counts_now = λ f count name left le now. since_now count (newest f) name left now;
  only_now = λ f name left past. since_only (newest f) name left past;
}
