-- The history: a folder with each solution file that was taken, in a folder for each day.
use Rattle.std.specs.Prelude.{◌≡◌, ◌≢◌, ℕ, ◌<◌, ◌==◌, true, List, ◌++◌, None, Some, codes, decimal, if◌then◌else◌}
use Rattle.std.specs.Int.{w32, to_be_bytes}
use Rattle.std.specs.Net.Text.{ipv4_text}
use Rattle.tftp_packet.specs.declared.endpoint.Endpoint.{Endpoint}
use Rattle.tws_file.specs.declared.«ruleset».Ruleset.{Ruleset}
use Rattle.tws_file.specs.Words.{ruleset_name}
use Rattle.folders.specs.Folder.{FolderModel, Only, Stays}
use Rattle.archive_history.specs.declared.history.TheConstants.{NAMES}
use Rattle.archive_history.specs.Markers.{IsMarker, is_copy_name, name_in_day}
use Rattle.archive_history.specs.Times.{compact, day_of}

-- ---- names

-- `20261127T091500.123Z-127.0.0.1-5000-lynx`
abbrev pub stem_in_day : (time : List ℕ) → (peer : Endpoint) → Ruleset → List ℕ
stem_in_day time peer rules =
    compact time ++ (codes "-" ++ (ipv4_text (to_be_bytes w32 peer.host) ++ (codes "-" ++ (decimal peer.port ++ (codes "-" ++ ruleset_name rules)))))

-- the same in the folder of its day: `2026-11-27/20261127T091500.123Z-127.0.0.1-5000-lynx`
abbrev pub stem_text : (time : List ℕ) → (peer : Endpoint) → Ruleset → List ℕ
stem_text time peer rules = day_of time ++ (codes "/" ++ stem_in_day time peer rules)

-- the names that such a file can have
abbrev pub numbered : (stem : List ℕ) → (number : ℕ) → List ℕ
numbered stem number = if number == 0 then stem ++ codes ".tws" else stem ++ (codes "-" ++ (decimal number ++ codes ".tws"))

-- the name under which it is written
abbrev pub draft_of : (name : List ℕ) → List ℕ
draft_of name = name ++ codes ".new"

-- ---- what a record does to a folder

-- A file was added, and nothing else was touched but its draft and a marker of its day.
pub record Adds {D : Type 0} (m : FolderModel D) (day name text : List ℕ) (old new : D) : Type 0 where
  pub was_free : m.reads old name None
  pub added : Only (Some text) (m.reads new name)
  pub others : (other : List ℕ) → other ≢ name → other ≢ draft_of name → (IsMarker day other → ⊥) → Stays m old new other

-- all names that such a file can have are in use
abbrev pub HasNoFreeName : {D : Type 0} (m : FolderModel D) (stem : List ℕ) (old : D) → Type 0
HasNoFreeName m stem old = (number : ℕ) → number < NAMES → (text : List ℕ) × m.reads old (numbered stem number) (Some text)

-- a file was added under one of its names
abbrev pub Records : {D : Type 0} (m : FolderModel D) (day stem text : List ℕ) (old new : D) → Type 0
Records m day stem text old new = (number : ℕ) × Adds m day (numbered stem number) text old new

-- the same, and a crash leaves it there
abbrev pub RecordsForGood : {D : Type 0} (m : FolderModel D) (day stem text : List ℕ) (old new : D) → Type 0
RecordsForGood m day stem text old new = (number : ℕ) × Adds m day (numbered stem number) text old new × Only (Some text) (m.leaves new (numbered stem number))

-- a copy with these bytes is in the folder of this day
abbrev pub HasCopy : {D : Type 0} (m : FolderModel D) (day text : List ℕ) (old : D) → Type 0
HasCopy m day text old = (name : List ℕ) × (is_copy_name name ≡ true) × m.reads old (name_in_day day name) (Some text)

-- nothing was touched but a draft
abbrev pub AddsNothing : {D : Type 0} (m : FolderModel D) (old new : D) → Type 0
AddsNothing m old new = (name : List ℕ) × ((other : List ℕ) → other ≢ draft_of name → Stays m old new other)

-- nothing was touched
abbrev pub LeavesAll : {D : Type 0} (m : FolderModel D) (old new : D) → Type 0
LeavesAll m old new = (other : List ℕ) → Stays m old new other
