-- What a received file does to the collection of its ruleset, and what the steps of that are.
use Rattle.std.specs.Prelude.{◌≡◌, ◌≢◌, ◌⊎◌, ℕ, Bool, true, false, List, [], ◌++◌, Contains, Option}
use Rattle.tws_file.specs.Text.{File, Record, IsText}
use Rattle.tws_reader.specs.PartReader.{PartReading, HasRead, HandsOut}
use Rattle.tws_best.specs.Best.{KeyedBody, Collected, IsBestOf, solved_in}
use Rattle.tws_best.specs.Merge.{Merging}
use Rattle.tftp_packet.specs.declared.refusal.Refusal.{Refusal}
use Rattle.tftp_packet.specs.declared.refusal.Refusal.TheVariants.{OutOfMemory, NotKept}
use Rattle.archive_table.specs.Table.{IsFileMerge}
use Rattle.archive_table.specs.Keeper.{Keeping, KeeperGrows, FailsKeep}

-- A file of the collection's ruleset is merged. Bytes that are not the text of a file change nothing.
pub record MergesFile (bytes : List ℕ) (old new : Collected) : Type 0 where
  pub readable : (file : File) → IsText bytes file → file.«ruleset» ≡ old.ruleset → IsFileMerge file old new
  pub unreadable : ((file : File) → IsText bytes file → ⊥) → new ≡ old

-- a file that was not merged, by the refusal: only what changes the collection has to be kept
abbrev pub RefusesOne : Refusal → (bytes : List ℕ) → Collected → Option (List Keeping) → Option (List Keeping) → Type 0
RefusesOne why bytes old before after =
    ((why ≡ OutOfMemory) × KeeperGrows before after [])
    ⊎ ((why ≡ NotKept) × ((new : Collected) × MergesFile bytes old new × (new ≢ old) × FailsKeep new.ruleset new before after))

-- ---- the steps

-- a chunk was pushed, and the records that it completed were merged
pub record TakesChunk (was : PartReading) (old : Collected) (chunk : List ℕ) (is : PartReading) (new : Collected) : Type 0 where
  pub more : List Record
  pub hands_out : HandsOut was chunk more is
  pub best : ((more ≡ []) × (new ≡ old)) ⊎ IsBestOf (Contains (old.entries ++ solved_in more)) new.entries

-- of these bytes of a file all records that were handed out were merged
pub record HasMerged (first : List KeyedBody) (reader : PartReading) (now : Collected) (bytes : List ℕ) : Type 0 where
  pub records : List Record
  pub read : HasRead reader records bytes
  pub best : IsBestOf (Contains (first ++ solved_in records)) now.entries

-- the bytes are the text of a file, and all its solutions were merged
pub record MergesText (bytes : List ℕ) (old new : Collected) : Type 0 where
  pub file : File
  pub text : IsText bytes file
  pub best : IsBestOf (Contains (old.entries ++ solved_in file.records)) new.entries

-- what is left of a merge: it is finished if something changed and was kept, and else undone
abbrev pub left_by : (changed : Bool) → Merging → Collected
left_by true m = m.now
left_by false m = m.first
