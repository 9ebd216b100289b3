-- What a keeper keeps: a list of the collections that it was given, in order.
use Rattle.std.specs.Prelude.{◌≡◌, ◌≢◌, ◌⊎◌, ℕ, ◌<◌, ◌^◌, ◌-◌, Bool, true, false, List, [], ◌∷◌, ◌++◌, Contains, Option, None, Some, Result, Ok, Err, Vec}
use Rattle.tws_file.specs.declared.«ruleset».Ruleset.{Ruleset}
use Rattle.tws_file.specs.declared.«ruleset».Ruleset.TheVariants.{Lynx, Ms}
use Rattle.tws_file.specs.Text.{File, IsText}
use Rattle.tftp_packet.specs.declared.refusal.Refusal.{Refusal}
use Rattle.tftp_packet.specs.declared.refusal.Refusal.TheVariants.{OutOfMemory, NotKept}
use Rattle.tws_file.specs.Fault.{HasFileFault}
use Rattle.tws_best.specs.Best.{Collected, IsBestOf, solutions_of, collection_text}
use Rattle.archive_table.specs.declared.keep_fault.KeepFault.{KeepFault}
use Rattle.archive_table.specs.declared.keep_fault.KeepFault.TheVariants.{Device, Memory}
use Rattle.archive_table.specs.declared.load_fault.LoadFault.{LoadFault}
use Rattle.archive_table.specs.declared.load_fault.LoadFault.TheVariants.{Keep, Unreadable, WrongRuleset}
use Rattle.archive_table.specs.declared.load_fault.LoadFault.TheVariants as load
use Rattle.archive_table.specs.Table.{Maps, Table, empty_collection, Taken, IsFileMerge, IsMerged, Merges, Grant, all, no_memory, unkept}

pub record Keeping : Type 0 where
  pub «ruleset» : Ruleset
  -- the text of the collection
  pub text : List ℕ
  -- whether it was kept
  pub ok : Bool

abbrev pub keeping : (rules : Ruleset) → (text : List ℕ) → (ok : Bool) → Keeping
keeping rules text ok = record { «ruleset» = rules; text = text; ok = ok }

-- what a call of `keep` adds to the list, by its result
abbrev pub kept_by : Result (Unit {0}) KeepFault → (rules : Ruleset) → (text : List ℕ) → List Keeping
kept_by (Ok done) rules text = keeping rules text true ∷ []
kept_by (Err Device) rules text = keeping rules text false ∷ []
kept_by (Err Memory) rules text = []

-- the log grew by `added`, if there is one
abbrev pub KeeperGrows : Option (List Keeping) → Option (List Keeping) → List Keeping → Type 0
KeeperGrows old None added = old ≡ None
KeeperGrows None (Some new) added = ⊥
KeeperGrows (Some old) (Some new) added = new ≡ old ++ added

-- ---- what can be loaded

abbrev pub same_ruleset : Ruleset → Ruleset → Bool
same_ruleset Lynx Lynx = true
same_ruleset Lynx Ms = false
same_ruleset Ms Lynx = false
same_ruleset Ms Ms = true

abbrev pub later_or : Option (List ℕ) → (mine ok : Bool) → (text : List ℕ) → Option (List ℕ)
later_or (Some later) mine ok text = Some later
later_or None true true text = Some text
later_or None true false text = None
later_or None false ok text = None

-- the text of the last entry of this ruleset that was kept
abbrev pub last_kept : Ruleset → List Keeping → Option (List ℕ)
last_kept rules [] = None
last_kept rules (k ∷ ks) = later_or (last_kept rules ks) (same_ruleset rules k.«ruleset») k.ok k.text

abbrev pub Loads : Ruleset → Option (List Keeping) → Option (List ℕ) → Type 0
Loads rules None text = Unit {0}
Loads rules (Some log) text = text ≡ last_kept rules log

-- the collection of this ruleset that is loaded from this text, empty if there is none
abbrev pub IsLoaded : Ruleset → Option (List ℕ) → Collected → Type 0
IsLoaded rules None c = c ≡ empty_collection rules
IsLoaded rules (Some bytes) c =
    (file : File) × IsText bytes file × (file.«ruleset» ≡ rules) × (c.«ruleset» ≡ rules) × IsBestOf (Contains (solutions_of file.«ruleset» (file ∷ []))) c.entries

-- the collection that the keeper has
abbrev pub LoadedFrom : Ruleset → Option (List Keeping) → Collected → Type 0
LoadedFrom rules log c = (text : Option (List ℕ)) × Loads rules log text × IsLoaded rules text c

-- a server with the collections that the keeper has, and no transfer
pub record HasLoaded (request : ℕ) (log : Option (List Keeping)) (s : Table) : Type 0 where
  pub port : s.request ≡ request
  pub lynx : LoadedFrom Lynx log s.maps.lynx
  pub ms : LoadedFrom Ms log s.maps.ms
  pub idle : s.live ≡ []

-- why this text cannot be loaded
abbrev pub IsMisread : Ruleset → (bytes : List ℕ) → LoadFault → Type 0
IsMisread rules bytes (Keep e) = ⊥
IsMisread rules bytes (Unreadable e) = HasFileFault bytes e
IsMisread rules bytes WrongRuleset = (file : File) × IsText bytes file × (file.«ruleset» ≢ rules)
IsMisread rules bytes load.Memory = Unit {0}

-- why the collection cannot be loaded: the keeper fails, or has such a text
abbrev pub FailsToLoad : Ruleset → Option (List Keeping) → LoadFault → Type 0
FailsToLoad rules log (Keep e) = Unit {0}
FailsToLoad rules log (Unreadable e) = (bytes : List ℕ) × Loads rules log (Some bytes) × IsMisread rules bytes (Unreadable e)
FailsToLoad rules log WrongRuleset = (bytes : List ℕ) × Loads rules log (Some bytes) × IsMisread rules bytes WrongRuleset
FailsToLoad rules log load.Memory = Unit {0}

-- Lynx is loaded before MS
abbrev pub TableFails : Option (List Keeping) → LoadFault → Type 0
TableFails log e = FailsToLoad Lynx log e ⊎ ((c : Collected) × LoadedFrom Lynx log c × FailsToLoad Ms log e)

-- ---- what a step adds to the list

-- a collection that changed is kept; one that did not change is not given to the keeper
abbrev pub KeepsOne : Collected → Collected → Option (List Keeping) → Option (List Keeping) → Type 0
KeepsOne old new before after =
    ((new ≡ old) × KeeperGrows before after []) ⊎ ((new ≢ old) × KeeperGrows before after (keeping new.«ruleset» (collection_text new) true ∷ []))

-- the same for both collections, of which a file changes at most one
abbrev pub KeepsMaps : Maps → Maps → Option (List Keeping) → Option (List Keeping) → Type 0
KeepsMaps old new before after =
    ((new.ms ≡ old.ms) × KeepsOne old.lynx new.lynx before after) ⊎ ((new.lynx ≡ old.lynx) × KeepsOne old.ms new.ms before after)

-- A keep that was refused: the keeper was given this collection and failed, or was out of memory for its list.
abbrev pub FailsKeep : Ruleset → Collected → Option (List Keeping) → Option (List Keeping) → Type 0
FailsKeep rules new before after =
    KeeperGrows before after [] ⊎ KeeperGrows before after (keeping rules (collection_text new) false ∷ [])

-- a file that was not merged into its collection, by the refusal: only what changes a collection has to be kept
abbrev pub RefusesMerge : Refusal → (file : File) → Collected → Option (List Keeping) → Option (List Keeping) → Type 0
RefusesMerge why file old before after =
    ((why ≡ OutOfMemory) × KeeperGrows before after [])
    ⊎ ((why ≡ NotKept) × ((new : Collected) × IsFileMerge file old new × (new ≢ old) × FailsKeep new.«ruleset» new before after))

-- a refused keep for both collections, of which the file changes one
abbrev pub FailsKeepOf : Maps → Maps → Option (List Keeping) → Option (List Keeping) → Type 0
FailsKeepOf old new before after =
    ((new.ms ≡ old.ms) × (new.lynx ≢ old.lynx) × FailsKeep new.lynx.«ruleset» new.lynx before after)
    ⊎ ((new.lynx ≡ old.lynx) × (new.ms ≢ old.ms) × FailsKeep new.ms.«ruleset» new.ms before after)

-- `RefusesMerge` for the bytes of a file and both collections
abbrev pub RefusesFile : Refusal → (bytes : List ℕ) → Maps → Option (List Keeping) → Option (List Keeping) → Type 0
RefusesFile why bytes old before after =
    ((why ≡ OutOfMemory) × KeeperGrows before after [])
    ⊎ ((why ≡ NotKept) × ((maps : Maps) × IsMerged bytes old maps × FailsKeepOf old maps before after))

-- A keeper that refuses was given a collection that the step would have changed.
abbrev pub RefusesKeep : (wanted : Option Taken) → Maps → Option (List Keeping) → Option (List Keeping) → Type 0
RefusesKeep wanted old before after =
    (maps : Maps) × Merges wanted old maps × FailsKeepOf old maps before after

-- What a step adds to the list, by its grant. `wanted` is the file that is taken if everything is granted.
abbrev pub StepKeeps : Grant → (wanted : Option Taken) → Maps → Maps → Option (List Keeping) → Option (List Keeping) → Type 0
StepKeeps all wanted old new before after = KeepsMaps old new before after
StepKeeps no_memory wanted old new before after = KeeperGrows before after []
StepKeeps unkept wanted old new before after = RefusesKeep wanted old before after

abbrev pub texts_of : {A : Type 0} → Option (Vec ℕ A) → Option (List ℕ)
texts_of None = None
texts_of (Some v) = Some v.items

-- the entries for a text that a keeper was made with
abbrev pub given : Ruleset → Option (List ℕ) → List Keeping
given rules None = []
given rules (Some text) = keeping rules text true ∷ []
