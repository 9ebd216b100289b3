-- The worlds of several archives, each at an endpoint of its own, whose steps come in any order, and the events of
-- archive_mirrors that they make.
use Rattle.std.specs.Prelude.{◌≡◌, ℕ, ◌≤◌, ◌==◌, length, List, [], ◌∷◌, ◌++◌, take, map, Contains, if◌then◌else◌}
use Rattle.tws_file.specs.declared.«ruleset».Ruleset.{Ruleset}
use Rattle.archive_table.specs.Table.{Taken}
use Rattle.archive_model.specs.World.{Opening, Got, World, WorldStep, Origin, first_world, RunFrom, last_world, happens, HasMerged}
use Rattle.tws_best.specs.Best.{IsBestOver}
use Rattle.archive_theorem.specs.Headline.{IsOwn, files_of}
use Rattle.tws_compare.specs.Part.{IsBetterPart}
use Rattle.archive_mirrors.specs.Archives.{Archives, Copy, Event, takes, puts, puts_better, skips, AllMayHappen, run}
use Rattle.archive_mirrors.specs.Archives as archives

-- what a client of an archive has fetched
pub record Fetched : Type 0 where
  pub archive : ℕ
  pub got : Got

-- what the file is that a step of an archive takes
pub data Kind : Type 0 where
  -- any file from outside; or the step takes none
  plain : Kind
  -- what was fetched
  whole : (fetched : Fetched) → Kind
  -- only what of it is better than in what was fetched from the archive itself
  better : (fetched own : Fetched) → Kind

-- a step of one of the archives
pub record JointStep : Type 0 where
  pub archive : ℕ
  pub step : WorldStep
  pub kind : Kind

-- the others' worlds stay
abbrev pub after_step : JointStep → (ℕ → World) → ℕ → World
after_step s ws here = if s.archive == here then happens s.step (ws here) else ws here

-- a client whose ports are its own has fetched it by now
pub record HasFetched (ws : ℕ → World) (f : Fetched) : Type 0 where
  pub among : Contains (ws f.archive).got f.got
  pub own : IsOwn (ws f.archive) f.got.client

-- the step takes a file with this text
pub record TakesText (s : WorldStep) (w : World) (text : List ℕ) : Type 0 where
  pub file : Taken
  pub is_taken : (happens s w).taken ≡ w.taken ++ file ∷ []
  pub text_is : file.file ≡ text

-- it takes what was fetched
pub record TakesWhole (ws : ℕ → World) (s : WorldStep) (archive : ℕ) (f : Fetched) : Type 0 where
  pub fetched : HasFetched ws f
  pub takes_it : TakesText s (ws archive) f.got.file

-- it takes only what of it is better than in what was fetched from the archive itself
pub record TakesBetter (ws : ℕ → World) (s : WorldStep) (archive : ℕ) (f own : Fetched) : Type 0 where
  pub fetched : HasFetched ws f
  pub own_fetched : HasFetched ws own
  pub own_is : own.archive ≡ archive
  pub text : List ℕ
  pub part : IsBetterPart f.got.file own.got.file text
  pub takes_it : TakesText s (ws archive) text

-- the file that it takes is what its kind says
abbrev pub IsOfKind : Kind → (archive : ℕ) → WorldStep → (ℕ → World) → Type 0
IsOfKind plain archive s ws = Unit {0}
IsOfKind (whole fetched) archive s ws = TakesWhole ws s archive fetched
IsOfKind (better fetched own) archive s ws = TakesBetter ws s archive fetched own

-- The collections after the step are those that the server's contract says.
pub record MayJoin (s : JointStep) (ws : ℕ → World) : Type 0 where
  pub merged : HasMerged s.step (ws s.archive)
  pub kind : IsOfKind s.kind s.archive s.step ws

-- ---- the events that steps make

-- the world at the end of a run
pub record IsRun (w : World) : Type 0 where
  pub origin : Origin
  pub run : RunFrom origin
  pub is : w ≡ last_world run

-- a copy of an archive's collection over these texts
pub record HasCopy (m : Archives) (archive : ℕ) (rules : Ruleset) (texts : List (List ℕ)) : Type 0 where
  pub copy : Copy
  pub fetched : Contains m.copies copy
  pub archive_is : copy.archive ≡ archive
  pub rules_are : copy.rules ≡ rules
  pub best : IsBestOver rules texts copy.text

-- what a transfer that was opened reads can be a copy
pub record OpenedCopy (m : Archives) (archive : ℕ) (w : World) (o : Opening) : Type 0 where
  pub counted : o.taken ≤ length w.taken
  pub copies : (rules : Ruleset) → HasCopy m archive rules (files_of (take o.taken w.taken))

-- The worlds are what these events make of archives: each has taken the same texts, and what it lets clients read
-- are copies.
pub record Matches (ws : ℕ → World) (events : List Event) : Type 0 where
  pub may : AllMayHappen events archives.start
  pub runs : (here : ℕ) → IsRun (ws here)
  pub taken : (here : ℕ) → (run events).taken here ≡ files_of (ws here).taken
  pub opened : (here : ℕ) (o : Opening) → Contains (ws here).opened o → OpenedCopy (run events) here (ws here) o

-- an archive begins with the collections of an origin
abbrev pub with_origin : ℕ → Origin → (ℕ → World) → ℕ → World
with_origin archive o ws here = if archive == here then first_world o else ws here

abbrev pub takes_all : ℕ → List (List ℕ) → List Event
takes_all archive texts = map (λ (text : List ℕ). takes archive text) texts

-- the copy is what was fetched
pub record IsCopyOf (m : Archives) (f : Fetched) (copy : Copy) : Type 0 where
  pub fetched : Contains m.copies copy
  pub archive_is : copy.archive ≡ f.archive
  pub text_is : copy.text ≡ f.got.file

-- an event puts what was fetched
pub record PutsWhole (archive : ℕ) (m : Archives) (more : List Event) (f : Fetched) : Type 0 where
  pub copy : Copy
  pub is_copy : IsCopyOf m f copy
  pub put : Contains more (puts archive copy)

-- an event puts what of it is better
pub record PutsBetter (archive : ℕ) (m : Archives) (more : List Event) (f own : Fetched) : Type 0 where
  pub copy : Copy
  pub own_copy : Copy
  pub is_copy : IsCopyOf m f copy
  pub is_own : IsCopyOf m own own_copy
  pub text : List ℕ
  pub put : Contains more (puts_better archive copy own_copy text)

-- What a step puts is put by an event.
abbrev pub PutsKind : Kind → (archive : ℕ) → Archives → List Event → Type 0
PutsKind plain archive m more = Unit {0}
PutsKind (whole fetched) archive m more = PutsWhole archive m more fetched
PutsKind (better fetched own) archive m more = PutsBetter archive m more fetched own

-- a step makes these events, before which there were others
pub record Joins (s : JointStep) (ws : ℕ → World) (events : List Event) : Type 0 where
  pub more : List Event
  pub matches : Matches (after_step s ws) (events ++ more)
  pub puts_it : PutsKind s.kind s.archive (run events) more

-- a client that has fetched both, and finds nothing better, makes this event
pub record Skips (archive : ℕ) (ws : ℕ → World) (events : List Event) (f own : Fetched) : Type 0 where
  pub copy : Copy
  pub own_copy : Copy
  pub is_copy : IsCopyOf (run events) f copy
  pub is_own : IsCopyOf (run events) own own_copy
  pub matches : Matches ws (events ++ skips archive copy own_copy ∷ [])
