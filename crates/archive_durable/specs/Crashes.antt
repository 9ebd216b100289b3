-- What each event of a run does to the folder of the server's keeper, and what a crash at any moment leaves there.
use Rattle.std.specs.Prelude.{◌≡◌, ◌≢◌, ◌⊎◌, ℕ, Bool, true, false, List, [], ◌∷◌, ◌++◌, slice_get, Option, Some, Result, Ok, Err}
use Rattle.tws_file.specs.declared.«ruleset».Ruleset.{Ruleset}
use Rattle.tws_file.specs.declared.«ruleset».Ruleset.TheVariants.{Lynx, Ms}
use Rattle.tws_best.specs.Best.{collection_text}
use Rattle.folders.specs.Folder.{FolderModel, Only, Stays}
use Rattle.folders.specs.Publishing.{Replaces, HasOnly}
use Rattle.archive_table.specs.Table.{Maps, Taken, map_of, Merges, Grant, unkept}
use Rattle.archive_table.specs.Keeper.{Keeping, given, IsLoaded}
use Rattle.archive_table.specs.declared.keep_fault.KeepFault.{KeepFault}
use Rattle.archive_keepers.specs.Names.{kept_name, draft_name}
use Rattle.archive_model.specs.World.{Event, begin, deliver, client_times_out, server_times_out, stray, restart, unknown_keep, WorldStep, World, wanted_by, happens, HasMerged, Origin, RunFrom, first_world, last_world}
use Rattle.archive_model.specs.Restarts.{EventKeeps, FailsOutside}
use Rattle.archive_theorem.specs.Durable.{HoldsPromised}

-- ---- a call of `keep`

-- Whatever the call returns: a crash at any moment of it leaves what was possible before, or this text, and under every
-- other name but the draft's what was possible before.
pub record Replacing {D : Type 0} (m : FolderModel D) (old new : D) (rules : Ruleset) (text : List ℕ) : Type 0 where
  pub any_moment : Replaces m old new (kept_name rules) text
  pub others : (other : List ℕ) → other ≢ kept_name rules → other ≢ draft_name rules → Stays m old new other

-- What a call of a `FolderKeeper` makes of its folder, by what it returns and whether the keeper is still usable: the text
-- was kept; or it was not; or that is unknown.
abbrev pub KeepDoes : {D : Type 0} (m : FolderModel D) (old new : D) (rules : Ruleset) (text : List ℕ) → Result (Unit {0}) KeepFault →
    (usable : Bool) → Type 0
KeepDoes m old new rules text (Ok done) usable = Replacing m old new rules text × HasOnly m new (kept_name rules) text
KeepDoes m old new rules text (Err fault) true = Replacing m old new rules text × Stays m old new (kept_name rules)
KeepDoes m old new rules text (Err fault) false = Replacing m old new rules text

-- ---- a step of the server

-- under the name of each collection nothing is possible that was not, and a crash at any moment left what was possible before
abbrev pub StayKept : {D : Type 0} (m : FolderModel D) (old new : D) → Type 0
StayKept m old new = (rules : Ruleset) → Stays m old new (kept_name rules)

-- at most the collection of this ruleset is another one
abbrev pub OnlyChanges : Ruleset → (old new : Maps) → Type 0
OnlyChanges rules old new = (other : Ruleset) → other ≢ rules → map_of other new ≡ map_of other old

-- a collection was changed and kept
pub record KeepsChange {D : Type 0} (m : FolderModel D) (was is : Maps) (old new : D) : Type 0 where
  pub rules : Ruleset
  pub only : OnlyChanges rules was is
  pub kept : KeepDoes m old new rules (collection_text (map_of rules is)) (Ok tt) true

-- a keep was refused, of whatever text
pub record RefusesKeep {D : Type 0} (m : FolderModel D) (old new : D) : Type 0 where
  pub rules : Ruleset
  pub text : List ℕ
  pub fault : KeepFault
  pub refused : KeepDoes m old new rules text (Err fault) true

-- A delivery that changes a collection keeps it. Any other asks for no keep, or for one that is refused.
abbrev pub DeliveryDoes : {D : Type 0} (m : FolderModel D) (was is : Maps) (old new : D) → Type 0
DeliveryDoes m was is old new = KeepsChange m was is old new ⊎ ((is ≡ was) × (StayKept m old new ⊎ RefusesKeep m old new))

-- What a call of `keep` with a known outcome does, by its entry in the list of a keeper that has one.
abbrev pub CallDoes : {D : Type 0} (m : FolderModel D) → (ok : Bool) (rules : Ruleset) (text : List ℕ) (old new : D) → Type 0
CallDoes m true rules text old new = KeepDoes m old new rules text (Ok tt) true
CallDoes m false rules text old new = (fault : KeepFault) × KeepDoes m old new rules text (Err fault) true

-- what the calls of one step do, of which there is at most one
abbrev pub CallsDo : {D : Type 0} (m : FolderModel D) (calls : List Keeping) (old new : D) → Type 0
CallsDo m [] old new = StayKept m old new
CallsDo m (k ∷ ks) old new = (ks ≡ []) × CallDoes m k.ok k.«ruleset» k.text old new

-- A keep of what the file makes of the collections: it is unknown whether it was kept, or the server was killed in it.
pub record MayKeep {D : Type 0} (m : FolderModel D) (wanted : Option Taken) (was : Maps) (old new : D) : Type 0 where
  pub tried : Maps
  pub merges : Merges wanted was tried
  pub rules : Ruleset
  pub only : OnlyChanges rules was tried
  pub fault : KeepFault
  pub unknown : KeepDoes m old new rules (collection_text (map_of rules tried)) (Err fault) false

-- What the server makes of the folder in an event, before it starts again if the event has a start.
abbrev pub StepDoes : {D : Type 0} (m : FolderModel D) → Event → (w v : World) → (old new : D) → Type 0
StepDoes m (begin e operation) w v old new = StayKept m old new
StepDoes m (deliver index spare) w v old new = DeliveryDoes m w.server.maps v.server.maps old new
StepDoes m (client_times_out e) w v old new = StayKept m old new
StepDoes m (server_times_out port) w v old new = StayKept m old new
StepDoes m (stray d) w v old new = StayKept m old new
StepDoes m restart w v old new = StayKept m old new
StepDoes m (unknown_keep index found) w v old new = MayKeep m (wanted_by (slice_get w.net index) w) w.server.maps old new

abbrev pub delivery : (index spare : ℕ) → Grant → Maps → WorldStep
delivery index spare grant maps = record { event = deliver index spare; grant = grant; maps = maps }

-- If the calls are those that the contract of the server's step says for any keeper with a list, this is what a delivery does.
abbrev pub DoesAsStepKeeps : {D : Type 0} (m : FolderModel D) → World → (old new : D) → Type 0
DoesAsStepKeeps m w old new =
    (index spare : ℕ) (grant : Grant) (maps : Maps) (before calls : List Keeping) → HasMerged (delivery index spare grant maps) w →
    EventKeeps (deliver index spare) grant w (happens (delivery index spare grant maps) w) before (before ++ calls) → CallsDo m calls old new →
    StepDoes m (deliver index spare) w (happens (delivery index spare grant maps) w) old new

-- ---- a start of the server

-- Whatever is read under the names of the collections, and whatever a crash at this moment leaves there, is loaded as these.
pub record HasCollections {D : Type 0} (m : FolderModel D) (folder : D) (maps : Maps) : Type 0 where
  pub read : (rules : Ruleset) (text : Option (List ℕ)) → m.reads folder (kept_name rules) text → IsLoaded rules text (map_of rules maps)
  pub left : (rules : Ruleset) (text : Option (List ℕ)) → m.leaves folder (kept_name rules) text → IsLoaded rules text (map_of rules maps)

-- A read gives this text of each collection, and its file holds it also after a crash.
pub record HasFiles {D : Type 0} (m : FolderModel D) (folder : D) (text : Ruleset → Option (List ℕ)) : Type 0 where
  pub read : (rules : Ruleset) → Only (text rules) (m.reads folder (kept_name rules))
  pub held : (rules : Ruleset) (held : List ℕ) → m.holds folder (kept_name rules) held → Some held ≡ text rules

-- A start reads this text of each collection, and a crash then leaves it.
pub record StartsWith {D : Type 0} (m : FolderModel D) (folder : D) (text : Ruleset → Option (List ℕ)) : Type 0 where
  pub read : (rules : Ruleset) → Only (text rules) (m.reads folder (kept_name rules))
  pub left : (rules : Ruleset) → Only (text rules) (m.leaves folder (kept_name rules))

-- What may be there at a start: what could be read when the server ended, or what a crash at some moment since an earlier
-- one left.
abbrev pub MayRemain : {D : Type 0} (m : FolderModel D) (folder : D) (since : ℕ) → Ruleset → Option (List ℕ) → Type 0
MayRemain m folder since rules text = m.reads folder (kept_name rules) text ⊎ m.left_since folder since (kept_name rules) text

-- A start finds nothing else.
pub record Finds {D : Type 0} (m : FolderModel D) (ended : D) (since : ℕ) (next : D) : Type 0 where
  pub read : (rules : Ruleset) (text : Option (List ℕ)) → m.reads next (kept_name rules) text → MayRemain m ended since rules text
  pub left : (rules : Ruleset) (text : Option (List ℕ)) → m.leaves next (kept_name rules) text → MayRemain m ended since rules text

-- The folder that the server has after the event: the same, unless it starts again. After a keep whose outcome is unknown,
-- the start finds the collections that the world has.
abbrev pub ComesNext : {D : Type 0} (m : FolderModel D) → Event → World → (folder next : D) → Type 0
ComesNext m (begin e operation) v folder next = next ≡ folder
ComesNext m (deliver index spare) v folder next = next ≡ folder
ComesNext m (client_times_out e) v folder next = next ≡ folder
ComesNext m (server_times_out port) v folder next = next ≡ folder
ComesNext m (stray d) v folder next = next ≡ folder
ComesNext m restart v folder next = Finds m folder (m.moment folder) next
ComesNext m (unknown_keep index found) v folder next = HasCollections m next v.server.maps

-- a keep whose outcome is unknown, of these collections
abbrev pub unknown_step : (index : ℕ) (found : Bool) → Maps → WorldStep
unknown_step index found tried = record { event = unknown_keep index found; grant = unkept; maps = tried }

-- There is such a step: where a start reads one text of each collection, which a crash then leaves, it finds the collections
-- with the file, or those without.
abbrev pub IsKnownNext : {D : Type 0} (m : FolderModel D) → World → (folder : D) → Type 0
IsKnownNext {D} m w folder =
    (index : ℕ) (ended next : D) (k : MayKeep m (wanted_by (slice_get w.net index) w) w.server.maps folder ended) →
    (text : Ruleset → Option (List ℕ)) → StartsWith m next text → ((rules : Ruleset) → MayRemain m ended (m.moment folder) rules (text rules)) →
    (found : Bool) × HasMerged (unknown_step index found k.tried) w
    × ComesNext m (unknown_keep index found) (happens (unknown_step index found k.tried) w) ended next

-- ---- a run

-- The folder from the first event to the last. Before each, and after the last, the keeper may load and clear its drafts.
abbrev pub RunDoes : {D : Type 0} (m : FolderModel D) → List WorldStep → World → (first last : D) → Type 0
RunDoes m [] w first last = StayKept m first last
RunDoes {D} m (s ∷ steps) w first last =
    (ready : D) × (ended : D) × (next : D) × StayKept m first ready × StepDoes m s.event w (happens s w) ready ended
    × ComesNext m s.event (happens s w) ended next × RunDoes m steps (happens s w) next last

-- a run, and the folder of its server, which begins with the collections that the run begins with
pub record RunOver {D : Type 0} (m : FolderModel D) (o : Origin) : Type 0 where
  pub run : RunFrom o
  pub first : D
  pub last : D
  pub loaded : HasCollections m first o.maps
  pub does : RunDoes m run.steps (first_world o) first last

-- the world at its end
abbrev pub end_of : {D : Type 0} {m : FolderModel D} {o : Origin} → RunOver m o → World
end_of r = last_world r.run

-- a next step from this world, and the folder when the server has made it
pub record NextStep {D : Type 0} (m : FolderModel D) (w : World) (folder : D) : Type 0 where
  pub step : WorldStep
  pub merged : HasMerged step w
  pub ended : D
  pub does : StepDoes m step.event w (happens step w) folder ended

-- ---- what a crash leaves

-- the list of a keeper that has these texts
abbrev pub list_of : (lynx ms : Option (List ℕ)) → List Keeping
list_of lynx ms = given Lynx lynx ++ given Ms ms

-- These texts are loaded, as nothing but some collections that hold all that this world has promised; and a load of them fails
-- only if the keeper does or memory runs out.
pub record LoadsAllPromised (w : World) (lynx_text ms_text : Option (List ℕ)) : Type 0 where
  pub maps : Maps
  pub lynx : IsLoaded Lynx lynx_text maps.lynx
  pub ms : IsLoaded Ms ms_text maps.ms
  pub promised : HoldsPromised w maps
  pub only : (loaded : Maps) → IsLoaded Lynx lynx_text loaded.lynx → IsLoaded Ms ms_text loaded.ms → loaded ≡ maps
  pub fails : FailsOutside (list_of lynx_text ms_text)

-- so it is with whatever a crash at this moment leaves of the two collections
abbrev pub SurvivesNow : {D : Type 0} (m : FolderModel D) (folder : D) → World → Type 0
SurvivesNow m folder w =
    (lynx ms : Option (List ℕ)) → m.leaves folder (kept_name Lynx) lynx → m.leaves folder (kept_name Ms) ms → LoadsAllPromised w lynx ms

-- and with whatever a crash at some moment since an earlier one left
abbrev pub SurvivesSince : {D : Type 0} (m : FolderModel D) (folder : D) (since : ℕ) → World → Type 0
SurvivesSince m folder since w =
    (lynx ms : Option (List ℕ)) → m.left_since folder since (kept_name Lynx) lynx → m.left_since folder since (kept_name Ms) ms → LoadsAllPromised w lynx ms
