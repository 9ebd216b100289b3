-- Why a restart does not change the collections: after each step the keeper has what the server has.
use Rattle.std.specs.Prelude.{◌≡◌, ◌⊎◌, ℕ, List, [], ◌∷◌, ◌++◌, slice_get, Option, None, Some}
use Rattle.tws_file.specs.declared.«ruleset».Ruleset.{Ruleset}
use Rattle.tws_file.specs.declared.«ruleset».Ruleset.TheVariants.{Lynx, Ms}
use Rattle.tws_best.specs.Best.{Collected, IsCollected, collection_text}
use Rattle.archive_table.specs.Table.{Table, Maps, Taken, Grant, all}
use Rattle.archive_table.specs.Keeper.{Keeping, last_kept, IsLoaded, LoadedFrom, TableFails, KeepsMaps, StepKeeps}
use Rattle.archive_table.specs.declared.load_fault.LoadFault.{LoadFault}
use Rattle.archive_table.specs.declared.load_fault.LoadFault.TheVariants.{Keep, Unreadable, WrongRuleset, Memory}
use Rattle.archive_model.specs.World.{Datagram, Event, begin, deliver, client_times_out, server_times_out, stray, restart, unknown_keep, WorldStep, World, wanted_by, restarts, happens}

-- the text is the collection's; if there is none, the collection is empty
abbrev pub IsTextAt : Ruleset → Option (List ℕ) → Collected → Type 0
IsTextAt rules None c = c ≡ record { «ruleset» = rules; entries = [] }
IsTextAt rules (Some text) c = text ≡ collection_text c

-- for each ruleset, what was kept last is the current collection
pub record HasKept (log : List Keeping) (maps : Maps) : Type 0 where
  pub lynx : IsTextAt Lynx (last_kept Lynx log) maps.lynx
  pub ms : IsTextAt Ms (last_kept Ms log) maps.ms

-- For each ruleset, what was kept last is loaded as the current collection. It may be any readable file of the ruleset, as the
-- real Tile World writes one: what a load gives has its solutions.
pub record LoadsAs (log : List Keeping) (maps : Maps) : Type 0 where
  pub lynx : IsLoaded Lynx (last_kept Lynx log) maps.lynx
  pub ms : IsLoaded Ms (last_kept Ms log) maps.ms

-- the texts that were kept last, at most one for each ruleset
abbrev pub text_list : Option (List ℕ) → List (List ℕ)
text_list None = []
text_list (Some text) = text ∷ []

abbrev pub kept_texts : List Keeping → List (List ℕ)
kept_texts log = text_list (last_kept Lynx log) ++ text_list (last_kept Ms log)

-- each collection is of its own ruleset
pub record HaveOwnRuleset (maps : Maps) : Type 0 where
  pub lynx : maps.lynx.ruleset ≡ Lynx
  pub ms : maps.ms.ruleset ≡ Ms

-- a step of the server after which the keeper still has what the server has: everything was granted, or the collections
-- did not change
abbrev pub StepStaysKept : Grant → (wanted : Option Taken) → (old new : Maps) → (before after : List Keeping) → Type 0
StepStaysKept grant wanted old new before after =
    StepKeeps grant wanted old new (Some before) (Some after) → (grant ≡ all) ⊎ (new ≡ old) → HaveOwnRuleset new → HasKept before old → HasKept after new

-- what is loaded is what the server had
abbrev pub LoadsTheSame : List Keeping → Maps → Type 0
LoadsTheSame log maps =
    HasKept log maps → IsCollected maps.lynx → IsCollected maps.ms → (lynx ms : Collected) → LoadedFrom Lynx (Some log) lynx → LoadedFrom Ms (Some log) ms →
    (lynx ≡ maps.lynx) × (ms ≡ maps.ms)

-- The keeper failed, or an allocation was refused. What was kept is not at fault.
abbrev pub IsOutside : LoadFault → Type 0
IsOutside (Keep fault) = Unit {0}
IsOutside (Unreadable fault) = ⊥
IsOutside WrongRuleset = ⊥
IsOutside Memory = Unit {0}

-- what is kept is readable, so a load fails for no other cause
abbrev pub FailsOutside : List Keeping → Type 0
FailsOutside log = (fault : LoadFault) → TableFails (Some log) fault → IsOutside fault

-- ---- over a run

-- A delivery that does not change the collections and asks nothing of the keeper does not change its list. Any other
-- delivery is a step of the server, and the list after it is as that step's contract says.
abbrev pub DeliveryKeeps : Grant → (wanted : Option Taken) → (old new : Maps) → (before after : List Keeping) → Type 0
DeliveryKeeps grant wanted old new before after =
    ((new ≡ old) × (after ≡ before)) ⊎ StepKeeps grant wanted old new (Some before) (Some after)

-- for each ruleset, what was kept last is the same
abbrev pub AreAlike : (before after : List Keeping) → Type 0
AreAlike before after = (rules : Ruleset) → last_kept rules after ≡ last_kept rules before

-- What the keeper has after an event. A server that restarts may have a new keeper, which has what was kept last.
abbrev pub EventKeeps : Event → Grant → (w v : World) → (before after : List Keeping) → Type 0
EventKeeps (begin e operation) grant w v before after = after ≡ before
EventKeeps (deliver index spare) grant w v before after =
    DeliveryKeeps grant (wanted_by (slice_get w.net index) w) w.server.maps v.server.maps before after
EventKeeps (client_times_out e) grant w v before after = after ≡ before
EventKeeps (server_times_out port) grant w v before after = after ≡ before
EventKeeps (stray d) grant w v before after = after ≡ before
EventKeeps restart grant w v before after = AreAlike before after
-- a keep whose outcome is unknown: what the next start finds, with the new collection or without
EventKeeps (unknown_keep index found) grant w v before after =
    (mid : List Keeping) × KeepsMaps w.server.maps v.server.maps (Some before) (Some mid) × AreAlike mid after

-- what the keeper has after these steps, if it has `before` at first
abbrev pub RunKeeps : List WorldStep → World → (before last : List Keeping) → Type 0
RunKeeps [] w before last = last ≡ before
RunKeeps (s ∷ steps) w before last =
    (after : List Keeping) × EventKeeps s.event s.grant w (happens s w) before after × RunKeeps steps (happens s w) after last

-- the server that a load makes from these collections
abbrev pub loaded_server : (request : ℕ) → (lynx ms : Collected) → Table
loaded_server request lynx ms =
    record { request = request; maps = record { lynx = lynx; ms = ms }; live = [] }

-- what is loaded is the server that the world has after a restart
abbrev pub RestartsFrom : List Keeping → World → Type 0
RestartsFrom log w =
    (lynx ms : Collected) → LoadedFrom Lynx (Some log) lynx → LoadedFrom Ms (Some log) ms → (restarts w).server ≡ loaded_server w.server.request lynx ms
