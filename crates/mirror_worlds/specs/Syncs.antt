-- A sync of one archive's collection to another one, as the contracts of `archive_sync` have it: where its calls happen in
-- the running archives, and which events of `archive_mirrors` they are.
use Rattle.std.specs.Prelude.{◌≡◌, ◌≢◌, ℕ, List, [], ◌∷◌, ◌++◌, Contains, Option, None, Some, Result, Ok}
use Rattle.tws_file.specs.declared.«ruleset».Ruleset.{Ruleset}
use Rattle.archive_wire.specs.Wire.{Entry}
use Rattle.archive_runs.specs.declared.run_fault.RunFault.{RunFault}
use Rattle.archive_runs.specs.Run.{Run}
use Rattle.archive_runs.specs.Rounds.{PutsInRounds}
use Rattle.archive_sync.specs.Fetching.{Asked, FetchesText}
use Rattle.archive_model.specs.World.{Got, World, WorldStep, Origin, first_world, run_from, HasMerged}
use Rattle.archive_theorem.specs.Headline.{IsOwn, IsFinishedGet, SentOnce}
use Rattle.archive_theorem.specs.Effects.{PutsAt}
use Rattle.archive_theorem.specs.Traces.{trace_steps}
use Rattle.archive_running.specs.Archive.{own_endpoint}
use Rattle.archive_running.specs.Calls.{Moment, IsReached, world_at, PutInRoundsHappens, GetInRoundsHappens}
use Rattle.archive_mirrors.specs.Archives.{Copy, Event, puts_better, run}
use Rattle.mirror_worlds.specs.Worlds.{Fetched, better, after_step, HasFetched, TakesText, Matches, IsCopyOf, Skips}

-- ---- its calls, as they happen

-- The get of a text happens in the archive of this origin, whose client is on this host. The dally that follows fetches
-- nothing more.
pub record FetchHappens (o : Origin) (asked : Asked) (text : List ℕ) {before after : Option (List Entry)} (call : FetchesText o.home asked text before after) : Type 0 where
  pub host : ℕ
  pub away : host ≢ o.home.host
  pub first : Moment
  pub last : Moment
  pub reached : IsReached o first
  pub happens : GetInRoundsHappens o.home host asked.rules asked.rounds (Ok (call.len, call.run)) before call.got.mid call.mid (Some []) (Some text)
      call.got.begun call.got.begins call.got.ends first last

-- the put of a part does
pub record PutHappens (o : Origin) (part : List ℕ) (rounds len : ℕ) {before after : Option (List Entry)} (call : PutsInRounds o.home part rounds (Ok len) before after) : Type 0 where
  pub host : ℕ
  pub away : host ≢ o.home.host
  pub first : Moment
  pub last : Moment
  pub reached : IsReached o first
  pub happens : PutInRoundsHappens o.home host part rounds (Ok len) before call.mid after call.begun call.begins call.ends first last

-- ---- what they do there

-- a finished get of this ruleset
pub record HasFinished (w : World) (rules : Ruleset) (got : Got) : Type 0 where
  pub among : Contains w.got got
  pub finished : IsFinishedGet w.past got
  pub rules_are : finished.rules ≡ rules

-- The text was fetched from the archive: by a finished get, if the ports of its endpoint are its own.
pub record WasFetched (o : Origin) (host : ℕ) (rules : Ruleset) (text : List ℕ) (begun : Result Run RunFault) (last : Moment) : Type 0 where
  pub reached : IsReached o last
  pub run : Run
  pub has_begun : begun ≡ Ok run
  pub got : IsOwn (world_at o last) (own_endpoint host run) →
      HasFinished (world_at o last) rules (record { client = own_endpoint host run; file = text })

-- A put that was counted as sent took effect at one step of the archive's run, and only there.
pub record TookEffect (o : Origin) (host : ℕ) (part : List ℕ) (run : Run) (last : Moment) : Type 0 where
  pub before : List WorldStep
  pub step : WorldStep
  pub after : List WorldStep
  pub split : trace_steps last.members (first_world o) ≡ before ++ step ∷ after
  pub at : PutsAt (run_from before (first_world o)) step (own_endpoint host run) part
  pub once : SentOnce (world_at o last).past (own_endpoint host run)
  pub file_is : once.file ≡ part

-- ---- which events they are

-- Both collections have been fetched, the second one from the archive at which what is better of the first may be put.
pub record HasBoth (ws : ℕ → World) (here : ℕ) (f own : Fetched) (first second : List ℕ) : Type 0 where
  pub fetched : HasFetched ws f
  pub own_fetched : HasFetched ws own
  pub own_is : own.archive ≡ here
  pub text_is : f.got.file ≡ first
  pub own_text_is : own.got.file ≡ second

-- two finished gets of this ruleset
pub record AreOf (rules : Ruleset) (ws : ℕ → World) (f own : Fetched) : Type 0 where
  pub theirs : HasFinished (ws f.archive) rules f.got
  pub mine : HasFinished (ws own.archive) rules own.got

-- what is put, if anything is
abbrev pub put_of : Option (List ℕ) → List (List ℕ)
put_of None = []
put_of (Some part) = part ∷ []

-- A step at an archive makes events, one of which puts this text there, which is what of one copy is better than another.
pub record PutsExactly (here : ℕ) (s : WorldStep) (ws : ℕ → World) (events : List Event) (f own : Fetched) (part : List ℕ) : Type 0 where
  pub more : List Event
  pub matches : Matches (after_step (record { archive = here; step = s; kind = better f own }) ws) (events ++ more)
  pub copy : Copy
  pub own_copy : Copy
  pub is_copy : IsCopyOf (run events) f copy
  pub is_own : IsCopyOf (run events) own own_copy
  pub put : Contains more (puts_better here copy own_copy part)

-- What was planned: if nothing is better, that is an event; a part is put by whichever step takes it.
abbrev pub IsCarriedOut : (here : ℕ) (ws : ℕ → World) (events : List Event) (f own : Fetched) → Option (List ℕ) → Type 0
IsCarriedOut here ws events f own None = Skips here ws events f own
IsCarriedOut here ws events f own (Some part) =
    (s : WorldStep) → HasMerged s (ws here) → TakesText s (ws here) part → PutsExactly here s ws events f own part

-- A part that was put and counted as sent: it took effect at one step, and wherever both collections were fetched by then, that
-- step puts exactly what of the one is better than the other.
pub record WasPut (o : Origin) (host : ℕ) (part : List ℕ) (first second : List ℕ) (begun : Result Run RunFault) (last : Moment) : Type 0 where
  pub reached : IsReached o last
  pub run : Run
  pub has_begun : begun ≡ Ok run
  pub effect : IsOwn (world_at o last) (own_endpoint host run) → TookEffect o host part run last
  pub puts : (own : IsOwn (world_at o last) (own_endpoint host run)) (ws : ℕ → World) (events : List Event) (here : ℕ) (f mine : Fetched) →
      Matches ws events → ws here ≡ run_from (effect own).before (first_world o) → HasBoth ws here f mine first second →
      PutsExactly here (effect own).step ws events f mine part
