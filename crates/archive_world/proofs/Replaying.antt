-- A list of events that happen one by one: one more of them, and how a replay ends.
use Rattle.std.specs.Prelude.{◌≡◌, ◌≢◌, ◌⊎◌, ℕ, ◌+◌, ◌<◌, ◌≤◌, true, List, [], ◌∷◌, ◌++◌, take, length, slice_get, Option, Some, Result, Ok, Err, IfOk}
use Rattle.std.specs.Option.{option_map}
use Rattle.std.proofs.Common.{refl, ap, sym, ◌∙◌, subst, inl, inr, arith}
use Rattle.std.proofs.Math.ListN.{get_or}
use Rattle.std.proofs.lemmas.List.{map_push, map_more, take-map, take_all, length-map}
use Rattle.std.proofs.lemmas.Option.{slice_get-map, slice_get-get_or}
use Rattle.tftp_packet.specs.declared.endpoint.Endpoint.{Endpoint}
use Rattle.tws_file.specs.declared.«ruleset».Ruleset.TheVariants.{Lynx, Ms}
use Rattle.archive_table.specs.Keeper.{Keeping, IsLoaded}
use Rattle.archive_world.specs.declared.event.Event as events
use Rattle.archive_world.specs.declared.event_fault.EventFault.{EventFault}
use Rattle.archive_world.specs.declared.event_fault.EventFault.TheVariants as fault
use Rattle.archive_world.specs.declared.world_fault.WorldFault.{WorldFault}
use Rattle.archive_world.specs.declared.world_fault.WorldFault.TheVariants as world
use Rattle.archive_model.specs.World.{Event, begin, deliver, client_times_out, server_times_out, stray, restart, unknown_keep, WorldStep, World, Origin, RunFrom, server_endpoint, first_world, start, last_world, happens, run_from, HasMerged, MayHappen}
use Rattle.archive_theorem.specs.Headline.{HasOwnPorts, Headline, ClientsHeadline}
use Rattle.archive_model.specs.Restarts.{RunKeeps, LoadsAs}
use Rattle.archive_world.specs.View.{event_of, events_of}
use Rattle.archive_world.specs.Outcomes.{Outcome, outcome_of}
use Rattle.archive_world.specs.Replays.{BeginsFrom, FromLoad, nothing, KeepsOnly, HaveKept, IsDue, AllDue, HasHappened, Makes, starts_again, IsReady, HasLog, HasRun, HasRunFrom, IsBadAt, IsReusedAt, IsNotKeptAt, IsNotLoadedAt, HasStopped, FailsBy}
use Rattle.archive_world.specs.Exits.{BeginsAt, LoadsAgain, KeeperHas, MakesKept, LoadsNone, Comes, world_fault_of, ReplayEnds, FromWorld}
use Rattle.archive_theorem.proofs.Headline_Collections.{last-best}
use Rattle.archive_theorem.proofs.Headline_Clients.{run-clients, run-headline}
use Rattle.archive_theorem.proofs.Event_Happens.{run-append, may-append}
use Rattle.archive_model.proofs.Places.{Has-contains}
use Rattle.archive_theorem.proofs.Keeper_Runs.{last-loads}
use Rattle.archive_theorem.proofs.Claim_Owns.{own-each}
use Rattle.archive_theorem.proofs.Port_Tests.{start-own}
use Rattle.archive_theorem.proofs.Trace_Runs.{merged_append}

-- ---- two runs as one

-- two parts of a run in which keeps are refused only where they would change a collection
due_append : (xs ys : List WorldStep) (w : World) → AllDue xs w → AllDue ys (run_from xs w) → AllDue (xs ++ ys) w
due_append [] ys w first rest = rest
due_append (x ∷ xs) ys w first rest = (first.0, due_append xs ys (happens x w) first.1 rest)

-- what the keeper has after the first part and then after the second
keeps_append : (xs ys : List WorldStep) (w : World) (before middle last : List Keeping) → HaveKept xs w before middle →
    HaveKept ys (run_from xs w) middle last → HaveKept (xs ++ ys) w before last
keeps_append [] ys w before middle last first rest = subst (λ (l : List Keeping). HaveKept ys w l last) first rest
keeps_append (x ∷ xs) ys w before middle last first rest =
    (first.0, first.1, keeps_append xs ys (happens x w) first.0 middle last first.2 rest)

-- what it has by a replay is what it has by the run
run_keeps : (xs : List WorldStep) (w : World) (before last : List Keeping) → HaveKept xs w before last → RunKeeps xs w before last
run_keeps [] w before last keeps = keeps
run_keeps (x ∷ xs) w before last keeps =
    (keeps.0, keeps.1.0, run_keeps xs (happens x w) keeps.0 last keeps.2)

-- ---- what has happened

-- before the first event nothing has happened
pub happened-start : (o : Origin) (reported : Option (List Keeping)) (w : World) → w ≡ first_world o → HasHappened o [] reported reported w
happened-start o reported w is =
    record {
      steps = [];
      events_are = refl;
      is = is;
      may = tt;
      own = subst HasOwnPorts (sym is) (start-own o);
      merged = tt;
      due = tt;
      keeps = λ before reports. (before, reports, refl);
    }

-- the server is at its endpoint, with its request port
pub begins-home : (reported : Option (List Keeping)) (w : World) → BeginsAt reported w → w.home ≡ server_endpoint
begins-home reported w (o, begins, is) = ap (λ (x : World). x.home) is ∙ begins.home

pub begins-request : (reported : Option (List Keeping)) (w : World) → BeginsAt reported w → w.server.request ≡ server_endpoint.port
begins-request reported w (o, begins, is) = ap (λ (x : World). x.server.request) is ∙ ap (λ (e : Endpoint). e.port) begins.home

-- what a keeper with a log has is loaded as the first collections
begins_loads : (o : Origin) (first : List Keeping) → BeginsFrom (Some first) o → LoadsAs first o.maps
begins_loads o first begins =
    record {
      lynx = subst (λ (text : Option (List ℕ)). IsLoaded Lynx text o.maps.lynx) begins.has_lynx begins.lynx_is;
      ms = subst (λ (text : Option (List ℕ)). IsLoaded Ms text o.maps.ms) begins.has_ms begins.ms_is;
    }

-- so it is again if the server starts again
pub begins-again : (o : Origin) (reported : Option (List Keeping)) (events : List Event) → BeginsFrom reported o → HasLog reported events →
    LoadsAgain o reported events
begins-again o reported events begins has e among starts =
    let log = has e among starts in
    (log.0, log.1, begins_loads o log.0 (subst (λ (r : Option (List Keeping)). BeginsFrom r o) log.1 begins))

-- and an empty log as nothing
pub empty-again : (reported : Option (List Keeping)) (events : List Event) → IsReady reported events → LoadsAgain nothing reported events
empty-again reported events ready e among starts = ([], ready e among starts, record { lynx = refl; ms = refl })

-- a keeper that had a log has what the server has
happened_kept : (o : Origin) (events : List Event) (reported now : Option (List Keeping)) (w : World) →
    (first : List Keeping) × (reported ≡ Some first) × LoadsAs first o.maps → HasHappened o events reported now w → KeeperHas now w
happened_kept o events reported now w (first, reports, loads) h =
    let r : RunFrom o = record { steps = h.steps; merged = h.merged } in
    let has = h.keeps first reports in
    let there : KeeperHas now (last_world r) = record {
      log = has.0;
      reports = has.1;
      loads = last-loads o r first has.0 (run_keeps h.steps (first_world o) first has.0 has.2) loads;
      best = last-best o r;
    } in
    subst (KeeperHas now) (sym h.is) there

-- the headline holds for what has happened
happened_headline : (o : Origin) (events : List Event) (reported now : Option (List Keeping)) (w : World) →
    HasHappened o events reported now w → ClientsHeadline o w
happened_headline o events reported now w h = subst (ClientsHeadline o) (sym h.is) (run-clients o (record { steps = h.steps; merged = h.merged }))

-- one more
module _ (o : Origin) (events : List Event) (e : Event) (reported now after : Option (List Keeping)) (w v : World)
    (h : HasHappened o events reported now w) (m : Makes e now after w v) where
  -- the step that the event makes
  abbrev step : WorldStep
  step = record { event = e; grant = m.grant; maps = m.maps }

  -- the steps so far, and this one
  abbrev steps : List WorldStep
  steps = h.steps ++ step ∷ []

  -- the world at which they began
  abbrev began : World
  began = first_world o

  -- they lead to its world
  run_more : v ≡ run_from steps began
  run_more = m.is ∙ ap (λ (x : World). happens step x) h.is ∙ sym (run-append h.steps (step ∷ []) began)

  -- what the keeper has after it
  keeps_last : (mid last : List Keeping) → KeepsOnly e m.grant w v mid last →
      KeepsOnly e m.grant (run_from h.steps began) (happens step (run_from h.steps began)) mid last
  keeps_last mid last keeps =
      subst (λ (x : World). KeepsOnly e m.grant x (happens step x) mid last) h.is
      (subst (λ (y : World). KeepsOnly e m.grant w y mid last) m.is keeps)

  -- and after all of them
  keeps_more : (before : List Keeping) → reported ≡ Some before → (log : List Keeping) × (after ≡ Some log) × HaveKept steps began before log
  keeps_more before reports =
      let has = h.keeps before reports in
      let then = m.keeps has.0 has.1 in
      (then.0, then.1, keeps_append h.steps (step ∷ []) began before has.0 then.0 has.2 (then.0, keeps_last has.0 then.0 then.2, refl))

  -- so one more event has happened
  happened_more : HasHappened o (events ++ e ∷ []) reported after v
  happened_more =
      record {
        steps = steps;
        events_are = map_push (λ (s : WorldStep). s.event) h.steps step ∙ ap (λ (es : List Event). es ++ e ∷ []) h.events_are;
        is = run_more;
        may = may-append h.steps (step ∷ []) began h.may (subst (MayHappen e) h.is m.may, tt);
        own = m.own h.own;
        merged = merged_append h.steps (step ∷ []) began h.merged (subst (HasMerged step) h.is m.merged, tt);
        due = due_append h.steps (step ∷ []) began h.due (subst (IsDue e m.grant) h.is m.due, tt);
        keeps = keeps_more;
      }

-- ---- by places of a list

module _ {A : Type 0} (es : List (events.Event A)) (i : ℕ) (x : events.Event A) (within : i < length es) (at : x ≡ get_or es i x) where
  -- that event
  abbrev e : Event
  e = event_of x

  -- the events up to it are those before and this one
  more_is : events_of (take (i + 1) es) ≡ events_of (take i es) ++ e ∷ []
  more_is =
      map_more event_of es i x within ∙ ap (λ (y : events.Event A). events_of (take i es) ++ event_of y ∷ []) (sym at)

  -- it is at its place
  there_is : slice_get (events_of es) i ≡ Some e
  there_is =
      slice_get-map event_of es i
      ∙ ap (option_map event_of) (slice_get-get_or es i x within ∙ ap (λ (y : events.Event A). Some y) (sym at))

  -- the first events, of either form of the list
  first_are : (o : Origin) (n : ℕ) (reported now : Option (List Keeping)) (w : World) → HasHappened o (events_of (take n es)) reported now w →
      HasHappened o (take n (events_of es)) reported now w
  first_are o n reported now w h = subst (λ (l : List Event). HasHappened o l reported now w) (sym (take-map event_of n es)) h

  module _ (o : Origin) (reported now after : Option (List Keeping)) (w v : World) (ready : LoadsAgain o reported (events_of es))
      (so_far : HasHappened o (events_of (take i es)) reported now w) where
    log_reported : starts_again e ≡ true → (log : List Keeping) × (reported ≡ Some log) × LoadsAs log o.maps
    log_reported starts = ready e (Has-contains (events_of es) e (record { position = i; is = there_is })) starts

    -- the event was made
    made_more : (u : World) → MakesKept e now after w u → HasHappened o (events_of (take (i + 1) es)) reported after u
    made_more u makes =
        subst (λ (l : List Event). HasHappened o l reported after u) (sym more_is)
        (happened_more o (events_of (take i es)) e reported now after w u so_far
        (makes (λ is. happened_kept o (events_of (take i es)) reported now w (log_reported is) so_far)))

    -- its call succeeded
    one_more : Comes (Ok tt) e now after w v → HasHappened o (events_of (take (i + 1) es)) reported after v
    one_more comes = made_more v comes.1

    -- what had happened before it, if the keeper has what it had
    so_before : after ≡ now → HasHappened o (take i (events_of es)) reported after w
    so_before same =
        first_are o i reported after w (subst (λ (r : Option (List Keeping)). HasHappened o (events_of (take i es)) reported r w) (sym same) so_far)

    -- its call ran out of memory, before the event or after it
    stopped_by : (after ≡ now) ⊎ ((u : World) × MakesKept e now after w u) → HasStopped o (events_of es) reported after
    stopped_by (inl same) =
        record {
          count = i;
          within = omega (arith, length-map es event_of);
          world = w;
          happened = so_before same;
        }
    stopped_by (inr made) =
        record {
          count = i + 1;
          within = omega (arith, length-map es event_of);
          world = made.0;
          happened = first_are o (i + 1) reported after made.0 (made_more made.0 made.1);
        }

    -- the keeper has not kept what is to be found
    unkept_at : (index : ℕ) → e ≡ unknown_keep index true → (u : World) → Makes (deliver index 0) now after w u → IsNotKeptAt o (events_of es) reported after i
    unkept_at index is u makes =
        record {
          index = index;
          there = there_is ∙ ap (λ (x : Event). Some x) is;
          world = u;
          happened = subst (λ (l : List Event). HasHappened o (l ++ deliver index 0 ∷ []) reported after u) (sym (take-map event_of i es))
              (happened_more o (events_of (take i es)) (deliver index 0) reported now after w u so_far makes);
        }

    -- the server could not load
    unloaded_at : (f : Event) → e ≡ f → LoadsNone f now after w → IsNotLoadedAt o (events_of es) reported after i
    unloaded_at (begin x operation) is none = absurd none
    unloaded_at (deliver index spare) is none = absurd none
    unloaded_at (client_times_out x) is none = absurd none
    unloaded_at (server_times_out port) is none = absurd none
    unloaded_at (stray d) is none = absurd none
    unloaded_at restart is same =
        record {
          event = restart;
          there = there_is ∙ ap (λ (x : Event). Some x) is;
          count = i;
          reflected = refl;
          world = w;
          happened = so_before same;
        }
    unloaded_at (unknown_keep index found) is made =
        record {
          event = unknown_keep index found;
          there = there_is ∙ ap (λ (x : Event). Some x) is;
          count = i + 1;
          reflected = refl;
          world = made.0;
          happened = first_are o (i + 1) reported after made.0 (made_more made.0 (subst (λ (x : Event). MakesKept x now after w made.0) (sym is) made.1));
        }

    -- its call failed
    fails_at : (f : EventFault) → Comes (Err f) e now after w v → FailsBy o (world_fault_of f i) (events_of es) reported after
    fails_at fault.Bad comes =
        record {
          event = e;
          there = there_is;
          world = w;
          happened = so_before comes.0;
          bad = comes.1;
        }
    fails_at fault.Reused comes =
        record {
          event = e;
          there = there_is;
          world = w;
          happened = so_before comes.0;
          reuses = comes.1 so_far.own;
        }
    fails_at fault.NotKept comes = unkept_at comes.0 comes.1 comes.2.0 comes.2.1
    fails_at fault.NotLoaded comes = unloaded_at e refl comes
    fails_at fault.Memory comes = stopped_by comes.1

-- ---- a loop over a list

module _ {A : Type 0} (es : List (events.Event A)) (i : ℕ) (x : events.Event A) (within : i < length es) (at : x ≡ get_or es i x)
    (first : World) (reported now after : Option (List Keeping)) (w v : World)
    (so_far : FromWorld first reported (events_of es) (λ o. HasHappened o (events_of (take i es)) reported now w)) where
  -- after a call that succeeds one more event has happened
  pub one-more : Comes (Ok tt) (event_of x) now after w v →
      FromWorld first reported (events_of es) (λ o. HasHappened o (events_of (take (i + 1) es)) reported after v)
  one-more comes o begins again = one_more es i x within at o reported now after w v again (so_far o begins again) comes

  -- a call that fails ends the replay
  pub ends-at : (r : WorldFault) (f : EventFault) → r ≡ world_fault_of f i → Comes (Err f) (event_of x) now after w v →
      FromWorld first reported (events_of es) (λ o. FailsBy o r (events_of es) reported after)
  ends-at r f is comes o begins again =
      subst (λ (y : WorldFault). FailsBy o y (events_of es) reported after) (sym is)
      (fails_at es i x within at o reported now after w v again (so_far o begins again) f comes)

-- at the end of the list all have happened
pub all-made : {A : Type 0} (es : List (events.Event A)) (i : ℕ) (first : World) (reported now : Option (List Keeping)) (w : World) → length es ≤ i →
    FromWorld first reported (events_of es) (λ o. HasHappened o (events_of (take i es)) reported now w) →
    FromWorld first reported (events_of es) (λ o. HasHappened o (events_of es) reported now w)
all-made {A} es i first reported now w past so_far o begins again =
    subst (λ (l : List (events.Event A)). HasHappened o (events_of l) reported now w) (take_all i es past) (so_far o begins again)

-- ---- the end of a replay

module _ (o : Origin) (events : List Event) (reported now : Option (List Keeping)) (v : World) where
  -- if all events have happened, the run has its outcome
  pub ran-to : (outcome : Outcome) → outcome ≡ outcome_of v → HasHappened o events reported now v → HasRunFrom o events reported now outcome
  ran-to outcome is h =
      let all = happened_headline o events reported now v h in
      record {
        world = v;
        happened = h;
        is = is;
        headline = all;
        clients = λ e has. all.client e has (own-each v h.own e has);
      }

  -- so the first events have, as many as there are
  pub stopped-after : take (length events) events ≡ events → HasHappened o events reported now v → HasStopped o events reported now
  stopped-after all h =
      record {
        count = length events;
        within = omega arith;
        world = v;
        happened = subst (λ (es : List Event). HasHappened o es reported now v) (sym all) h;
      }

module _ (events : List Event) (reported now : Option (List Keeping)) where
  -- from nothing the whole headline holds
  ran_from-nothing : (outcome : Outcome) → HasRunFrom nothing events reported now outcome → HasRun events reported now outcome
  ran_from-nothing outcome r =
      let h = r.happened in
      record {
        world = r.world;
        happened = h;
        is = r.is;
        headline = subst Headline (sym h.is)
            (run-headline server_endpoint (record { steps = h.steps; merged = h.merged }) (subst HasOwnPorts h.is h.own));
      }

  -- a replay from a world that is the start
  module _ (first : World) (begins : first ≡ start) (r : Result Outcome WorldFault)
      (ends : FromWorld first reported events (λ o. ReplayEnds o r events reported now)) where
    from_nothing : IsReady reported events → ReplayEnds nothing r events reported now
    from_nothing ready = ends nothing begins (empty-again reported events ready)

    pub fault-by : (f : WorldFault) → r ≡ Err f → IsReady reported events → FailsBy nothing f events reported now
    fault-by f is ready = subst (λ (x : Result Outcome WorldFault). ReplayEnds nothing x events reported now) is (from_nothing ready)

    pub ran-by : IfOk r (λ outcome. IsReady reported events → HasRun events reported now outcome)
    ran-by = ran_of r from_nothing where
      ran_of : (x : Result Outcome WorldFault) → (IsReady reported events → ReplayEnds nothing x events reported now) →
          IfOk x (λ outcome. IsReady reported events → HasRun events reported now outcome)
      ran_of (Ok outcome) holds = λ ready. ran_from-nothing outcome (holds ready)
      ran_of (Err f) holds = tt

  -- a replay that began with what was loaded from the keeper, whose list is as it was
  module _ (loaded : Option (List Keeping)) (same : loaded ≡ reported) (first : World) (begins : BeginsAt reported first)
      (r : Result Outcome WorldFault) (ends : FromWorld first loaded events (λ o. ReplayEnds o r events loaded now)) where
    pub loaded-ends : HasLog reported events → FromLoad reported (λ o. ReplayEnds o r events reported now)
    loaded-ends has =
        let from : FromWorld first reported events (λ o. ReplayEnds o r events reported now) =
        subst (λ (l : Option (List Keeping)). FromWorld first l events (λ o. ReplayEnds o r events l now)) same ends in
        (begins.0, begins.1, from begins.0 begins.2 (begins-again begins.0 reported events begins.1 has))

-- so much for its fault
pub loaded-fault : (events : List Event) (reported now : Option (List Keeping)) (f g : WorldFault) → f ≡ g →
    (HasLog reported events → FromLoad reported (λ o. FailsBy o f events reported now)) →
    HasLog reported events → FromLoad reported (λ o. FailsBy o g events reported now)
loaded-fault events reported now f g is ends has =
    subst (λ (x : WorldFault). FromLoad reported (λ o. FailsBy o x events reported now)) is (ends has)
