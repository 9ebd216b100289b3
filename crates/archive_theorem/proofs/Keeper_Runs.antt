-- Throughout a run the keeper has what the server has, and so a restart loads it.
use Rattle.std.proofs.Common.{◌≡◌, ◌⊎◌, ℕ, ◌==◌, List, [], ◌∷◌, Option, ap, sym, subst, inl, inr, rules, Some}
use Rattle.archive_client.specs.Client.{is_too_long}
use Rattle.tws_file.specs.declared.«ruleset».Ruleset.TheVariants.{Lynx, Ms}
use Rattle.tws_best.specs.Best.{Collected, IsCollected, collection_text}
use Rattle.archive_table.specs.Table.{Maps, Taken, Grant, all, transfer_at}
use Rattle.archive_table.specs.Keeper.{Keeping, IsLoaded}
use Rattle.archive_model.specs.World.{Event, begin, deliver, client_times_out, server_times_out, stray, restart, World, WorldStep, client_at, has_begun, Origin, RunFrom, first_world, last_world, run_from, happens, event_happens, AllMerged, unknown_keep}
use Rattle.archive_model.specs.Restarts.{IsTextAt, HasKept, HaveOwnRuleset, DeliveryKeeps, AreAlike, EventKeeps, RunKeeps, loaded_server, RestartsFrom, FailsOutside, LoadsAs}
use Rattle.archive_theorem.proofs.Claim_Invariant.{AreBest, first-best}
use Rattle.archive_theorem.proofs.Headline_Remains.{timeout_leaves, StepTakes, begins_remain, waits_remain, strays_remain, step-takes, GrantedBy}
use Rattle.tws_best.proofs.Collections.{best-collected}
use Rattle.archive_theorem.proofs.Headline_Collections.{step-best, last-best}
use Rattle.archive_theorem.proofs.Keeper_Loads.{step-stays_kept, loads-the_same, fails-outside, FitBoth, Any, text_itself, loads-as, loads_itself, HasBoth, step-both, alike-both, maps_kept}
use Rattle.tws_file.specs.declared.«ruleset».Ruleset.{Ruleset}

-- collections that are the best over the files taken are each of their own ruleset
pub own-ruleset : (taken : List Taken) (maps : Maps) → AreBest taken maps → HaveOwnRuleset maps
own-ruleset taken maps best = record { lynx = best.lynx.ruleset_is; ms = best.ms.ruleset_is }

-- ---- a step

-- everything was granted, or the collections remain
granted_or : (w v : World) (grant : Grant) → StepTakes (grant ≡ all) w v → (grant ≡ all) ⊎ (v.server.maps ≡ w.server.maps)
granted_or w v grant (inl remain) = inr remain.1
granted_or w v grant (inr takes) = inl takes.2

-- Whatever is known of the text of each collection, as `Loading` has it.
module _ (Is : Ruleset → Option (List ℕ) → Collected → Type 0) (Fits : Collected → Type 0)
    (own_text : (rules : Ruleset) (c : Collected) → Fits c → c.ruleset ≡ rules → Is rules (Some (collection_text c)) c)
    (fit : (taken : List Taken) (maps : Maps) → AreBest taken maps → FitBoth Is Fits own_text maps) where
  abbrev Both : List Keeping → Maps → Type 0
  Both = HasBoth Is Fits own_text

  same_list : (old new : Maps) (before after : List Keeping) → new ≡ old → after ≡ before → Both before old → Both after new
  same_list old new before after maps log kept =
      subst (Both after) (sym maps) (subst (λ (l : List Keeping). Both l old) (sym log) kept)

  -- after a delivery
  delivery_kept : (grant : Grant) (wanted : Option Taken) (old new : Maps) (before after : List Keeping) → (grant ≡ all) ⊎ (new ≡ old) →
      HaveOwnRuleset new → FitBoth Is Fits own_text new → DeliveryKeeps grant wanted old new before after → Both before old → Both after new
  delivery_kept grant wanted old new before after either_way rules fits (inl stays) kept =
      same_list old new before after stays.0 stays.1 kept
  delivery_kept grant wanted old new before after either_way rules fits (inr keeps) kept =
      step-both Is Fits own_text grant wanted old new before after keeps either_way rules fits kept

  -- after any event
  module _ (w : World) (grant : Grant) (maps : Maps) (before after : List Keeping) where
    pub event-both : (event : Event) → StepTakes (GrantedBy event grant) w (event_happens event grant maps w) →
        AreBest (event_happens event grant maps w).taken (event_happens event grant maps w).server.maps →
        EventKeeps event grant w (event_happens event grant maps w) before after → Both before w.server.maps →
        Both after (event_happens event grant maps w).server.maps
    event-both (begin e operation) takes best log kept =
        same_list w.server.maps _ before after (begins_remain w (e.host == w.home.host) (is_too_long operation) e operation).1 log kept
    event-both (deliver index spare) takes best keeps kept =
        let v = event_happens (deliver index spare) grant maps w in
        delivery_kept grant _ w.server.maps v.server.maps before after (granted_or w v grant takes) (own-ruleset v.taken v.server.maps best)
        (fit v.taken v.server.maps best) keeps kept
    event-both (client_times_out e) takes best log kept = same_list w.server.maps _ before after (waits_remain w (client_at e w) e).1 log kept
    event-both (server_times_out port) takes best log kept =
        same_list w.server.maps _ before after (timeout_leaves (transfer_at port w.server) port w.server).1 log kept
    event-both (stray d) takes best log kept =
        same_list w.server.maps _ before after (strays_remain w (d.source.host == w.home.host) (has_begun d.source w.begun) d).1 log kept
    event-both restart takes best alike kept = alike-both Is Fits own_text w.server.maps before after alike kept
    event-both (unknown_keep index found) takes best (mid, keeps, alike) kept =
        let v = event_happens (unknown_keep index found) grant maps w in
        let now = maps_kept Is Fits own_text w.server.maps v.server.maps before mid (own-ruleset v.taken v.server.maps best)
        (fit v.taken v.server.maps best) keeps kept in
        alike-both Is Fits own_text v.server.maps mid after alike now

  -- after any steps
  pub run-both : (steps : List WorldStep) (w : World) (before last : List Keeping) → AllMerged steps w → AreBest w.taken w.server.maps →
      RunKeeps steps w before last → Both before w.server.maps → Both last (run_from steps w).server.maps
  run-both [] w before last merged best log kept = subst (λ (l : List Keeping). Both l w.server.maps) (sym log) kept
  run-both (s ∷ steps) w before last merged best keeps kept =
      let now = step-best w s merged.0 best in
      run-both steps (happens s w) keeps.0 last merged.1 now keeps.2
      (event-both w s.grant s.maps before keeps.0 s.event (step-takes w s) now keeps.1 kept)

-- ---- what is loaded

pub maps-are : (lynx ms : Collected) (maps : Maps) → lynx ≡ maps.lynx → ms ≡ maps.ms → maps ≡ record { lynx = lynx; ms = ms }
maps-are lynx ms maps first second =
    let make : Collected → Collected → Maps = λ x y. record { lynx = x; ms = y } in
    let whole : make maps.lynx maps.ms ≡ make lynx ms = cc in
    whole

fit_any : (taken : List Taken) (maps : Maps) → AreBest taken maps → FitBoth IsTextAt Any text_itself maps
fit_any taken maps best = record { lynx = tt; ms = tt }

-- collections that are the best over the files taken can be written as texts
pub fit-best : (taken : List Taken) (maps : Maps) → AreBest taken maps → FitBoth IsLoaded IsCollected loads_itself maps
fit-best taken maps best = record { lynx = best-collected Lynx _ maps.lynx best.lynx; ms = best-collected Ms _ maps.ms best.ms }

-- after a step the keeper still has what is loaded as the collections
pub step-loads : (w : World) (s : WorldStep) (before after : List Keeping) → AreBest (happens s w).taken (happens s w).server.maps →
    EventKeeps s.event s.grant w (happens s w) before after → LoadsAs before w.server.maps → LoadsAs after (happens s w).server.maps
step-loads w s before after best keeps loads =
    let both = event-both IsLoaded IsCollected loads_itself fit-best w s.grant s.maps before after s.event (step-takes w s) best keeps
    (record { lynx = loads.lynx; ms = loads.ms }) in
    record { lynx = both.lynx; ms = both.ms }

-- if that is what a load gives, a restart loads the current collections
pub loads-from : (w : World) (log : List Keeping) → LoadsAs log w.server.maps → RestartsFrom log w
loads-from w log loads lynx ms from_lynx from_ms =
    let loaded = loads-as log w.server.maps loads lynx ms from_lynx from_ms in
    ap (λ (m : Maps). loaded_server w.server.request m.lynx m.ms) (maps-are lynx ms w.server.maps loaded.0 loaded.1)

-- A run, and what a keeper has at first and at the end.
module _ (o : Origin) (r : RunFrom o) (first last : List Keeping) (keeps : RunKeeps r.steps (first_world o) first last) where
  -- from a keeper that has the first collections' own texts it has those of the last ones
  pub has-kept : HasKept first o.maps → HasKept last (last_world r).server.maps
  has-kept kept =
      let both = run-both IsTextAt Any text_itself fit_any r.steps (first_world o) first last r.merged (first-best o) keeps
      (record { lynx = kept.lynx; ms = kept.ms }) in
      record { lynx = both.lynx; ms = both.ms }

  -- if its texts are loaded as the first collections, then its last ones are as the last ones
  module _ (loads : LoadsAs first o.maps) where
    pub last-loads : LoadsAs last (last_world r).server.maps
    last-loads =
        let both = run-both IsLoaded IsCollected loads_itself fit-best r.steps (first_world o) first last r.merged (first-best o) keeps
        (record { lynx = loads.lynx; ms = loads.ms }) in
        record { lynx = both.lynx; ms = both.ms }

    -- so a restart loads the current collections
    pub restarts-from : RestartsFrom last (last_world r)
    restarts-from = loads-from (last_world r) last last-loads

    -- and a load fails only by a fault of the keeper or out of memory
    pub run-fails : FailsOutside last
    run-fails = fails-outside last (last_world r).server.maps last-loads
