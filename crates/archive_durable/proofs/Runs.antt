-- What each event of a run makes of the folder, and what a crash leaves then.
use Rattle.std.proofs.Common.{◌≡◌, ◌⊎◌, ℕ, ◌==◌, List, [], ◌∷◌, ◌++◌, Option, None, Some, Bool, true, false, slice_get, refl, sym, subst, inl, inr}
use Rattle.folders.specs.Folder.{FolderModel}
use Rattle.archive_client.specs.Client.{is_too_long}
use Rattle.archive_table.specs.Table.{Maps, Taken, Grant, Merges, IsMerged, transfer_at}
use Rattle.archive_model.specs.World.{Datagram, Event, begin, deliver, client_times_out, server_times_out, stray, restart, unknown_keep, World, WorldStep, client_at, has_begun, Origin, first_world, run_from, happens, event_happens, AllMerged, IsPrefix, wanted_by, wanted_of, maps_found, ends_if, ends_at}
use Rattle.archive_model.proofs.Places.{IsPrefix-same}
use Rattle.archive_model.proofs.Growing.{step-extends}
use Rattle.archive_theorem.proofs.Claim_Invariant.{Holds, AreBest, first-holds}
use Rattle.archive_theorem.proofs.Server_Merges.{best-taken}
use Rattle.archive_theorem.proofs.Headline_Remains.{timeout_leaves, begins_remain, waits_remain, strays_remain}
use Rattle.archive_theorem.proofs.Event_Happens.{step-holds, last-holds}
use Rattle.archive_theorem.proofs.Headline_Total.{not_more, one_last}
use Rattle.archive_durable.specs.Crashes.{StayKept, DeliveryDoes, MayKeep, StepDoes, HasCollections, ComesNext, IsKnownNext, RunDoes, RunOver, end_of, NextStep, LoadsAllPromised, SurvivesNow, SurvivesSince}
use Rattle.archive_durable.proofs.Loaded.{pick, LoadsPair, loads-promised, loads-own}
use Rattle.archive_durable.proofs.Steps.{stay-has, stay-since, now-pair, finds-has, refused-stay, kept-has, keep-since, keep-found}

-- ---- the collections of a keep

-- what a keep tries are the best over the files taken and its own
record TriedBest (taken : List Taken) (tried : Maps) : Type 0 where
  pub all : List Taken
  pub more : IsPrefix taken all
  pub best : AreBest all tried

tried_best : (wanted : Option Taken) (taken : List Taken) (old tried : Maps) → AreBest taken old → Merges wanted old tried → TriedBest taken tried
tried_best None taken old tried best same = record { all = taken; more = IsPrefix-same taken; best = subst (AreBest taken) (sym same) best }
tried_best (Some t) taken old tried best merges =
    record { all = taken ++ t ∷ []; more = record { rest = t ∷ []; is = refl }; best = best-taken taken t old tried best merges }

-- ---- a keep whose outcome is unknown

-- the world's collections after it, and that the file made them
module _ (w : World) (tried : Maps) where
  found_maps : (wanted : Option Taken) (found : Bool) (d : Datagram) → Merges wanted w.server.maps tried →
      (ends_if wanted found tried d w).server.maps ≡ maps_found found w.server.maps tried
  found_maps None true d merges = sym merges
  found_maps None false d merges = refl
  found_maps (Some t) found d merges = refl

  found_merged : (wanted : Option Taken) (found : Bool) (d : Datagram) → Merges wanted w.server.maps tried → (t : Taken) →
      (ends_if wanted found tried d w).taken ≡ w.taken ++ t ∷ [] → IsMerged t.file w.server.maps (ends_if wanted found tried d w).server.maps
  found_merged None found d merges t is = not_more w.taken t is
  found_merged (Some taken) true d merges t is =
      subst (λ (x : Taken). IsMerged x.file w.server.maps tried) (one_last w.taken taken t is) merges
  found_merged (Some taken) false d merges t is = not_more w.taken t is

  sent_maps : (sent : Option Datagram) (found : Bool) → Merges (wanted_by sent w) w.server.maps tried →
      (ends_at sent found tried w).server.maps ≡ maps_found found w.server.maps tried
  sent_maps None true merges = sym merges
  sent_maps None false merges = refl
  sent_maps (Some d) found merges = found_maps (wanted_of (d.target.host == w.home.host) d w) found d merges

  sent_merged : (sent : Option Datagram) (found : Bool) → Merges (wanted_by sent w) w.server.maps tried → (t : Taken) →
      (ends_at sent found tried w).taken ≡ w.taken ++ t ∷ [] → IsMerged t.file w.server.maps (ends_at sent found tried w).server.maps
  sent_merged None found merges t is = not_more w.taken t is
  sent_merged (Some d) found merges t is = found_merged (wanted_of (d.target.host == w.home.host) d w) found d merges t is

module _ {D : Type 0} (m : FolderModel D) where
  -- ---- the folder after an event

  same_next : (d ended next : D) (old new : Maps) → new ≡ old → StayKept m d ended → next ≡ ended → HasCollections m d old → HasCollections m next new
  same_next d ended next old new same stay is has =
      subst (HasCollections m next) (sym same) (subst (λ (f : D). HasCollections m f old) (sym is) (stay-has m d ended old has stay))

  delivery_next : (d ended next : D) (taken : List Taken) (old new : Maps) → AreBest taken new → DeliveryDoes m old new d ended → next ≡ ended →
      HasCollections m d old → HasCollections m next new
  delivery_next d ended next taken old new best (inl k) is has =
      subst (λ (f : D). HasCollections m f new) (sym is) (kept-has m d ended old has new k (loads-own taken new best k.rules))
  delivery_next d ended next taken old new best (inr (same, inl stay)) is has = same_next d ended next old new same stay is has
  delivery_next d ended next taken old new best (inr (same, inr k)) is has =
      same_next d ended next old new same (refused-stay m d ended old has k) is has

  module _ (w : World) (grant : Grant) (maps : Maps) (d ended next : D) where
    event_next : (event : Event) →
        AreBest (event_happens event grant maps w).taken (event_happens event grant maps w).server.maps →
        StepDoes m event w (event_happens event grant maps w) d ended → ComesNext m event (event_happens event grant maps w) ended next →
        HasCollections m d w.server.maps → HasCollections m next (event_happens event grant maps w).server.maps
    event_next (begin e operation) best stay is has =
        same_next d ended next w.server.maps _ (begins_remain w (e.host == w.home.host) (is_too_long operation) e operation).1 stay is has
    event_next (deliver index spare) best does is has =
        let v = event_happens (deliver index spare) grant maps w in
        delivery_next d ended next v.taken w.server.maps v.server.maps best does is has
    event_next (client_times_out e) best stay is has = same_next d ended next w.server.maps _ (waits_remain w (client_at e w) e).1 stay is has
    event_next (server_times_out port) best stay is has =
        same_next d ended next w.server.maps _ (timeout_leaves (transfer_at port w.server) port w.server).1 stay is has
    event_next (stray g) best stay is has =
        same_next d ended next w.server.maps _ (strays_remain w (g.source.host == w.home.host) (has_begun g.source w.begun) g).1 stay is has
    event_next restart best stay finds has = finds-has m ended next w.server.maps (stay-has m d ended w.server.maps has stay) finds
    event_next (unknown_keep index found) best does found-is has = found-is

  -- ---- a crash at any moment of an event

  module _ (w : World) (h : Holds w) (d ended : D) (has : HasCollections m d w.server.maps) where
    old_promised : (lynx ms : Option (List ℕ)) → LoadsPair (pick lynx ms) w.server.maps → LoadsAllPromised w lynx ms
    old_promised lynx ms pair = loads-promised w h w.taken w.server.maps (IsPrefix-same w.taken) h.best lynx ms pair

    stay_survives : StayKept m d ended → SurvivesSince m ended (m.moment d) w
    stay_survives stay lynx ms is_lynx is_ms = old_promised lynx ms (stay-since m d ended w.server.maps has stay lynx ms is_lynx is_ms)

    either_promised : (taken : List Taken) (maps : Maps) → IsPrefix w.taken taken → AreBest taken maps → (lynx ms : Option (List ℕ)) →
        LoadsPair (pick lynx ms) w.server.maps ⊎ LoadsPair (pick lynx ms) maps → LoadsAllPromised w lynx ms
    either_promised taken maps more best lynx ms (inl pair) = old_promised lynx ms pair
    either_promised taken maps more best lynx ms (inr pair) = loads-promised w h taken maps more best lynx ms pair

    delivery_survives : (taken : List Taken) (new : Maps) → IsPrefix w.taken taken → AreBest taken new → DeliveryDoes m w.server.maps new d ended →
        SurvivesSince m ended (m.moment d) w
    delivery_survives taken new more best (inl k) lynx ms is_lynx is_ms =
        either_promised taken new more best lynx ms
        (keep-since m d ended w.server.maps has new k.rules k.only (loads-own taken new best k.rules) k.kept.0 lynx ms is_lynx is_ms)
    delivery_survives taken new more best (inr (same, inl stay)) lynx ms is_lynx is_ms = stay_survives stay lynx ms is_lynx is_ms
    delivery_survives taken new more best (inr (same, inr k)) lynx ms is_lynx is_ms =
        stay_survives (refused-stay m d ended w.server.maps has k) lynx ms is_lynx is_ms

    unknown_survives : (wanted : Option Taken) → MayKeep m wanted w.server.maps d ended → SurvivesSince m ended (m.moment d) w
    unknown_survives wanted k lynx ms is_lynx is_ms =
        let t = tried_best wanted w.taken w.server.maps k.tried h.best k.merges in
        either_promised t.all k.tried t.more t.best lynx ms
        (keep-since m d ended w.server.maps has k.tried k.rules k.only (loads-own t.all k.tried t.best k.rules) k.unknown lynx ms is_lynx is_ms)

    event_survives : (v : World) → IsPrefix w.taken v.taken → AreBest v.taken v.server.maps → (event : Event) → StepDoes m event w v d ended →
        SurvivesSince m ended (m.moment d) w
    event_survives v more best (begin e operation) stay = stay_survives stay
    event_survives v more best (deliver index spare) does = delivery_survives v.taken v.server.maps more best does
    event_survives v more best (client_times_out e) stay = stay_survives stay
    event_survives v more best (server_times_out port) stay = stay_survives stay
    event_survives v more best (stray g) stay = stay_survives stay
    event_survives v more best restart stay = stay_survives stay
    event_survives v more best (unknown_keep index found) k = unknown_survives _ k

  -- ---- a run

  run_next : (steps : List WorldStep) (w : World) (first last : D) → AllMerged steps w → Holds w → RunDoes m steps w first last →
      HasCollections m first w.server.maps → HasCollections m last (run_from steps w).server.maps
  run_next [] w first last merged h stay has = stay-has m first last w.server.maps has stay
  run_next (s ∷ steps) w first last merged h does has =
      let now = step-holds w s h merged.0 in
      run_next steps (happens s w) does.2 last merged.1 now does.6
      (event_next w s.grant s.maps does.0 does.1 does.2 s.event now.best does.4 does.5 (stay-has m first does.0 w.server.maps has does.3))

  module _ (o : Origin) (r : RunOver m o) where
    -- the folder has the server's collections
    pub run-has : HasCollections m r.last (end_of r).server.maps
    run-has = run_next r.run.steps (first_world o) r.first r.last r.run.merged (first-holds o) r.does r.loaded

    now_survives : (folder : D) (w : World) → Holds w → HasCollections m folder w.server.maps → SurvivesNow m folder w
    now_survives folder w h has lynx ms is_lynx is_ms =
        loads-promised w h w.taken w.server.maps (IsPrefix-same w.taken) h.best lynx ms (now-pair m folder folder w.server.maps has lynx ms is_lynx is_ms)

    -- what a crash leaves holds what was promised
    pub run-survives : SurvivesNow m r.last (end_of r)
    run-survives = now_survives r.last (end_of r) (last-holds o r.run) run-has

    module _ (n : NextStep m (end_of r) r.last) where
      -- also at any moment of the next step
      pub step-survives : SurvivesSince m n.ended (m.moment r.last) (end_of r)
      step-survives =
          let w = end_of r in
          let h = last-holds o r.run in
          event_survives w h r.last n.ended run-has (happens n.step w) (step-extends w n.step).taken (step-holds w n.step h n.merged).best
          n.step.event n.does

      -- and after it
      pub step-after : (next : D) → ComesNext m n.step.event (happens n.step (end_of r)) n.ended next → SurvivesNow m next (happens n.step (end_of r))
      step-after next comes =
          let w = end_of r in
          let v = happens n.step w in
          let h = step-holds w n.step (last-holds o r.run) n.merged in
          now_survives next v h (event_next w n.step.grant n.step.maps r.last n.ended next n.step.event h.best n.does comes run-has)

    -- and during calls that keep nothing
    pub idle-survives : (next : D) → StayKept m r.last next → SurvivesSince m next (m.moment r.last) (end_of r)
    idle-survives next stay = stay_survives (end_of r) (last-holds o r.run) r.last next run-has stay

    -- a keep whose outcome is unknown, and the start after it, are a step of the world
    pub known-next : IsKnownNext m (end_of r) r.last
    known-next index ended next k text starts remains =
        let w = end_of r in
        let sent = slice_get w.net index in
        let t = tried_best (wanted_by sent w) w.taken w.server.maps k.tried (last-holds o r.run).best k.merges in
        let own = loads-own t.all k.tried t.best k.rules in
        let finds = keep-found m r.last ended w.server.maps run-has k.tried k.rules k.only own k.unknown next text starts remains in (
          finds.0,
          sent_merged w k.tried sent finds.0 k.merges,
          subst (HasCollections m next) (sym (sent_maps w k.tried sent finds.0 k.merges)) finds.1,
        )
