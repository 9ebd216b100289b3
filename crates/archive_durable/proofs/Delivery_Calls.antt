-- What a delivery does, from the calls of its step.
use Rattle.std.proofs.Common.{◌≡◌, ◌⊎◌, List, [], ◌∷◌, ◌++◌, true, false, Option, Some, Ok, refl, sym, ◌∙◌, subst, inl, inr, append-nil}
use Rattle.std.proofs.lemmas.List.{append_cancel_left}
use Rattle.tws_file.specs.declared.«ruleset».Ruleset.{Ruleset}
use Rattle.tws_file.specs.declared.«ruleset».Ruleset.TheVariants.{Lynx, Ms}
use Rattle.tws_best.specs.Best.{Collected, collection_text}
use Rattle.folders.specs.Folder.{FolderModel}
use Rattle.archive_table.specs.Table.{Maps, Taken, Grant, all, no_memory, unkept, map_of}
use Rattle.archive_table.specs.Keeper.{Keeping, keeping, KeepsOne, KeepsMaps, FailsKeep, FailsKeepOf, StepKeeps}
use Rattle.archive_model.specs.World.{World, Origin, RunFrom, last_world, happens}
use Rattle.archive_model.specs.Restarts.{HaveOwnRuleset, DeliveryKeeps}
use Rattle.archive_theorem.proofs.Headline_Remains.{StepTakes, step-takes}
use Rattle.archive_theorem.proofs.Event_Happens.{step-holds, last-holds}
use Rattle.archive_theorem.proofs.Keeper_Runs.{maps-are, own-ruleset}
use Rattle.archive_durable.specs.Crashes.{KeepDoes, StayKept, OnlyChanges, RefusesKeep, CallsDo, DeliveryDoes, delivery, DoesAsStepKeeps}

only_lynx : (old new : Maps) → new.ms ≡ old.ms → OnlyChanges Lynx old new
only_lynx old new same Lynx differs = absurd (differs refl)
only_lynx old new same Ms differs = same

only_ms : (old new : Maps) → new.lynx ≡ old.lynx → OnlyChanges Ms old new
only_ms old new same Lynx differs = same
only_ms old new same Ms differs = absurd (differs refl)

whole_maps : (old new : Maps) → new.lynx ≡ old.lynx → new.ms ≡ old.ms → new ≡ old
whole_maps old new lynx ms = sym (maps-are new.lynx new.ms old lynx ms)

module _ {D : Type 0} (m : FolderModel D) (d e : D) (before calls : List Keeping) (done : CallsDo m calls d e) where
  -- no call
  no_call : before ++ calls ≡ before ++ [] → StayKept m d e
  no_call grows = subst (λ (l : List Keeping). CallsDo m l d e) (append_cancel_left before calls [] grows) done

  same_list : before ++ calls ≡ before → StayKept m d e
  same_list same = no_call (same ∙ sym (append-nil before))

  -- one call
  one_call : (k : Keeping) → before ++ calls ≡ before ++ k ∷ [] → CallsDo m (k ∷ []) d e
  one_call k grows = subst (λ (l : List Keeping). CallsDo m l d e) (append_cancel_left before calls (k ∷ []) grows) done

  -- a collection that changed, or did not
  keeps_one : (old new : Maps) (rules : Ruleset) → OnlyChanges rules old new → (map_of rules new).ruleset ≡ rules →
      (map_of rules new ≡ map_of rules old → new ≡ old) → KeepsOne (map_of rules old) (map_of rules new) (Some before) (Some (before ++ calls)) →
      DeliveryDoes m old new d e
  keeps_one old new rules only own whole (inl stays) = inr (whole stays.0, inl (no_call stays.1))
  keeps_one old new rules only own whole (inr changed) =
      let text = collection_text (map_of rules new) in
      let call = one_call (keeping (map_of rules new).ruleset text true) changed.1 in
      inl (record { rules = rules; only = only; kept = subst (λ (r : Ruleset). KeepDoes m d e r text (Ok tt) true) own call.1 })

  keeps_maps : (old new : Maps) → HaveOwnRuleset new → KeepsMaps old new (Some before) (Some (before ++ calls)) → DeliveryDoes m old new d e
  keeps_maps old new own (inl lynx) =
      keeps_one old new Lynx (only_lynx old new lynx.0) own.lynx (λ same. whole_maps old new same lynx.0) lynx.1
  keeps_maps old new own (inr ms) = keeps_one old new Ms (only_ms old new ms.0) own.ms (λ same. whole_maps old new ms.0 same) ms.1

  -- a keep that was refused
  fails_keep : (rules : Ruleset) (new : Collected) → FailsKeep rules new (Some before) (Some (before ++ calls)) → StayKept m d e ⊎ RefusesKeep m d e
  fails_keep rules new (inl none) = inl (no_call none)
  fails_keep rules new (inr failed) =
      let text = collection_text new in
      let call = one_call (keeping rules text false) failed in
      inr (record { rules = rules; text = text; fault = call.1.0; refused = call.1.1 })

  fails_maps : (old new : Maps) → FailsKeepOf old new (Some before) (Some (before ++ calls)) → StayKept m d e ⊎ RefusesKeep m d e
  fails_maps old new (inl lynx) = fails_keep new.lynx.ruleset new.lynx lynx.2
  fails_maps old new (inr ms) = fails_keep new.ms.ruleset new.ms ms.2

  -- by what was granted
  not_granted : {P : Type 0} (grant : Grant) (w v : World) → (grant ≡ all → ⊥) → StepTakes (grant ≡ all) w v →
      (v.server.maps ≡ w.server.maps → P) → P
  not_granted grant w v other (inl remain) then = then remain.1
  not_granted grant w v other (inr takes) then = absurd (other takes.2)

  step_keeps : (grant : Grant) (wanted : Option Taken) (w v : World) → HaveOwnRuleset v.server.maps → StepTakes (grant ≡ all) w v →
      StepKeeps grant wanted w.server.maps v.server.maps (Some before) (Some (before ++ calls)) → DeliveryDoes m w.server.maps v.server.maps d e
  step_keeps all wanted w v own takes keeps = keeps_maps w.server.maps v.server.maps own keeps
  step_keeps no_memory wanted w v own takes keeps = not_granted no_memory w v (λ is. cc) takes (λ same. inr (same, inl (no_call keeps)))
  step_keeps unkept wanted w v own takes keeps =
      not_granted unkept w v (λ is. cc) takes (λ same. inr (same, fails_maps w.server.maps keeps.0 keeps.2))

  delivery_keeps : (grant : Grant) (wanted : Option Taken) (w v : World) → HaveOwnRuleset v.server.maps → StepTakes (grant ≡ all) w v →
      DeliveryKeeps grant wanted w.server.maps v.server.maps before (before ++ calls) → DeliveryDoes m w.server.maps v.server.maps d e
  delivery_keeps grant wanted w v own takes (inl stays) = inr (stays.0, inl (same_list stays.1))
  delivery_keeps grant wanted w v own takes (inr keeps) = step_keeps grant wanted w v own takes keeps

-- what a delivery does follows from the calls of its step
pub calls-do : {D : Type 0} (m : FolderModel D) (o : Origin) (r : RunFrom o) (last ended : D) → DoesAsStepKeeps m (last_world r) last ended
calls-do m o r last ended index spare grant maps before calls merged keeps done =
    let w = last_world r in
    let s = delivery index spare grant maps in
    let v = happens s w in
    let best = (step-holds w s (last-holds o r) merged).best in
    delivery_keeps m last ended before calls done grant _ w v (own-ruleset v.taken v.server.maps best) (step-takes w s) keeps
