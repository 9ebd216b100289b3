-- For every run there is a list of what the keeper has after it.
use Rattle.std.proofs.Common.{◌≡◌, ◌≢◌, ◌⊎◌, ℕ, Bool, true, false, List, [], ◌∷◌, ◌++◌, Option, Some, refl, ap, sym, ◌∙◌, subst, inl, inr, append-nil}
use Rattle.std.specs.Str.{bytes_eq}
use Rattle.std.proofs.lemmas.Slice.Eq.{bytes_eq-Decides}
use Rattle.tws_file.specs.declared.«ruleset».Ruleset.{Ruleset}
use Rattle.tws_file.specs.declared.«ruleset».Ruleset.TheVariants.{Lynx, Ms}
use Rattle.tws_file.specs.Text.{File, IsReadable}
use Rattle.tws_best.specs.Best.{Collected, IsCollected, IsCollectionOf, collection_text}
use Rattle.tws_best.proofs.Sets.{own_collection, one_collection}
use Rattle.archive_table.specs.Table.{Maps, Taken, Grant, MergesIntoOwn, IsMerged, all}
use Rattle.archive_table.specs.Keeper.{Keeping, keeping, KeepsOne, KeepsMaps, StepKeeps}
use Rattle.archive_model.specs.World.{Event, begin, deliver, client_times_out, server_times_out, stray, restart, World, WorldStep, Origin, RunFrom, first_world, happens, AllMerged, unknown_keep}
use Rattle.archive_model.specs.Restarts.{DeliveryKeeps, EventKeeps, RunKeeps}
use Rattle.tws_reader.proofs.Readability.{readable_or_not}
use Rattle.archive_theorem.proofs.Claim_Invariant.{AreBest, first-best}
use Rattle.archive_theorem.proofs.Headline_Remains.{StepTakes, step-takes, GrantedBy}
use Rattle.tws_best.proofs.Collections.{best-collected}
use Rattle.archive_theorem.proofs.Headline_Collections.{step-best}

-- ---- whether a collection has changed

-- collections of a ruleset with the same text are the same
same_by : (c d : Collected) → IsCollected c → IsCollected d → c.ruleset ≡ d.ruleset → collection_text c ≡ collection_text d → c ≡ d
same_by c d fits_c fits_d rules text =
    let own : IsCollectionOf c.ruleset (collection_text c ∷ []) c = own_collection c fits_c in
    let of_text : IsCollectionOf c.ruleset (collection_text d ∷ []) c = subst (λ (x : List ℕ). IsCollectionOf c.ruleset (x ∷ []) c) text own in
    let of_rules : IsCollectionOf d.ruleset (collection_text d ∷ []) c = subst (λ (k : Ruleset). IsCollectionOf k (collection_text d ∷ []) c) rules of_text in
    one_collection d.ruleset (collection_text d ∷ []) c d of_rules (own_collection d fits_d)

-- two collections of a ruleset are the same or not
same_or : (c d : Collected) → IsCollected c → IsCollected d → c.ruleset ≡ d.ruleset → (same : Bool) →
    bytes_eq (collection_text c) (collection_text d) ≡ same → (c ≡ d) ⊎ (c ≢ d)
same_or c d fits_c fits_d rules true is =
    inl (same_by c d fits_c fits_d rules ((bytes_eq-Decides (collection_text c) (collection_text d)).0 is))
same_or c d fits_c fits_d rules false is =
    inr
    (λ e. let also : bytes_eq (collection_text c) (collection_text d) ≡ true = (bytes_eq-Decides (collection_text c) (collection_text d)).1
    (ap collection_text e) in
    cc)

-- ---- a step

-- a keeper can list what a step makes of a collection, whether or not it changed
one_by : (old new : Collected) (before : List Keeping) → (new ≡ old) ⊎ (new ≢ old) → (after : List Keeping) × KeepsOne old new (Some before) (Some after)
one_by old new before (inl same) = (before, inl (same, sym (append-nil before)))
one_by old new before (inr other) =
    (before ++ keeping new.ruleset (collection_text new) true ∷ [], inr (other, refl))

-- so for collections over any files
one_list : (rules : Ruleset) (first second : List (List ℕ)) (old new : Collected) (before : List Keeping) → IsCollectionOf rules first old →
    IsCollectionOf rules second new → (after : List Keeping) × KeepsOne old new (Some before) (Some after)
one_list rules first second old new before was is =
    one_by old new before
    (same_or new old (best-collected rules second new is) (best-collected rules first old was) (is.ruleset_is ∙ sym was.ruleset_is)
    (bytes_eq (collection_text new) (collection_text old)) refl)

module _ (few more : List Taken) (old new : Maps) (before : List Keeping) (was : AreBest few old) (is : AreBest more new) where
  -- it merges a readable file
  own_list : (rules : Ruleset) (file : File) → MergesIntoOwn rules file old new → (after : List Keeping) × KeepsMaps old new (Some before) (Some after)
  own_list Lynx file merging =
      let lynx = one_list Lynx _ _ old.lynx new.lynx before was.lynx is.lynx in
      (lynx.0, inl (merging.1, lynx.1))
  own_list Ms file merging =
      let ms = one_list Ms _ _ old.ms new.ms before was.ms is.ms in
      (ms.0, inr (merging.1, ms.1))

  -- it changes nothing
  stay_list : new ≡ old → (after : List Keeping) × KeepsMaps old new (Some before) (Some after)
  stay_list same =
      let lynx = one_list Lynx _ _ old.lynx new.lynx before was.lynx is.lynx in
      (lynx.0, inl (ap (λ (m : Maps). m.ms) same, lynx.1))

  -- it takes any file
  maps_list : (bytes : List ℕ) → IsMerged bytes old new → IsReadable bytes ⊎ (IsReadable bytes → ⊥) →
      (after : List Keeping) × KeepsMaps old new (Some before) (Some after)
  maps_list bytes merged (inl r) = own_list r.0.ruleset r.0 (merged.readable r.0 r.1)
  maps_list bytes merged (inr never) = stay_list (merged.unreadable (λ f text. never (f, text)))

-- for each delivery there is a list
delivery_list : (w v : World) (grant : Grant) (wanted : Option Taken) (before : List Keeping) → StepTakes (grant ≡ all) w v →
    ((t : Taken) → v.taken ≡ w.taken ++ t ∷ [] → IsMerged t.file w.server.maps v.server.maps) → AreBest w.taken w.server.maps →
    AreBest v.taken v.server.maps → (after : List Keeping) × DeliveryKeeps grant wanted w.server.maps v.server.maps before after
delivery_list w v grant wanted before (inl remain) merged was is = (before, inl (remain.1, refl))
delivery_list w v grant wanted before (inr takes) merged was is =
    let file = takes.0.file in
    let list = maps_list w.taken v.taken w.server.maps v.server.maps before was is file (merged takes.0 takes.1) (readable_or_not file) in
    (list.0, inr (subst (λ (g : Grant). StepKeeps g wanted w.server.maps v.server.maps (Some before) (Some list.0)) (sym takes.2) list.1))

-- for each keep whose outcome is unknown
ends_list : (w v : World) (before : List Keeping) → StepTakes (Unit {0}) w v →
    ((t : Taken) → v.taken ≡ w.taken ++ t ∷ [] → IsMerged t.file w.server.maps v.server.maps) → AreBest w.taken w.server.maps →
    AreBest v.taken v.server.maps → (after : List Keeping) × KeepsMaps w.server.maps v.server.maps (Some before) (Some after)
ends_list w v before (inl remain) merged was is = stay_list w.taken v.taken w.server.maps v.server.maps before was is remain.1
ends_list w v before (inr takes) merged was is =
    let file = takes.0.file in
    maps_list w.taken v.taken w.server.maps v.server.maps before was is file (merged takes.0 takes.1) (readable_or_not file)

-- for each event
event_list : (w v : World) (event : Event) (grant : Grant) (before : List Keeping) → StepTakes (GrantedBy event grant) w v →
    ((t : Taken) → v.taken ≡ w.taken ++ t ∷ [] → IsMerged t.file w.server.maps v.server.maps) → AreBest w.taken w.server.maps →
    AreBest v.taken v.server.maps → (after : List Keeping) × EventKeeps event grant w v before after
event_list w v (begin e operation) grant before takes merged was is = (before, refl)
event_list w v (deliver index spare) grant before takes merged was is = delivery_list w v grant _ before takes merged was is
event_list w v (client_times_out e) grant before takes merged was is = (before, refl)
event_list w v (server_times_out port) grant before takes merged was is = (before, refl)
event_list w v (stray d) grant before takes merged was is = (before, refl)
event_list w v restart grant before takes merged was is = (before, λ rules. refl)
event_list w v (unknown_keep index found) grant before takes merged was is =
    let list = ends_list w v before takes merged was is in
    (list.0, (list.0, list.1, λ rules. refl))

-- ---- a run

-- for any steps there is a list of what the keeper has
list_from : (steps : List WorldStep) (w : World) (before : List Keeping) → AllMerged steps w → AreBest w.taken w.server.maps →
    (last : List Keeping) × RunKeeps steps w before last
list_from [] w before merged best = (before, refl)
list_from (s ∷ steps) w before merged best =
    let now = step-best w s merged.0 best in
    let list = event_list w (happens s w) s.event s.grant before (step-takes w s) merged.0 best now in
    let rest = list_from steps (happens s w) list.0 merged.1 now in
    (rest.0, (list.0, list.1, rest.1))

-- for each run there is a list of what the keeper has
pub run-list : (o : Origin) (r : RunFrom o) (first : List Keeping) → (last : List Keeping) × RunKeeps r.steps (first_world o) first last
run-list o r first = list_from r.steps (first_world o) first r.merged (first-best o)
