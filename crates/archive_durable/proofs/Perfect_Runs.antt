-- A perfect folder does what each run asks.
use Rattle.std.proofs.Common.{◌≡◌, ◌≢◌, ◌⊎◌, ◌≤◌, ℕ, ◌==◌, List, [], ◌∷◌, ◌++◌, length, Option, None, Some, slice_get, refl, ap, sym, ◌∙◌, subst, inl, inr, arith}
use Rattle.std.proofs.lemmas.Option.{same_Some}
use Rattle.tws_file.specs.declared.«ruleset».Ruleset.{Ruleset}
use Rattle.tws_file.specs.declared.«ruleset».Ruleset.TheVariants.{Lynx, Ms}
use Rattle.tws_file.specs.Text.{File, IsReadable}
use Rattle.tws_reader.proofs.Readability.{readable_or_not}
use Rattle.tws_best.specs.Best.{collection_text}
use Rattle.folders.specs.Folder.{Stays}
use Rattle.folders.specs.Publishing.{Replaces, HasOnly}
use Rattle.archive_client.specs.Client.{Operation, is_too_long}
use Rattle.tftp_packet.specs.declared.endpoint.Endpoint.{Endpoint}
use Rattle.archive_table.specs.Table.{Maps, Taken, Grant, all, IsMerged, MergesIntoOwn, map_of, transfer_at}
use Rattle.archive_table.specs.declared.keep_fault.KeepFault.TheVariants.{Device}
use Rattle.archive_table.specs.Keeper.{IsLoaded}
use Rattle.archive_keepers.specs.Names.{kept_name}
use Rattle.archive_model.specs.World.{Event, begin, deliver, client_times_out, server_times_out, stray, restart, unknown_keep, World, WorldStep, Origin, RunFrom, first_world, happens, event_happens, AllMerged, wanted_by, Datagram, client_at, has_begun}
use Rattle.archive_theorem.proofs.Claim_Invariant.{AreBest, first-best}
use Rattle.archive_theorem.proofs.Headline_Remains.{StepTakes, step-takes, GrantedBy, timeout_leaves, begins_remain, waits_remain, strays_remain}
use Rattle.archive_theorem.proofs.Headline_Collections.{step-best}
use Rattle.archive_theorem.proofs.Headline_Total.{merged-of}
use Rattle.archive_durable.specs.Crashes.{Replacing, StayKept, OnlyChanges, KeepsChange, MayKeep, StepDoes, HasCollections, ComesNext, RunDoes, RunOver}
use Rattle.archive_durable.specs.Perfect.{PerfectFolder, HasText, HadText, perfect, perfect_with, had_only}
use Rattle.archive_durable.proofs.Loaded.{by_ruleset, loads-own}

-- ---- one folder

-- what can be read is the collection's own text
own_text : (taken : List Taken) (maps : Maps) → AreBest taken maps → (rules : Ruleset) (text : Option (List ℕ)) →
    HasText maps (kept_name rules) text →
    IsLoaded rules text (map_of rules maps)
own_text taken maps best rules text is =
    subst (λ (o : Option (List ℕ)). IsLoaded rules o (map_of rules maps)) (sym (is rules refl)) (loads-own taken maps best rules)

perfect_has : (taken : List Taken) (maps : Maps) → AreBest taken maps → (before : List Maps) →
    HasCollections perfect (record { now = maps; before = before }) maps
perfect_has taken maps best before = record { read = own_text taken maps best; left = own_text taken maps best }

none_later : (f : PerfectFolder) (name : List ℕ) → Stays perfect f f name
none_later f name =
    record {
      possible = record { now = λ text is. is; held = λ text is. is; left = λ text is. is };
      later = omega arith;
      each = λ text is. had_only f.now f.before name text is;
      before = λ t text le is. is;
    }

perfect_stay : (f : PerfectFolder) → StayKept perfect f f
perfect_stay f rules = none_later f (kept_name rules)

-- ---- the next collections

abbrev replaced : PerfectFolder → Maps → PerfectFolder
replaced f new = record { now = new; before = f.now ∷ f.before }

module _ (f : PerfectFolder) (new : Maps) (rules : Ruleset) (only : OnlyChanges rules f.now new) where
  -- under another name there is what was there
  other_text : (other : List ℕ) → other ≢ kept_name rules → (text : Option (List ℕ)) → HasText new other text → HasText f.now other text
  other_text other apart text is =
      by_ruleset (λ r. other ≡ kept_name r → text ≡ Some (collection_text (map_of r f.now))) rules (λ named. absurd (apart named))
      (λ r differs named. is r named ∙ ap (λ c. Some (collection_text c)) (only r differs))

  stays_other : (other : List ℕ) → other ≢ kept_name rules → Stays perfect f (replaced f new) other
  stays_other other apart =
      record {
        possible = record {
          now = other_text other apart;
          held = λ text. other_text other apart (Some text);
          left = other_text other apart;
        };
        later = omega arith;
        each = since;
        before = earlier;
      }
    where
      since : (text : Option (List ℕ)) → HadText (length f.before) new (f.now ∷ f.before) other text → HasText f.now other text
      since text (inl is) = other_text other apart text is
      since text (inr past) = had_only f.now f.before other text past.1

      earlier : (t : ℕ) (text : Option (List ℕ)) → t ≤ length f.before → HadText t new (f.now ∷ f.before) other text →
          HadText t f.now f.before other text
      earlier t text le (inl is) = perfect.counts_now f t other text le (other_text other apart text is)
      earlier t text le (inr past) = past.1

  own_replaced : Replaces perfect f (replaced f new) (kept_name rules) (collection_text (map_of rules new))
  own_replaced =
      record {
        now = λ text is. inr (is rules refl);
        left = λ text is. inr (is rules refl);
        later = omega arith;
        each = since;
        before = earlier;
      }
    where
      since : (text : Option (List ℕ)) → HadText (length f.before) new (f.now ∷ f.before) (kept_name rules) text →
          HasText f.now (kept_name rules) text ⊎ (text ≡ Some (collection_text (map_of rules new)))
      since text (inl is) = inr (is rules refl)
      since text (inr past) = inl (had_only f.now f.before (kept_name rules) text past.1)

      earlier : (t : ℕ) (text : Option (List ℕ)) → t ≤ length f.before → HadText t new (f.now ∷ f.before) (kept_name rules) text →
          HadText t f.now f.before (kept_name rules) text ⊎ (text ≡ Some (collection_text (map_of rules new)))
      earlier t text le (inl is) = inr (is rules refl)
      earlier t text le (inr past) = inl past.1

  replacing : Replacing perfect f (replaced f new) rules (collection_text (map_of rules new))
  replacing = record { any_moment = own_replaced; others = λ other apart draft. stays_other other apart }

  has_only : HasOnly perfect (replaced f new) (kept_name rules) (collection_text (map_of rules new))
  has_only =
      record {
        now = λ text is. is rules refl;
        held = λ text is. same_Some _ _ (is rules refl);
        left = λ text is. is rules refl;
      }

  changes : KeepsChange perfect f.now new f (replaced f new)
  changes = record { rules = rules; only = only; kept = (replacing, has_only) }

-- ---- an event

-- a file changes one collection at most
own_changes : (rules : Ruleset) (file : File) (old new : Maps) → MergesIntoOwn rules file old new → OnlyChanges rules old new
own_changes Lynx file old new merges Lynx differs = absurd (differs refl)
own_changes Lynx file old new merges Ms differs = merges.1
own_changes Ms file old new merges Lynx differs = merges.1
own_changes Ms file old new merges Ms differs = absurd (differs refl)

only_one : (bytes : List ℕ) (old new : Maps) → IsMerged bytes old new → IsReadable bytes ⊎ (IsReadable bytes → ⊥) →
    (rules : Ruleset) × OnlyChanges rules old new
only_one bytes old new merged (inl r) = (r.0.ruleset, own_changes r.0.ruleset r.0 old new (merged.readable r.0 r.1))
only_one bytes old new merged (inr never) =
    (Lynx, λ other differs. ap (map_of other) (merged.unreadable (λ f text. never (f, text))))

-- The folder when the server's step ends, and the folder with the collections after the event.
record PerfectNext (w v : World) (event : Event) (before : List Maps) : Type 0 where
  ended : PerfectFolder
  older : List Maps
  step : StepDoes perfect event w v (record { now = w.server.maps; before = before }) ended
  comes : ComesNext perfect event v ended (record { now = v.server.maps; before = older })

abbrev folder_of : Maps → List Maps → PerfectFolder
folder_of now before = record { now = now; before = before }

same_folder : (old new : Maps) (before : List Maps) → new ≡ old →
    folder_of new before ≡ folder_of old before
same_folder old new before same = ap (λ (maps : Maps). folder_of maps before) same

-- a delivery, which takes a file or none
module _ (w v : World) (before : List Maps) (index spare : ℕ) where
  perfect_delivery : (Granted : Type 0) → StepTakes Granted w v →
      ((t : Taken) → v.taken ≡ w.taken ++ t ∷ [] → IsMerged t.file w.server.maps v.server.maps) → PerfectNext w v (deliver index spare) before
  perfect_delivery Granted (inl remain) merged =
      record {
        ended = record { now = w.server.maps; before = before };
        older = before;
        step = inr (remain.1, inl (perfect_stay (record { now = w.server.maps; before = before })));
        comes = same_folder w.server.maps v.server.maps before remain.1;
      }
  perfect_delivery Granted (inr takes) merged =
      let file = takes.0.file in
      let one = only_one file w.server.maps v.server.maps (merged takes.0 takes.1) (readable_or_not file) in
      record {
        ended = record { now = v.server.maps; before = w.server.maps ∷ before };
        older = w.server.maps ∷ before;
        step = inl (changes (record { now = w.server.maps; before = before }) v.server.maps one.0 one.1);
        comes = refl;
      }

-- a keep whose outcome is unknown
perfect_keep : (wanted : Option Taken) (f : PerfectFolder) → (ended : PerfectFolder) × MayKeep perfect wanted f.now f ended
perfect_keep None f = (
  replaced f f.now,
  record { tried = f.now; merges = refl; rules = Lynx; only = λ other differs. refl; fault = Device; unknown = replacing f f.now Lynx (λ other differs. refl) },
)
perfect_keep (Some t) f =
    let made = merged-of t.file f.now in
    let one = only_one t.file f.now made.0 made.1 (readable_or_not t.file) in (
      replaced f made.0,
      record { tried = made.0; merges = made.1; rules = one.0; only = one.1; fault = Device; unknown = replacing f made.0 one.0 one.1 },
    )

-- no keep
module _ (w v : World) (before : List Maps) (same : v.server.maps ≡ w.server.maps) where
  abbrev same_now : PerfectFolder
  same_now = record { now = w.server.maps; before = before }

  stays_begin : (e : Endpoint) (operation : Operation) → PerfectNext w v (begin e operation) before
  stays_begin e operation =
      record { ended = same_now; older = before; step = perfect_stay same_now; comes = same_folder w.server.maps v.server.maps before same }

  stays_client : (e : Endpoint) → PerfectNext w v (client_times_out e) before
  stays_client e =
      record { ended = same_now; older = before; step = perfect_stay same_now; comes = same_folder w.server.maps v.server.maps before same }

  stays_server : (port : ℕ) → PerfectNext w v (server_times_out port) before
  stays_server port =
      record { ended = same_now; older = before; step = perfect_stay same_now; comes = same_folder w.server.maps v.server.maps before same }

  stays_stray : (d : Datagram) → PerfectNext w v (stray d) before
  stays_stray d =
      record { ended = same_now; older = before; step = perfect_stay same_now; comes = same_folder w.server.maps v.server.maps before same }

module _ (w : World) (grant : Grant) (maps : Maps) (before : List Maps) where
  perfect_next : (event : Event) → StepTakes (GrantedBy event grant) w (event_happens event grant maps w) →
      ((t : Taken) → (event_happens event grant maps w).taken ≡ w.taken ++ t ∷ [] →
      IsMerged t.file w.server.maps (event_happens event grant maps w).server.maps) →
      AreBest (event_happens event grant maps w).taken (event_happens event grant maps w).server.maps →
      PerfectNext w (event_happens event grant maps w) event before
  perfect_next (begin e operation) takes merged best =
      stays_begin w _ before (begins_remain w (e.host == w.home.host) (is_too_long operation) e operation).1 e operation
  perfect_next (deliver index spare) takes merged best = perfect_delivery w _ before index spare (grant ≡ all) takes merged
  perfect_next (client_times_out e) takes merged best = stays_client w _ before (waits_remain w (client_at e w) e).1 e
  perfect_next (server_times_out port) takes merged best =
      stays_server w _ before (timeout_leaves (transfer_at port w.server) port w.server).1 port
  perfect_next (stray d) takes merged best =
      stays_stray w _ before (strays_remain w (d.source.host == w.home.host) (has_begun d.source w.begun) d).1 d
  perfect_next restart takes merged best =
      let now : PerfectFolder = record { now = w.server.maps; before = before } in
      record {
        ended = now;
        older = before;
        step = perfect_stay now;
        comes = record { read = λ rules text is. inl is; left = λ rules text is. inl is };
      }
  perfect_next (unknown_keep index found) takes merged best =
      let v = event_happens (unknown_keep index found) grant maps w in
      let keep = perfect_keep (wanted_by (slice_get w.net index) w) (record { now = w.server.maps; before = before }) in
      record { ended = keep.0; older = []; step = keep.1; comes = perfect_has v.taken v.server.maps best [] }

-- ---- a run

run_from_does : (steps : List WorldStep) (w : World) (before : List Maps) → AllMerged steps w → AreBest w.taken w.server.maps →
    (last : PerfectFolder) × RunDoes perfect steps w (record { now = w.server.maps; before = before }) last
run_from_does [] w before merged best =
    let now : PerfectFolder = record { now = w.server.maps; before = before } in (now, perfect_stay now)
run_from_does (s ∷ steps) w before merged best =
    let now : PerfectFolder = record { now = w.server.maps; before = before } in
    let v = happens s w in
    let later = step-best w s merged.0 best in
    let p = perfect_next w s.grant s.maps before s.event (step-takes w s) merged.0 later in
    let rest = run_from_does steps v p.older merged.1 later in
    (rest.0, (now, p.ended, record { now = v.server.maps; before = p.older }, perfect_stay now, p.step, p.comes, rest.1))

pub run-over : (o : Origin) (r : RunFrom o) → (over : RunOver perfect o) × (over.run ≡ r)
run-over o r =
    let does = run_from_does r.steps (first_world o) [] r.merged (first-best o) in (
      record { run = r; first = perfect_with o.maps; last = does.0; loaded = perfect_has (first_world o).taken o.maps (first-best o) []; does = does.1 },
      refl,
    )
