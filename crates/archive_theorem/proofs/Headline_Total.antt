-- The collections that a file makes exist and are unique, so every list of events and grants has exactly one run.
use Rattle.std.proofs.Common.{◌≡◌, ◌⊎◌, ℕ, List, [], ◌∷◌, ◌++◌, length, slice_get, Some, refl, ap, sym, ◌∙◌, subst, arith, inl, inr, length-append}
use Rattle.tws_file.specs.declared.«ruleset».Ruleset.{Ruleset}
use Rattle.tws_file.specs.declared.«ruleset».Ruleset.TheVariants.{Lynx, Ms}
use Rattle.tws_file.specs.Text.{File, IsReadable}
use Rattle.tws_file.proofs.FileText.{one_file}
use Rattle.tws_best.specs.Best.{Collected, solutions_of}
use Rattle.tws_best.specs.Choice.{best_of}
use Rattle.tws_best.proofs.Choices.{best_of_is}
use Rattle.tws_best.proofs.Sets.{one_collection}
use Rattle.archive_table.specs.Table.{Maps, Taken, Grant, IsFileMerge, MergesIntoOwn, IsMerged}
use Rattle.archive_model.specs.World.{Event, World, WorldStep, Origin, RunFrom, first_world, last_world, event_happens, happens, run_from, AllMerged, asked_by}
use Rattle.archive_model.proofs.Places.{at-last}
use Rattle.tws_reader.proofs.Readability.{readable_or_not}
use Rattle.archive_theorem.proofs.Claim_Invariant.{AreBest, first-best}
use Rattle.archive_theorem.proofs.Server_Merges.{best-taken}
use Rattle.archive_theorem.proofs.Headline_Remains.{TakesOrRemain, event-takes}
use Rattle.archive_theorem.proofs.Headline_Collections.{step-best}

-- ---- the collections that a file makes

-- a file can be merged into a collection
joined : (file : File) (old : Collected) → (new : Collected) × IsFileMerge file old new
joined file old =
    let entries = old.entries ++ solutions_of old.ruleset (file ∷ []) in
    (record { «ruleset» = old.ruleset; entries = best_of entries }, record { rules = refl; best = best_of_is entries })

-- into the collection of its ruleset
own_merged : (rules : Ruleset) (file : File) (old : Maps) → (new : Maps) × MergesIntoOwn rules file old new
own_merged Lynx file old = let j = joined file old.lynx in (record { lynx = j.0; ms = old.ms }, (j.1, refl))
own_merged Ms file old = let j = joined file old.ms in (record { lynx = old.lynx; ms = j.0 }, (j.1, refl))

-- a text can be merged, readable or not
merged_by : (bytes : List ℕ) (old : Maps) → IsReadable bytes ⊎ (IsReadable bytes → ⊥) → (new : Maps) × IsMerged bytes old new
merged_by bytes old (inl readable) =
    let file = readable.0 in
    let j = own_merged file.ruleset file old in (
      j.0,
      record {
        readable = λ f is. subst (λ (g : File). MergesIntoOwn g.ruleset g old j.0) (one_file bytes file f readable.1 is) j.1;
        unreadable = λ never. absurd (never readable.0 readable.1);
      },
    )
merged_by bytes old (inr never) =
    (old, record { readable = λ f is. absurd (never (f, is)); unreadable = λ none. refl })

-- any bytes can be merged into any collections
pub merged-of : (bytes : List ℕ) (old : Maps) → (new : Maps) × IsMerged bytes old new
merged-of bytes old = merged_by bytes old (readable_or_not bytes)

-- ---- a step

-- a file that was taken has made the collections
abbrev MergesTo : (w v : World) → Type 0
MergesTo w v = (t : Taken) → v.taken ≡ w.taken ++ t ∷ [] → IsMerged t.file w.server.maps v.server.maps

pub not_more : {P : Type 0} (ts : List Taken) (t : Taken) → ts ≡ ts ++ t ∷ [] → P
not_more ts t e = let more = ap length e ∙ length-append ts (t ∷ []) in absurd (omega arith)

pub one_last : (ts : List Taken) (t u : Taken) → ts ++ t ∷ [] ≡ ts ++ u ∷ [] → t ≡ u
one_last ts t u e =
    let both : Some t ≡ Some u = sym (at-last ts t) ∙ ap (λ (l : List Taken). slice_get l (length ts)) e ∙ at-last ts u in
    cc

-- for each step there are collections that its file makes
maps_for : (w : World) (Granted : Type 0) (v : Maps → World) → TakesOrRemain Granted w v → (maps : Maps) × MergesTo w (v maps)
maps_for w Granted v (inl remain) =
    let maps = w.server.maps in
    let taken : (v maps).taken ≡ w.taken = ap (λ (x : World). x.taken) (remain.2 maps) ∙ remain.1.0 in
    (maps, λ t e. not_more w.taken t (sym taken ∙ e))
maps_for w Granted v (inr takes) =
    let new = merged-of takes.0.file w.server.maps in
    let after = takes.1 new.0 in
    let merged : IsMerged takes.0.file w.server.maps (v new.0).server.maps = subst (IsMerged takes.0.file w.server.maps) (sym after.1) new.1 in
    (new.0, λ t e. subst (λ (u : Taken). IsMerged u.file w.server.maps (v new.0).server.maps) (one_last w.taken takes.0 t (sym after.0 ∙ e)) merged)

-- and for the same files there are no others
one_maps : (taken : List Taken) (m n : Maps) → AreBest taken m → AreBest taken n → m ≡ n
one_maps taken m n first second =
    let make : Collected → Collected → Maps = λ x y. record { lynx = x; ms = y } in
    let lynx : m.lynx ≡ n.lynx = one_collection Lynx _ m.lynx n.lynx first.lynx second.lynx in
    let ms : m.ms ≡ n.ms = one_collection Ms _ m.ms n.ms first.ms second.ms in
    let whole : make m.lynx m.ms ≡ make n.lynx n.ms = cc in
    whole

-- so a step leads to one world
one_after : (w : World) (Granted : Type 0) (v : Maps → World) (m n : Maps) → TakesOrRemain Granted w v → AreBest w.taken w.server.maps →
    MergesTo w (v m) → MergesTo w (v n) → v m ≡ v n
one_after w Granted v m n (inl remain) best first second = remain.2 m ∙ sym (remain.2 n)
one_after w Granted v m n (inr takes) best first second =
    let t = takes.0 in
    let at : (x : Maps) → MergesTo w (v x) → AreBest (w.taken ++ t ∷ []) x =
    λ x merged. let after = takes.1 x in best-taken w.taken t w.server.maps x best (subst (IsMerged t.file w.server.maps) after.1 (merged t after.0)) in
    ap v (one_maps (w.taken ++ t ∷ []) m n (at m first) (at n second))

-- ---- a run

-- for any events and grants there are steps that merge each file
total_from : (asked : List (Event × Grant)) (w : World) → (steps : List WorldStep) × (asked_by steps ≡ asked) × AllMerged steps w
total_from [] w = ([], refl, tt)
total_from (a ∷ asked) w =
    let maps = maps_for w _ (λ m. event_happens a.0 a.1 m w) (event-takes w a.0 a.1) in
    let s : WorldStep = record { event = a.0; grant = a.1; maps = maps.0 } in
    let rest = total_from asked (happens s w) in
    (s ∷ rest.0, ap (λ (l : List (Event × Grant)). a ∷ l) rest.1, (maps.1, rest.2))

-- for any events and grants there is a run
pub run-total : (o : Origin) (asked : List (Event × Grant)) → (r : RunFrom o) × (asked_by r.steps ≡ asked)
run-total o asked = let steps = total_from asked (first_world o) in (record { steps = steps.0; merged = steps.2 }, steps.1)

-- two steps with the same event and grant lead to one world
one_step : (w : World) (x y : WorldStep) → x.event ≡ y.event → x.grant ≡ y.grant → AreBest w.taken w.server.maps →
    MergesTo w (happens x w) → MergesTo w (happens y w) → happens x w ≡ happens y w
one_step w x y event grant best first second =
    let moved : happens y w ≡ event_happens x.event x.grant y.maps w =
    ap (λ (e : Event). event_happens e y.grant y.maps w) (sym event) ∙ ap (λ (g : Grant). event_happens x.event g y.maps w) (sym grant) in
    one_after w _ (λ m. event_happens x.event x.grant m w) x.maps y.maps (event-takes w x.event x.grant) best first (subst (MergesTo w) moved second)
    ∙ sym moved

first_pair : (e f : Event) (g h : Grant) (xs ys : List (Event × Grant)) → (e, g) ∷ xs ≡ (f, h) ∷ ys → (e ≡ f) × (g ≡ h) × (xs ≡ ys)
first_pair e f g h xs ys same =
    let rest : xs ≡ ys = cc in
    let make : Event → Grant → Event × Grant = λ x y. (x, y) in
    let pair : make e g ≡ make f h = cc in
    (ap (λ (p : Event × Grant). p.0) pair, ap (λ (p : Event × Grant). p.1) pair, rest)

-- steps with the same events and grants lead to one world
one_from : (xs ys : List WorldStep) (w : World) → asked_by xs ≡ asked_by ys → AllMerged xs w → AllMerged ys w →
    AreBest w.taken w.server.maps → run_from xs w ≡ run_from ys w
one_from [] [] w same first second best = refl
one_from [] (y ∷ ys) w same first second best = absurd cc
one_from (x ∷ xs) [] w same first second best = absurd cc
one_from (x ∷ xs) (y ∷ ys) w same first second best =
    let parts = first_pair x.event y.event x.grant y.grant (asked_by xs) (asked_by ys) same in
    let now : happens x w ≡ happens y w = one_step w x y parts.0 parts.1 best first.0 second.0 in
    one_from xs ys (happens x w) parts.2 first.1 (subst (AllMerged ys) (sym now) second.1) (step-best w x first.0 best)
    ∙ ap (run_from ys) now

-- for any events and grants there is at most one run
pub run-one : (o : Origin) (r s : RunFrom o) → asked_by r.steps ≡ asked_by s.steps → last_world r ≡ last_world s
run-one o r s same = one_from r.steps s.steps (first_world o) same r.merged s.merged (first-best o)
