-- What was taken, sent and fetched is in all later collections, and so in what a load gives.
use Rattle.std.proofs.Common.{◌≡◌, ℕ, zero, suc, List, [], ◌∷◌, ◌++◌, Contains, slice_get, Some, take, drop, refl, ap, sym, ◌∙◌, subst, inl, inr, take-append-drop}
use Rattle.std.proofs.lemmas.List.{map-append}
use Rattle.std.proofs.lemmas.List.Elements.{Contains-append_left}
use Rattle.tftp_packet.specs.declared.endpoint.Endpoint.{Endpoint}
use Rattle.tws_file.specs.declared.key.Key.{Key}
use Rattle.tws_file.specs.declared.«ruleset».Ruleset.{Ruleset}
use Rattle.tws_file.specs.declared.«ruleset».Ruleset.TheVariants.{Lynx, Ms}
use Rattle.tws_file.specs.Text.{File, IsText}
use Rattle.tws_file.proofs.FileText.{one_file}
use Rattle.tws_best.specs.Best.{KeyedBody, Collected, IsCollected, HasBody, IsCollectionOf, IsSolutionIn, collection_text, solved_by, solutions_of, IsBestOver}
use Rattle.tws_best.specs.Steps.{IsHeld}
use Rattle.tws_best.proofs.Bests.{held_by_best}
use Rattle.tws_best.proofs.Members.{Contains-none}
use Rattle.tws_best.proofs.Texts.{file_from, is_text, file_solves, file_rules}
use Rattle.archive_table.specs.Table.{Maps, Taken, map_of}
use Rattle.archive_table.specs.Keeper.{Keeping}
use Rattle.archive_client.specs.Client.{put}
use Rattle.archive_model.specs.World.{Begun, Got, WorldStep, World, Origin, RunFrom, first_world, last_world, run_from, happens, HasMerged, AllMerged, IsPrefix}
use Rattle.archive_theorem.specs.Headline.{IsOwn, files_of}
use Rattle.archive_model.specs.Restarts.{HasKept, RunKeeps, LoadsAs}
use Rattle.archive_theorem.specs.Durable.{HasNoWorse, AreNoWorse, HoldsFile, HoldsPromised, LoadsPromised, CutsShort}
use Rattle.archive_model.proofs.Places.{Has, IsPrefix-same, IsPrefix-on, Has-contains, Has-from_contains, Has-prefix}
use Rattle.archive_theorem.proofs.Claim_Owns.{one_operation}
use Rattle.archive_theorem.proofs.Claim_Invariant.{AreBest, Holds, first-holds}
use Rattle.tws_best.proofs.Collections.{best-collected}
use Rattle.archive_theorem.proofs.Headline_Remains.{step-takes}
use Rattle.archive_theorem.proofs.Event_Happens.{merged-first, step-holds, run_from-holds, last-holds}
use Rattle.archive_theorem.proofs.Keeper_Loads.{loads-the_same, loads-as}
use Rattle.archive_theorem.proofs.Keeper_Runs.{own-ruleset, maps-are, has-kept, last-loads, step-loads}
use Rattle.archive_model.proofs.Growing.{step-extends, end-extends}

-- ---- one collection

-- each collection is the best over the files taken
pub best_at : (taken : List Taken) (maps : Maps) (rules : Ruleset) → AreBest taken maps → IsCollectionOf rules (files_of taken) (map_of rules maps)
best_at taken maps Lynx best = best.lynx
best_at taken maps Ms best = best.ms

-- a solution of a text among the files has a body that is no worse
solution_held : (taken : List Taken) (maps : Maps) (rules : Ruleset) (e : KeyedBody) → AreBest taken maps →
    IsSolutionIn rules (files_of taken) e → HasNoWorse (map_of rules maps) e
solution_held taken maps rules e best member =
    let c = map_of rules maps in
    let h : IsHeld (Contains c.entries) e = held_by_best (IsSolutionIn rules (files_of taken)) c.entries (best_at taken maps rules best).best e member in
    record { body = h.holder.body; has = subst (λ (k : Key). HasBody c.entries k h.holder.body) h.same h.member; no_worse = h.no_worse }

-- a solution among the first files is one among all
solution_later : (old new : List Taken) (rules : Ruleset) (e : KeyedBody) → IsPrefix old new → IsSolutionIn rules (files_of old) e →
    IsSolutionIn rules (files_of new) e
solution_later old new rules e more s =
    let all : files_of new ≡ files_of old ++ files_of more.rest = ap files_of more.is ∙ map-append (λ (t : Taken). t.file) old more.rest in
    record {
      text = s.text;
      among = subst (λ (texts : List (List ℕ)). Contains texts s.text) (sym all) (Contains-append_left (files_of old) (files_of more.rest) s.text s.among);
      file = s.file;
      is_text = s.is_text;
      present = s.present;
    }

at_files : (ts : List Taken) (i : ℕ) (t : Taken) → slice_get ts i ≡ Some t → slice_get (files_of ts) i ≡ Some t.file
at_files [] i t is = absurd cc
at_files (u ∷ ts) zero t is = let same : u ≡ t = cc in ap (λ (x : Taken). Some x.file) same
at_files (u ∷ ts) (suc i) t is = at_files ts i t is

file_among : (ts : List Taken) (t : Taken) → Has ts t → Contains (files_of ts) t.file
file_among ts t has = Has-contains (files_of ts) t.file (record { position = has.position; is = at_files ts has.position t has.is })

-- each file that was taken is in the collections
file_held : (taken : List Taken) (maps : Maps) → AreBest taken maps → (t : Taken) → Has taken t → HoldsFile maps t.file
file_held taken maps best t has f is rules e present =
    solution_held taken maps rules e best (record { text = t.file; among = file_among taken t has; file = f; is_text = is; present = present })

-- ---- a collection that was fetched

-- a file of one ruleset has no solutions of the other
own_entries : (rules named : Ruleset) (f : File) (e : KeyedBody) → f.ruleset ≡ named → Contains (solutions_of rules (f ∷ [])) e → rules ≡ named
own_entries Lynx Lynx f e is present = refl
own_entries Ms Ms f e is present = refl
own_entries Lynx Ms f e is present =
    absurd (Contains-none e (subst (λ (r : Ruleset). Contains (solved_by Lynx r f.records ++ []) e) is present))
own_entries Ms Lynx f e is present =
    absurd (Contains-none e (subst (λ (r : Ruleset). Contains (solved_by Ms r f.records ++ []) e) is present))

-- the solutions of a collection's text are its entries
entry_of_text : (c : Collected) (fits : IsCollected c) (f : File) → IsText (collection_text c) f → (rules : Ruleset) (e : KeyedBody) →
    Contains (solutions_of rules (f ∷ [])) e → (rules ≡ c.ruleset) × Contains c.entries e
entry_of_text c fits f is rules e present =
    let one : f ≡ file_from c fits = one_file (collection_text c) f (file_from c fits) is (is_text c fits) in
    let there : Contains (solutions_of rules (file_from c fits ∷ [])) e = subst (λ (g : File). Contains (solutions_of rules (g ∷ [])) e) one present in
    let same : rules ≡ c.ruleset = own_entries rules c.ruleset (file_from c fits) e (file_rules c fits) there in
    let own : Contains (solutions_of c.ruleset (file_from c fits ∷ [])) e =
    subst (λ (r : Ruleset). Contains (solutions_of r (file_from c fits ∷ [])) e) same there in
    (same, subst (λ (es : List KeyedBody). Contains es e) (file_solves c fits) own)

-- what was fetched is in later collections
text_held : (first taken : List Taken) (maps : Maps) (rules : Ruleset) (text : List ℕ) → AreBest taken maps →
    IsBestOver rules (files_of first) text → IsPrefix first taken → HoldsFile maps text
text_held first taken maps rules text best over more f is named e present =
    let c = over.0 in
    let fits = best-collected rules (files_of first) c over.1 in
    let there = entry_of_text c fits f (subst (λ (x : List ℕ). IsText x f) over.2 is) named e present in
    let same : rules ≡ named = sym over.1.ruleset_is ∙ sym there.0 in
    let member : IsSolutionIn named (files_of first) e = subst (λ (r : Ruleset). IsSolutionIn r (files_of first) e) same (over.1.best.best e there.1).member in
    solution_held taken maps named e best (solution_later first taken named e more member)

-- the first files taken are the start of all
pub first_prefix : (n : ℕ) (ts : List Taken) → IsPrefix (take n ts) ts
first_prefix n ts = record { rest = drop n ts; is = sym (take-append-drop n ts) }

-- ---- a world, and the collections of a later one

module _ (w : World) (h : Holds w) (taken : List Taken) (maps : Maps) (more : IsPrefix w.taken taken) (best : AreBest taken maps) where
  -- these collections are no worse than the world's
  pub none-worse : AreNoWorse w.server.maps maps
  none-worse rules e has =
      let member = ((best_at w.taken w.server.maps rules h.best).best.best e has).member in
      solution_held taken maps rules e best (solution_later w.taken taken rules e more member)

  -- they have each file that was taken
  taken_held : (t : Taken) → Has w.taken t → HoldsFile maps t.file
  taken_held t has = file_held taken maps best t (Has-prefix w.taken taken t more has)

  operation_file : (file other : List ℕ) → put file ≡ put other → file ≡ other
  operation_file file other e = cc

  -- they have each file that counts as sent
  sent_held : (e : Endpoint) → IsOwn w e → Contains w.sent e → (b : Begun) (file : List ℕ) → Contains w.begun b → b.client ≡ e →
      b.operation ≡ put file → HoldsFile maps file
  sent_held e own sent b file among mine puts =
      let s = h.sent e (Has-from_contains w.sent e sent) in
      let there = s.is_taken own in
      let one =
      one_operation w.past e own b (record { client = e; operation = put s.file; taken = s.began.count }) (Has-from_contains w.begun b among)
      s.began.among mine refl in
      let same : s.file ≡ file = operation_file s.file file (sym (ap (λ (x : Begun). x.operation) one) ∙ puts) in
      subst (HoldsFile maps) same (taken_held (record { peer = e; file = s.file }) there.among)

  -- they have what was fetched
  got_held : (g : Got) → IsOwn w g.client → Contains w.got g → HoldsFile maps g.file
  got_held g own among =
      let is = h.got g (Has-from_contains w.got g among) in
      let s = (is.whose own).serves in
      let first = take s.count w.taken in
      text_held first taken maps is.rules g.file best s.is_text.best (IsPrefix-on (first_prefix s.count w.taken) more)

  -- so they have all that was promised
  pub holds-promised : HoldsPromised w maps
  holds-promised =
      record {
        taken = λ t among. taken_held t (Has-from_contains w.taken t among);
        sent = sent_held;
        got = got_held;
      }

-- ---- a run

-- what a later world has kept holds what an earlier one has promised
loads_later : (w : World) (steps : List WorldStep) (v : World) (log : List Keeping) → Holds (run_from steps w) →
    IsPrefix (run_from steps w).taken v.taken → AreBest v.taken v.server.maps → LoadsAs log v.server.maps → LoadsPromised w steps log
loads_later w steps v log h more best loads lynx ms from_lynx from_ms =
    let same = loads-as log v.server.maps loads lynx ms from_lynx from_ms in
    subst (HoldsPromised (run_from steps w)) (maps-are lynx ms v.server.maps same.0 same.1)
    (holds-promised (run_from steps w) h v.taken v.server.maps more best)

module _ (o : Origin) (r : RunFrom o) where
  -- no steps make a collection worse
  pub never-worse : (before after : List WorldStep) → r.steps ≡ before ++ after →
      AreNoWorse (run_from before (first_world o)).server.maps (last_world r).server.maps
  never-worse before after split =
      let first = first_world o in
      let w = run_from before first in
      let v = run_from (before ++ after) first in
      let merged = subst (λ (l : List WorldStep). AllMerged l first) split r.merged in
      let h = run_from-holds before first (first-holds o) (merged-first before after first merged) in
      let worse =
      none-worse w h v.taken v.server.maps (end-extends before after first).taken (run_from-holds (before ++ after) first (first-holds o) merged).best in
      subst (λ (l : List WorldStep). AreNoWorse w.server.maps (run_from l first).server.maps) (sym split) worse

  module _ (log : List Keeping) (loads : LoadsAs log o.maps) where
    -- what a keeper loads after it has all that was promised
    pub loads-promised : (last : List Keeping) → RunKeeps r.steps (first_world o) log last → LoadsPromised (first_world o) r.steps last
    loads-promised last keeps =
        let h = last-holds o r in
        loads_later (first_world o) r.steps (last_world r) last h (IsPrefix-same (last_world r).taken) h.best (last-loads o r log last keeps loads)

    -- if a crash cuts the next step short, what is then loaded has all that was promised
    pub cut-promised : (s : WorldStep) (before last : List Keeping) → HasMerged s (last_world r) → RunKeeps r.steps (first_world o) log before →
        CutsShort (first_world o) r.steps s before last → LoadsPromised (first_world o) r.steps last
    cut-promised s before last merged keeps (after, by, inl early) =
        subst (LoadsPromised (first_world o) r.steps) (sym early) (loads-promised before keeps)
    cut-promised s before last merged keeps (after, by, inr late) =
        let w = last_world r in
        let v = happens s w in
        let h = last-holds o r in
        let best = (step-holds w s h merged).best in
        let now = step-loads w s before after best by (last-loads o r log before keeps loads) in
        subst (LoadsPromised (first_world o) r.steps) (sym late) (loads_later (first_world o) r.steps v after h (step-extends w s).taken best now)
