-- What a run has promised holds in every run that begins with what it has left.
use Rattle.std.proofs.Common.{◌≡◌, ℕ, ◌≤◌, ◌+◌, ◌-◌, List, [], ◌∷◌, ◌++◌, map, take, length, Contains, Some, refl, ap, sym, ◌∙◌, subst, inl, inr, arith, append-nil}
use Rattle.std.proofs.lemmas.List.{map-append, length-map}
use Rattle.std.proofs.Math.Seq.{take-append-add}
use Rattle.tftp_packet.specs.declared.endpoint.Endpoint.{Endpoint}
use Rattle.archive_table.specs.Table.{Maps, Table, Taken, IsMerged, all}
use Rattle.archive_table.specs.Keeper.{Keeping, KeepsMaps}
use Rattle.archive_model.specs.World.{Begun, Got, World, WorldStep, Origin, AreOver, given, first_world, run_from, IsPrefix}
use Rattle.archive_model.specs.Restarts.{AreAlike, LoadsAs}
use Rattle.archive_theorem.specs.Headline.{IsOwn, IsFinishedGet, files_of}
use Rattle.archive_theorem.specs.Durable.{HoldsPromised}
use Rattle.archive_theorem.specs.Traces.{trace_steps}
use Rattle.archive_model.proofs.Places.{IsPrefix-on, length-prefix}
use Rattle.archive_model.proofs.Growing.{run-extends}
use Rattle.archive_theorem.proofs.Claim_Invariant.{AreBest, Holds}
use Rattle.archive_theorem.proofs.Event_Happens.{last-holds}
use Rattle.archive_theorem.proofs.Headline_Begun.{began-by}
use Rattle.archive_theorem.proofs.Keeper_Holds.{holds-promised}
use Rattle.archive_theorem.proofs.Trace_Runs.{trace-makes}
use Rattle.archive_theorem.proofs.Server_Merges.{best-taken}
use Rattle.tws_best.proofs.Collections.{best-collected}
use Rattle.archive_theorem.proofs.Keeper_Runs.{own-ruleset}
use Rattle.archive_theorem.proofs.Keeper_Loads.{step-loads_as}
use Rattle.tws_file.specs.declared.«ruleset».Ruleset.TheVariants.{Lynx, Ms}
use Rattle.archive_running.specs.Archive.{ArchiveRun, world_of}
use Rattle.archive_running.specs.Starts.{StartsFrom, StartsWith, Starts, Follows, at_once, later, FetchesAll, FetchesEarlier}
use Rattle.archive_running.proofs.Run_Moves.{run-mirrors, run-happens, run-merged, run-clients, run-kept}
use Rattle.archive_running.proofs.Keeper_Restarts.{KeptIn, alike-kept}

-- ---- files

-- the texts that a server had at first, as files taken
texts_again : (home : Endpoint) (texts : List (List ℕ)) → files_of (map (given home) texts) ≡ texts
texts_again home [] = refl
texts_again home (x ∷ texts) = ap (λ (l : List (List ℕ)). x ∷ l) (texts_again home texts)

files-prefix : (old new : List Taken) → IsPrefix old new → IsPrefix (files_of old) (files_of new)
files-prefix old new more =
    record { rest = files_of more.rest; is = ap files_of more.is ∙ map-append (λ (t : Taken). t.file) old more.rest }

-- what begins with a list that is no longer begins with it still when it is cut there
prefix-take : (old new : List Taken) (n : ℕ) → IsPrefix old new → length old ≤ n → IsPrefix old (take n new)
prefix-take old new n more within =
    let beyond = n - length old in
    let count : n ≡ length old + beyond = omega arith in
    record {
      rest = take beyond more.rest;
      is = ap (λ (l : List Taken). take n l) more.is ∙ ap (λ (k : ℕ). take k (old ++ more.rest)) count ∙ take-append-add old more.rest beyond;
    }

-- ---- a run of the archive as a run of the world

module _ (o : Origin) (r : ArchiveRun o) where
  abbrev run_steps : List WorldStep
  run_steps = trace_steps r.members (first_world o)

  run_made : run_from run_steps (first_world o) ≡ world_of r
  run_made = trace-makes r.members (first_world o) (run-happens o r)

  -- the invariant holds after it
  run_holds : Holds (world_of r)
  run_holds = subst Holds run_made (last-holds o (record { steps = run_steps; merged = run-merged o r }))

  -- the files taken begin with the first texts
  from_first : IsPrefix (map (given o.home) o.texts) (world_of r).taken
  from_first =
      subst (λ (w : World). IsPrefix (map (given o.home) o.texts) w.taken) run_made (run-extends run_steps (first_world o)).taken

  texts_first : IsPrefix o.texts (files_of r.archive.taken)
  texts_first =
      let files = files-prefix (map (given o.home) o.texts) (world_of r).taken from_first in
      let taken = subst (λ (ts : List Taken). IsPrefix (files_of (map (given o.home) o.texts)) (files_of ts)) (run-mirrors o r).taken files in
      subst (λ (l : List (List ℕ)). IsPrefix l (files_of r.archive.taken)) (texts_again o.home o.texts) taken

  -- the server's collections are the best over the files taken
  pub run-best : AreOver (files_of r.archive.taken) r.archive.server.maps
  run-best =
      let best = subst (λ (s : Table). AreBest (world_of r).taken s.maps) (run-mirrors o r).server run_holds.best in
      subst (λ (ts : List Taken). AreBest ts r.archive.server.maps) (run-mirrors o r).taken best

  -- an operation begins after these texts
  began_after : (b : Begun) → Contains (world_of r).begun b → length o.texts ≤ b.taken
  began_after b among =
      let first = first_world o in
      let by = began-by o run_steps b (subst (λ (w : World). Contains w.begun b) (sym run_made) among) in
      let more = length-prefix first.taken (run_from by.before first).taken (run-extends by.before first).taken in
      let size : length first.taken ≡ length o.texts = length-map o.texts (given o.home) in
      let count : b.taken ≡ length (run_from by.before first).taken = by.counted in
      omega arith

  -- so what a get has fetched is the best over files that begin with these texts
  fetches-texts : (g : Got) → IsOwn (world_of r) g.client → Contains (world_of r).got g → FetchesAll o.texts (world_of r) g
  fetches-texts g own among =
      let all = run-clients o r in
      let f : IsFinishedGet (world_of r).past g = (all.client g.client (all.got g among) own).got g among refl in
      let texts = map (given o.home) o.texts in
      let size : length texts ≡ length o.texts = length-map o.texts (given o.home) in
      let after = began_after f.began f.has_begun in
      let since = f.since in
      let within : length texts ≤ f.opening.taken = omega arith in
      let first = prefix-take texts (world_of r).taken f.opening.taken from_first within in
      record {
        finished = f;
        all = subst (λ (l : List (List ℕ)). IsPrefix l (files_of (take f.opening.taken (world_of r).taken))) (texts_again o.home o.texts)
            (files-prefix texts (take f.opening.taken (world_of r).taken) first);
      }

  -- ---- the start after it

  -- there is such a start anywhere, and what the keeper has is loaded as its collections
  pub starts-from : (home : Endpoint) (log reported : List Keeping) → r.archive.kept ≡ Some log → AreAlike log reported →
      (next : Origin) × (next.home ≡ home) × StartsFrom r next × LoadsAs reported next.maps
  starts-from home log reported kept alike =
      let next : Origin = record { home = home; texts = files_of r.archive.taken; maps = r.archive.server.maps; over = run-best } in
      let has : LoadsAs log r.archive.server.maps = subst (λ k. KeptIn k r.archive.server.maps) kept (run-kept o r) in
      (next, refl, record { texts = refl; maps = refl }, alike-kept log reported r.archive.server.maps alike has)

  -- so is there one with a file more, if that was kept, and its collections are loaded
  pub starts-with : (home : Endpoint) (file : List ℕ) (maps : Maps) (log mid reported : List Keeping) → r.archive.kept ≡ Some log →
      IsMerged file r.archive.server.maps maps → KeepsMaps r.archive.server.maps maps (Some log) (Some mid) → AreAlike mid reported →
      (next : Origin) × (next.home ≡ home) × (next.maps ≡ maps) × StartsWith r next × LoadsAs reported next.maps
  starts-with home file maps log mid reported kept merged keeps alike =
      let t : Taken = given home file in
      let best = best-taken r.archive.taken t r.archive.server.maps maps run-best merged in
      let files : files_of (r.archive.taken ++ t ∷ []) ≡ files_of r.archive.taken ++ file ∷ [] =
      map-append (λ (u : Taken). u.file) r.archive.taken (t ∷ []) in
      let over : AreOver (files_of r.archive.taken ++ file ∷ []) maps = subst (λ (l : List (List ℕ)). AreOver l maps) files best in
      let next : Origin = record { home = home; texts = files_of r.archive.taken ++ file ∷ []; maps = maps; over = over } in
      let has : LoadsAs log r.archive.server.maps = subst (λ k. KeptIn k r.archive.server.maps) kept (run-kept o r) in
      let now : LoadsAs mid maps =
      step-loads_as all (Some t) r.archive.server.maps maps log mid keeps (inl refl) (own-ruleset (r.archive.taken ++ t ∷ []) maps best)
      (best-collected Lynx _ maps.lynx best.lynx) (best-collected Ms _ maps.ms best.ms) has in
      (next, refl, refl, record { file = file; texts = refl; merged = merged }, alike-kept mid reported maps alike now)

-- ---- a chain

-- a start begins with the files of the run
start_files : {o p : Origin} (r : ArchiveRun o) → Starts r p → IsPrefix (files_of r.archive.taken) p.texts
start_files r (inl starts) = record { rest = []; is = starts.texts ∙ sym (append-nil (files_of r.archive.taken)) }
start_files r (inr starts) = record { rest = starts.file ∷ []; is = starts.texts }

-- and so do the files of a run from there
first_files : {o p : Origin} (r : ArchiveRun o) → Starts r p → (files : List (List ℕ)) → IsPrefix p.texts files →
    IsPrefix (files_of r.archive.taken) files
first_files r starts files more = IsPrefix-on (start_files r starts) more

-- so the files of each later run do
pub follows-files : {o p : Origin} {r : ArchiveRun o} {s : ArchiveRun p} → Follows o r p s → IsPrefix (files_of r.archive.taken) (files_of s.archive.taken)
follows-files (at_once {o} {p} {r} {s} starts) = first_files r starts (files_of s.archive.taken) (texts_first p s)
follows-files (later {o} {p} {q} {r} {s} {t} before starts) =
    IsPrefix-on (follows-files before) (first_files s starts (files_of t.archive.taken) (texts_first q t))

-- and what a get has fetched in it
pub follows-fetches : {o p : Origin} {r : ArchiveRun o} {s : ArchiveRun p} → Follows o r p s → FetchesEarlier r s
follows-fetches (at_once {o} {p} {r} {s} starts) g own among =
    let f = fetches-texts p s g own among in
    record { finished = f.finished; all = first_files r starts (files_of (take f.finished.opening.taken (world_of s).taken)) f.all }
follows-fetches (later {o} {p} {q} {r} {s} {t} before starts) g own among =
    let f = fetches-texts q t g own among in
    record {
      finished = f.finished;
      all = IsPrefix-on (follows-files before) (first_files s starts (files_of (take f.finished.opening.taken (world_of t).taken)) f.all);
    }

-- files as if they were taken from the server itself
files_more : (taken : List Taken) (home : Endpoint) (rest : List (List ℕ)) → files_of (taken ++ map (given home) rest) ≡ files_of taken ++ rest
files_more taken home rest =
    map-append (λ (t : Taken). t.file) taken (map (given home) rest) ∙ ap (λ (l : List (List ℕ)). files_of taken ++ l) (texts_again home rest)

-- so its collections hold all that this run has promised
pub follows-promised : {o p : Origin} {r : ArchiveRun o} {s : ArchiveRun p} → Follows o r p s → HoldsPromised (world_of r) s.archive.server.maps
follows-promised {o} {p} {r} {s} follows =
    let w = world_of r in
    let files = follows-files follows in
    let taken = w.taken ++ map (given p.home) files.rest in
    let first : files_of w.taken ≡ files_of r.archive.taken = ap files_of (run-mirrors o r).taken in
    let all : files_of taken ≡ files_of s.archive.taken =
    files_more w.taken p.home files.rest ∙ ap (λ (l : List (List ℕ)). l ++ files.rest) first ∙ sym files.is in
    let best : AreBest taken s.archive.server.maps = subst (λ (l : List (List ℕ)). AreOver l s.archive.server.maps) (sym all) (run-best p s) in
    holds-promised w (run_holds o r) taken s.archive.server.maps (record { rest = map (given p.home) files.rest; is = refl }) best
