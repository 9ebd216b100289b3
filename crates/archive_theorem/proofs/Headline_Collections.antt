-- If each file that is taken is merged into the collections, they are the best over the files taken, and so can be
-- kept.
use Rattle.std.proofs.Common.{◌≡◌, ℕ, List, [], ◌∷◌, ◌++◌, sym, subst, inl, inr, append-nil}
use Rattle.std.specs.List.{AllByRecursion}
use Rattle.tws_file.specs.declared.«ruleset».Ruleset.{Ruleset}
use Rattle.tws_file.specs.declared.«ruleset».Ruleset.TheVariants.{Lynx, Ms}
use Rattle.tws_file.specs.Text.{Record, IsRecord}
use Rattle.archive_table.specs.Table.{Maps, Taken, Grant, IsMerged, empty_maps}
use Rattle.archive_model.specs.World.{World, WorldStep, start, happens, run_from, HasMerged, AllMerged, Origin, RunFrom, last_world, first_world}
use Rattle.archive_theorem.proofs.Claim_Invariant.{AreBest, first-best}
use Rattle.archive_theorem.proofs.Server_Merges.{best-taken}
use Rattle.archive_theorem.proofs.Headline_Remains.{StepTakes, step-takes}

-- ---- a run

-- a step that takes a file, or none
step_by : (w v : World) (Granted : Type 0) → ((t : Taken) → v.taken ≡ w.taken ++ t ∷ [] → IsMerged t.file w.server.maps v.server.maps) →
    StepTakes Granted w v → AreBest w.taken w.server.maps → AreBest v.taken v.server.maps
step_by w v Granted merged (inl remain) best =
    subst (λ (m : Maps). AreBest v.taken m) (sym remain.1) (subst (λ (ts : List Taken). AreBest ts w.server.maps) (sym remain.0) best)
step_by w v Granted merged (inr takes) best =
    subst (λ (ts : List Taken). AreBest ts v.server.maps) (sym takes.1)
    (best-taken w.taken takes.0 w.server.maps v.server.maps best (merged takes.0 takes.1))

-- after a step the collections are the best over the files taken
pub step-best : (w : World) (s : WorldStep) → HasMerged s w → AreBest w.taken w.server.maps → AreBest (happens s w).taken (happens s w).server.maps
step-best w s merged best = step_by w (happens s w) _ merged (step-takes w s) best

-- after any steps the collections are the best over the files taken
pub run_from-best : (steps : List WorldStep) (w : World) → AllMerged steps w → AreBest w.taken w.server.maps →
    AreBest (run_from steps w).taken (run_from steps w).server.maps
run_from-best [] w merged best = best
run_from-best (s ∷ steps) w merged best = run_from-best steps (happens s w) merged.1 (step-best w s merged.0 best)

-- after any run the collections are the best over the files taken
pub last-best : (o : Origin) (r : RunFrom o) → AreBest (last_world r).taken (last_world r).server.maps
last-best o r = run_from-best r.steps (first_world o) r.merged (first-best o)
