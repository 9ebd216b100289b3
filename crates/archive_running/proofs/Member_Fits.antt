-- Members that may happen, one after another.
use Rattle.std.proofs.Common.{◌≡◌, List, [], ◌∷◌, ◌++◌, refl, sym, subst}
use Rattle.archive_model.specs.World.{World, run_from, AllMayHappen}
use Rattle.archive_theorem.specs.Traces.{Member, after_deed, trace_from, member_steps, trace_steps, DeedMerged, AllDeedsMerged}
use Rattle.archive_theorem.proofs.Event_Happens.{may-append}
use Rattle.archive_theorem.proofs.Trace_Runs.{deed_fits}

-- the events of a member may happen, and the file that it takes makes the collections after it
pub record Fits (m : Member) (w : World) : Type 0 where
  pub may : AllMayHappen (member_steps m w) w
  pub merged : DeedMerged m w

-- the same for members one after another
abbrev pub AllFit : List Member → World → Type 0
AllFit [] w = Unit {0}
AllFit (m ∷ ms) w = Fits m w × AllFit ms (after_deed m.deed m.grant m.maps w)

pub trace-append : (xs ys : List Member) (w : World) → trace_from (xs ++ ys) w ≡ trace_from ys (trace_from xs w)
trace-append [] ys w = refl
trace-append (x ∷ xs) ys w = trace-append xs ys (after_deed x.deed x.grant x.maps w)

-- two parts that may happen, one after the other
pub fit-append : (xs ys : List Member) (w : World) → AllFit xs w → AllFit ys (trace_from xs w) → AllFit (xs ++ ys) w
fit-append [] ys w first rest = rest
fit-append (x ∷ xs) ys w first rest =
    (first.0, fit-append xs ys (after_deed x.deed x.grant x.maps w) first.1 rest)

-- if members may happen, the events of all of them may
pub all-may : (ms : List Member) (w : World) → AllFit ms w → AllMayHappen (trace_steps ms w) w
all-may [] w fit = tt
all-may (m ∷ ms) w fit =
    let steps = member_steps m w in
    let made : run_from steps w ≡ after_deed m.deed m.grant m.maps w = deed_fits w m.deed m.grant m.maps fit.0.may in
    may-append steps (trace_steps ms (run_from steps w)) w fit.0.may
    (subst (λ (v : World). AllMayHappen (trace_steps ms v) v) (sym made) (all-may ms (after_deed m.deed m.grant m.maps w) fit.1))

-- if members may happen, each file that is taken makes the collections after it
pub all-merged : (ms : List Member) (w : World) → AllFit ms w → AllDeedsMerged ms w
all-merged [] w fit = tt
all-merged (m ∷ ms) w fit = (fit.0.merged, all-merged ms (after_deed m.deed m.grant m.maps w) fit.1)
