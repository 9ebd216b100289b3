use Rattle.std.proofs.Common.{List, take, map, ◌++◌, ◌∷◌, [], ◌∙◌, ap, sym, subst, length, append-nil, append_assoc}
use Rattle.std.proofs.lemmas.List.{take_all}
use Rattle.std.specs.List.{Contains}
use Rattle.tws_best.specs.Best.{KeyedBody, IsBestOf, keyed_body}
use Rattle.tws_best.specs.Bodies.{keyed_bodies}
use Rattle.tws_best.specs.Steps.{IsTaken}
use Rattle.tws_best.proofs.Solved.{mapped_more}
use Rattle.tws_best.proofs.Taking.{taken_more}
use Rattle.tws_best.proofs.Merges.{taken_so_far, leads_on, best_since}
use Rattle.tws_best.proofs.changes.take_all.Goals as goal

pub loop-solution-init : goal.loop-solution-init
loop-solution-init g c = record {
  taken = λ first before t. subst (λ (es : List KeyedBody). IsTaken first es c.args.best.now (length c.args.done.now.items)) (sym (append-nil before)) t;
  undo = λ first u. u;
}

pub returns-in_err-take-clause-undo : goal.returns-in_err-take-clause-undo
returns-in_err-take-clause-undo g c = λ first u. c.take.ensures.undo first (c.loop-solution.invariant.undo first u)

pub loop-solution-preserved : goal.loop-solution-preserved
loop-solution-preserved g c =
    let i = c.loop-solution.solution-index in
    let solutions = c.args.solutions.now in
    let so_far = map (λ s. keyed_body s.1.now) (take i solutions) in
    let item = c.loop-solution-item.result in
    let more = mapped_more (λ s. keyed_body s.1.now) solutions i item c.loop-solution-test.true c.loop-solution-item.is in
    let now = c.loop-solution in
    record {
      taken = λ first before t.
          subst (λ (es : List KeyedBody). IsTaken first es c.take.new.best (length c.take.new.done.items))
          (append_assoc before so_far (keyed_body item.1.now ∷ []) ∙ ap (λ (es : List KeyedBody). before ++ es) (sym more))
          (taken_more first (before ++ so_far) (keyed_body item.1.now) now.best c.take.new.best
          (length now.done.items) (length c.take.new.done.items)
          (now.invariant.taken first before t) c.in_ok-take.ensures.ok);
      undo = λ first u. c.take.ensures.undo first (now.invariant.undo first u);
    }

pub returns-clause-best : goal.returns-clause-best
returns-clause-best g c =
    let first = c.requires.leads.0 in
    let l = c.requires.leads.1 in
    let was = taken_so_far first c.args.done.now.items c.args.best.now l in
    let now = c.loop-solution in
    let solutions = c.args.solutions.now in
    let so_far = map (λ s. keyed_body s.1.now) (take now.solution-index solutions) in
    let whole = ap (map (λ s. keyed_body s.1.now)) (take_all now.solution-index solutions c.loop-solution-test.false) in
    subst (λ (es : List KeyedBody). IsBestOf (Contains (keyed_bodies c.args.best.now ++ es)) (keyed_bodies now.best)) whole
    (best_since first l.solved so_far c.args.best.now now.best (length c.args.done.now.items) (length now.done.items) was (now.invariant.taken first l.solved was))

pub returns-clause-leads : goal.returns-clause-leads
returns-clause-leads g c = λ first l.
    let now = c.loop-solution in
    let was = taken_so_far first c.args.done.now.items c.args.best.now l in
    leads_on first _ now.done.items now.best l.collected (now.invariant.undo first l.undo) (now.invariant.taken first l.solved was)
