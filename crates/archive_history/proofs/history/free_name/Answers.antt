use Rattle.std.proofs.Common.{ℕ, List, None, Some, Ok, ap, ◌∙◌, subst, arith}
use Rattle.std.specs.Prelude.{string_bytes}
use Rattle.folders.proofs.Steps.{stays_then}
use Rattle.archive_history.specs.History.{numbered}
use Rattle.archive_history.proofs.Recording.{below_next}
use Rattle.archive_history.proofs.history.free_name.Goals as goal

pub returns-in-Ok-false-clause-free : goal.returns-in-Ok-false-clause-free
returns-in-Ok-false-clause-free g c = λ modelled.
    (c.loop-number.invariant.same modelled (string_bytes c.in_ok-name.name)).possible.now None
    (subst (λ (name : List ℕ). g.F.Folder.model.reads c.loop-number.folder name None) c.as_str.ensures.value
    (c.contains.ensures.free modelled (c.in-Ok-false.is ∙ ap Ok c.in-Ok-false.field-0-test)))

pub returns-in-Ok-false-clause-same : goal.returns-in-Ok-false-clause-same
returns-in-Ok-false-clause-same g c = λ modelled other. stays_then (c.loop-number.invariant.same modelled other) (c.contains.ensures.all modelled other)

pub returns-in-Err-clause-same : goal.returns-in-Err-clause-same
returns-in-Err-clause-same g c = λ modelled other. stays_then (c.loop-number.invariant.same modelled other) (c.contains.ensures.all modelled other)

pub loop-number-preserved : goal.loop-number-preserved
loop-number-preserved g c = record {
  same = λ modelled other. stays_then (c.loop-number.invariant.same modelled other) (c.contains.ensures.all modelled other);
  used = λ modelled.
      let reads = g.F.Folder.model.reads in
      let found = c.contains.ensures.used modelled (c.in-Ok-true.is ∙ ap Ok c.in-Ok-true.field-0-test) in
      let named = subst (λ (name : List ℕ). reads c.loop-number.folder name (Some found.0)) (c.as_str.ensures.value ∙ c.in_ok-name.ensures) found.1 in
      below_next (λ (k : ℕ). (text : List ℕ) × reads c.args.folder.now (numbered c.args.stem.now k) (Some text)) c.loop-number.number (c.loop-number.invariant.used modelled)
      (found.0, (c.loop-number.invariant.same modelled (numbered c.args.stem.now c.loop-number.number)).possible.now (Some found.0) named);
  more = omega (arith, c.loop-number.invariant.more, c.contains.ensures.more);
}
