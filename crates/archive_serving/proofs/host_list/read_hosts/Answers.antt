use Rattle.std.proofs.Common.{rules, ap, ◌∙◌, ◌∷◌, [], arith}
use Rattle.std.specs.Option.{option_map_or}
use Rattle.archive_serving.specs.Hosts.{parts_of}
use Rattle.archive_serving.proofs.Listing.{reads_none, reads_more, reads_last, reads_bad, reads_full}
use Rattle.archive_serving.proofs.host_list.read_hosts.Goals as goal

pub loop-place-init : goal.loop-place-init
loop-place-init c = (search rules, reads_none c.args.text.now)

pub returns-in_default-clause-none : goal.returns-in_default-clause-none
returns-in_default-clause-none c = reads_bad _ _ _ _ _ _ c.loop-place.invariant.1 c.cut.ensures c.in_default.ensures.none

pub returns-in_default-others-clause-some : goal.returns-in_default-others-clause-some
returns-in_default-others-clause-some c =
    reads_last _ _ _ _ _ _ c.loop-place.invariant.1 c.loop-place-test.true
    (c.cut.ensures ∙ ap (λ o. c.cut.result.0.now ∷ option_map_or (λ r. parts_of r.now) o []) c.in_default-others.is) c.in-Some.ensures.some

pub loop-place-preserved : goal.loop-place-preserved
loop-place-preserved c = (
  search rules,
  reads_more _ _ _ _ _ _ _ c.loop-place.invariant.1 c.loop-place-test.true
      (c.cut.ensures ∙ ap (λ o. c.cut.result.0.now ∷ option_map_or (λ r. parts_of r.now) o []) c.in-Some-others.is) c.in-Some.ensures.some,
)

pub returns-clause-none : goal.returns-clause-none
returns-clause-none c = reads_full _ _ _ _ c.loop-place.invariant.1 (omega (arith, c.loop-place-test.false))
