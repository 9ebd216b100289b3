use Rattle.std.proofs.Common.{◌≡◌, ◌+◌, ℕ, Bool, cond, ap, arith}
use Rattle.archive_keepers.proofs.Cutting.{counts_all, counts_more, none_not_some}
use Rattle.archive_keepers.proofs.stopping.count_in.Goals as goal

pub loop-body-preserved-then-stops : goal.loop-body-preserved-then-stops
loop-body-preserved-then-stops c =
    let is : ◌≡◌ {A = ℕ} (cond c.stops.result 1 0) 1 = ap (λ (b : Bool). cond b 1 0) c.if-stops.true in
    record {
      few = omega (arith, c.loop-body.invariant.few, c.in-Some.ensures.shorter);
      counts = λ rs fits text.
          counts_more c.loop-body.count (c.loop-body.count + 1) c.loop-body.rest.now c.in-Some.body.now c.in-Some.after.now c.stops.result rs
          (c.loop-body.invariant.counts rs fits text) (λ none. let no = c.in-Some.ensures.none none in cc) c.in-Some.ensures.whole c.stops.ensures (omega (arith, is));
    }

pub loop-body-preserved : goal.loop-body-preserved
loop-body-preserved c =
    let is : ◌≡◌ {A = ℕ} (cond c.stops.result 1 0) 0 = ap (λ (b : Bool). cond b 1 0) c.if-stops.false in
    record {
      few = omega (arith, c.loop-body.invariant.few, c.in-Some.ensures.shorter);
      counts = λ rs fits text.
          counts_more c.loop-body.count c.loop-body.count c.loop-body.rest.now c.in-Some.body.now c.in-Some.after.now c.stops.result rs
          (c.loop-body.invariant.counts rs fits text) (λ none. let no = c.in-Some.ensures.none none in cc) c.in-Some.ensures.whole c.stops.ensures (omega (arith, is));
    }

pub returns : goal.returns
returns c = λ rs fits text.
    counts_all c.loop-body.count c.loop-body.rest.now rs (c.loop-body.invariant.counts rs fits text)
    (λ r more fits_r begins. none_not_some c.first_record.result _ c.in_default.is (c.first_record.ensures.whole r more fits_r begins))
