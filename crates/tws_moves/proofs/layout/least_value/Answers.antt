use Rattle.std.proofs.Common.{◌≡◌, ℕ, ◌%◌, ◌<◌, eqb, true, get_or, refl, ◌∙◌, ap}
use Rattle.std.proofs.lemmas.Bool.{agree_below_at, eqb-true}
use Rattle.tws_moves.specs.declared.layout.TheConstants.{LEAST}
use Rattle.tws_moves.specs.Steps.{least_value}
use Rattle.tws_moves.proofs.layout.least_value.Goals as goal

-- the table has the least value of each piece
values_are : (first : ℕ) → first < 256 → get_or LEAST (first % 32) 0 ≡ least_value first
values_are first small = eqb-true _ _ (agree_below_at (λ b. eqb (get_or LEAST (b % 32) 0) (least_value b)) (λ b. true) 256 first refl small)

pub returns : goal.returns
returns c = ap (λ i. get_or LEAST i 0) c.from.ensures ∙ values_are c.args.first c.ranges.first.fits
