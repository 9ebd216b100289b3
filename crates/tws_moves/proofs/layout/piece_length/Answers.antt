use Rattle.std.proofs.Common.{◌≡◌, ℕ, ◌%◌, ◌<◌, eqb, true, get_or, refl, ◌∙◌, ap}
use Rattle.std.proofs.lemmas.Bool.{agree_below_at, eqb-true}
use Rattle.tws_moves.specs.declared.layout.TheConstants.{LENGTHS}
use Rattle.tws_moves.specs.Spelling.{piece_length}
use Rattle.tws_moves.proofs.layout.piece_length.Goals as goal

-- the table has the length of each piece
lengths_are : (first : ℕ) → first < 256 → get_or LENGTHS (first % 32) 0 ≡ piece_length first
lengths_are first small = eqb-true _ _ (agree_below_at (λ b. eqb (get_or LENGTHS (b % 32) 0) (piece_length b)) (λ b. true) 256 first refl small)

pub returns-else-first-lt2 : goal.returns-else-first-lt2
returns-else-first-lt2 c =
    c.from-else-first-lt2.ensures
    ∙ ap (λ i. get_or LENGTHS i 0) c.from.ensures
    ∙ lengths_are c.args.first c.ranges.first.fits
