use Rattle.std.proofs.Common.{List, ap, ◌∙◌}
use Rattle.tws_best.specs.Best.{KeyedBody}
use Rattle.tws_compare.specs.Compare.{best_in}
use Rattle.tws_compare.proofs.Lookups.{two}
use Rattle.tws_compare.proofs.Loading.{loaded}
use Rattle.tws_compare.proofs.sides.Sides.load.Goals as goal

pub returns : goal.returns
returns g c =
    let mine = loaded c.args.mine.now c.in_ok-mine.mine.entries c.in_ok-mine.ensures.best in
    let theirs = loaded c.args.theirs.now c.in_ok-theirs.theirs.entries c.in_ok-theirs.ensures.best in
    ap (λ (es : List KeyedBody). two es c.in_ok-theirs.theirs.entries) mine ∙ ap (two (best_in c.args.mine.now)) theirs
