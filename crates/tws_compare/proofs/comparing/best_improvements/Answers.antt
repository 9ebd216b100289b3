use Rattle.tws_compare.proofs.Loading.{better_is, if_ok_both}
use Rattle.tws_compare.proofs.comparing.best_improvements.Goals as goal

pub returns-clause-better : goal.returns-clause-better
returns-clause-better g c =
    if_ok_both c.load-3.result
    (λ found best rules. better_is c.args.mine c.args.theirs.now c.only_improvements.result c.in_ok-sides.sides found c.in_ok-sides.ensures
    c.only_improvements.ensures rules best)
    c.load-3.ensures.best c.load-3.ensures.rules
