use Rattle.std.proofs.Common.{◌++◌, map, subst}
use Rattle.std.specs.List.{Contains}
use Rattle.tws_file.specs.Record.{records_of}
use Rattle.tws_best.specs.Best.{IsBestOf, keyed_body, solved_in}
use Rattle.tws_best.specs.Bodies.{keyed_bodies}
use Rattle.tws_best.proofs.Results.{on_ok}
use Rattle.tws_best.proofs.Taking.{best_moved}
use Rattle.tws_best.proofs.changes.take_records.Goals as goal

pub returns-clause-best : goal.returns-clause-best
returns-clause-best g c =
    let old = keyed_bodies c.args.best.now in
    let solved = solved_in (records_of c.args.records.now) in
    let sorted = map (λ s. keyed_body s.1.now) c.in_ok-solutions.solutions.items in
    let new = keyed_bodies c.take_all.new.best in
    on_ok c.take_all.result
    (λ best. best_moved old solved sorted new c.in_ok-solutions.ensures
    (subst (λ xs. IsBestOf (Contains (old ++ map (λ s. keyed_body s.1.now) xs)) new) c.as_slice.ensures.value best))
    c.take_all.ensures.best
