use Rattle.std.proofs.Common.{rules, ap, ◌∙◌}
use Rattle.std.specs.BTreeMap.{insert_entry}
use Rattle.tws_best.specs.Best.{key_cmp}
use Rattle.tws_best.proofs.bodies.offer.Goals as goal

pub returns-in-Ok-body_of-clause-enters : goal.returns-in-Ok-body_of-clause-enters
returns-in-Ok-body_of-clause-enters g c =
    ◌∙◌ {b = insert_entry key_cmp c.args.map.now.entries c.args.key c.in-Ok-body_of.body} (search rules) (ap (insert_entry key_cmp c.args.map.now.entries c.args.key) c.in-Ok-body_of.ensures)
