use Rattle.std.proofs.Common.{sym, rules, ◌≢◌, ◌∙◌, eq-eqb, length}
use Rattle.tws_file.specs.Fields.{set_key}
use Rattle.archive_keepers.proofs.Cutting.{short_passes, set_passes, still_stops, moving_stops}
use Rattle.archive_keepers.proofs.stopping.stops.Goals as goal

pub returns-then-body-lt16 : goal.returns-then-body-lt16
returns-then-body-lt16 c = λ r fits is. sym (short_passes c.args.body.now c.if-body-lt16.true r fits is)

pub returns-then-is_level_set : goal.returns-then-is_level_set
returns-then-is_level_set c = λ r fits is.
    sym (set_passes c.args.body.now c.read_key-key.result c.read_key-key.ensures.fits c.read_key-key.ensures.bytes (c.is_level_set.ensures.0 (search rules)) r fits is)

pub returns-then-body-eq16 : goal.returns-then-body-eq16
returns-then-body-eq16 c = λ r fits is.
    let named : c.read_key-key.result ≢ set_key = λ same. search (rules, c.is_level_set.ensures.1 same) in
    eq-eqb (length c.args.body.now) 16 c.if-body-eq16.true ∙ sym (still_stops c.args.body.now c.read_key-key.result c.read_key-key.ensures.fits c.read_key-key.ensures.bytes named c.if-body-eq16.true r fits is)

pub returns-else-body-eq16 : goal.returns-else-body-eq16
returns-else-body-eq16 c = λ r fits is.
    let named : c.read_key-key.result ≢ set_key = λ same. search (rules, c.is_level_set.ensures.1 same) in
    sym (moving_stops c.args.body.now c.read_key-key.result c.read_key-key.ensures.fits c.read_key-key.ensures.bytes named c.if-body-lt16.false c.if-body-eq16.false r fits is)
