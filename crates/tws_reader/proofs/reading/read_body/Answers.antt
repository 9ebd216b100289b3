use Rattle.std.proofs.Common.{rules, ◌∙◌}
use Rattle.std.proofs.lemmas.List.{take_rest}
use Rattle.tws_reader.proofs.Bodies.{set_from}
use Rattle.tws_reader.proofs.reading.read_body.Goals as goal

pub returns-then-is_level_set-clause-bytes : goal.returns-then-is_level_set-clause-bytes
returns-then-is_level_set-clause-bytes g c =
    set_from c.args.body.now c.of-rest.result c.read_key-key.result c.read_key-key.ensures.bytes (search rules)
    (c.of-rest.ensures.list ∙ c.in_ok-from_slice.ensures.items ∙ take_rest c.args.body.now 6)
