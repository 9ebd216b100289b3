use Rattle.tws_file.specs.declared.«ruleset».Ruleset.TheVariants.{Lynx}
use Rattle.archive_commands.proofs.Plans.{rules_found, rules_of_none}
use Rattle.archive_commands.proofs.put_better.ruleset_of.Goals as goal

pub returns-in-Some : goal.returns-in-Some
returns-in-Some c = rules_found c.of_file.result c.args.bytes.now c.of_file.ensures.text c.in-Some.ruleset c.in-Some.is

pub returns-in-None : goal.returns-in-None
returns-in-None c = rules_of_none c.of_file.result c.args.bytes.now c.of_file.ensures.text Lynx c.in-None.is
