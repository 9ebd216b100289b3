use Rattle.archive_commands.proofs.Plans.{part_put}
use Rattle.archive_commands.proofs.put_better.put_and_say.Goals as goal

pub returns-in-Ok-clause-puts : goal.returns-in-Ok-clause-puts
returns-in-Ok-clause-puts g c =
    part_put _ c.args.to c.args.news _ c.put_shown.result _ _ c.counts-counts.result c.in-Ok.sent c.say_better.result _ _ c.into_parts-forth.ensures.forth c.in-Ok.is c.put_shown.ensures c.counts-counts.ensures c.say_better.ensures.said c.say_better.ensures.fails
