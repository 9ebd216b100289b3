use Rattle.archive_commands.proofs.Said.{unanswered_printed}
use Rattle.archive_commands.proofs.reporting.report_reached.Goals as goal

pub returns-else-reached : goal.returns-else-reached
returns-else-reached g c =
    unanswered_printed (g.E.Write.contents c.args.errors.now) (g.E.Write.contents c.report_no_answer.new.errors) c.args.reached c.in-Some.reached c.in-Some.is c.if-reached.false c.report_no_answer.ensures
