use Rattle.archive_commands.proofs.Said.{named_printed}
use Rattle.archive_commands.proofs.labels.report_named.Goals as goal

pub returns-clause-printed : goal.returns-clause-printed
returns-clause-printed g c =
    named_printed (g.E.Write.contents c.args.errors.now) (g.E.Write.contents c.print_about.new.errors) c.args.fault c.args.source.now c.name_of.result.now c.name_of.ensures c.in_default.not-Unreadable c.print_about.ensures
