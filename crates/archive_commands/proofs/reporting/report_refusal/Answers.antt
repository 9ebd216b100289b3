use Rattle.archive_commands.proofs.Said.{refusal_printed}
use Rattle.archive_commands.proofs.reporting.report_refusal.Goals as goal

pub returns-then-not-is_empty : goal.returns-then-not-is_empty
returns-then-not-is_empty g c =
    refusal_printed (g.E.Write.contents c.args.errors.now) (g.E.Write.contents c.print_about.new.errors) c.args.refusal.now c.of.result.bytes.now c.if-not-is_empty.ensures c.of.ensures c.print_about.ensures
