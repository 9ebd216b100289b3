use Rattle.std.proofs.Common.{◌∙◌, ℕ, List, subst}
use Rattle.command_line.specs.Printing.{Prints}
use Rattle.archive_commands.specs.Reports.{unanswered_line}
use Rattle.archive_commands.proofs.reporting.report_no_answer.Goals as goal

pub returns : goal.returns
returns g c =
    subst (λ (host : List ℕ). Prints (unanswered_line host c.args.server.port) (g.E.Write.contents c.args.errors.now) (g.E.Write.contents c.print_words.new.errors)) (c.from-host.ensures ∙ c.to_be_bytes.ensures) c.print_words.ensures
