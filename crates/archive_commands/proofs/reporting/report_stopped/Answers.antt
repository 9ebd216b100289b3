use Rattle.std.proofs.Common.{ℕ, Option, sym, subst}
use Rattle.command_line.specs.Printing.{Prints}
use Rattle.archive_commands.specs.Reports.{stopped_line}
use Rattle.archive_commands.proofs.reporting.report_stopped.Goals as goal

pub returns-in-Some : goal.returns-in-Some
returns-in-Some g c =
    subst (λ (blocks : Option ℕ). Prints (stopped_line c.args.block blocks) (g.E.Write.contents c.args.errors.now) (g.E.Write.contents c.print_words.new.errors)) (sym c.in-Some.is) c.print_words.ensures

pub returns-in-None : goal.returns-in-None
returns-in-None g c =
    subst (λ (blocks : Option ℕ). Prints (stopped_line c.args.block blocks) (g.E.Write.contents c.args.errors.now) (g.E.Write.contents c.print_words-in-None.new.errors)) (sym c.in-None.is) c.print_words-in-None.ensures
