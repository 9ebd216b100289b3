use Rattle.std.proofs.Common.{ℕ, List, map, string_bytes, codes, refl, sym, subst}
use Rattle.archive_sync.specs.declared.news_fault.NewsFault.{NewsFault}
use Rattle.command_line.specs.Printing.{Printed, Prints, line_about}
use Rattle.archive_commands.specs.Reports.{texts_lines}
use Rattle.archive_commands.proofs.sync_reporting.report_texts.Goals as goal

pub returns-in-Rulesets-clause-printed : goal.returns-in-Rulesets-clause-printed
returns-in-Rulesets-clause-printed g c =
    let old = g.E.Write.contents c.args.errors.now in
    let new = g.E.Write.contents c.print_about.new.errors in
    subst (λ (fault : NewsFault). Printed (texts_lines (map string_bytes c.args.first.now) (string_bytes c.args.address.now) fault) old new) (sym c.in-Rulesets.is)
    (new, subst (λ (name : List ℕ). Prints (line_about name (codes "different rulesets")) old new) c.as_str.ensures.value c.print_about.ensures, refl)
