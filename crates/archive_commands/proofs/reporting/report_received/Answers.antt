use Rattle.std.proofs.Common.{◌≡◌, ◌∙◌, ap, inr, subst}
use Rattle.tws_file.specs.declared.file_fault.FileFault.TheVariants.{BadRuleset}
use Rattle.command_line.specs.declared.tool_fault.ToolFault.TheVariants.{Unreadable}
use Rattle.command_line.specs.Printing.{Printed}
use Rattle.archive_commands.specs.Reports.{other_lines}
use Rattle.archive_commands.proofs.reporting.report_received.Goals as goal

pub returns-then-is_some-clause-printed : goal.returns-then-is_some-clause-printed
returns-then-is_some-clause-printed g c =
    let at = c.in-Unreadable-default-BadRuleset in
    let why : at.fault ≡ BadRuleset at.code = rw at.is at at.fault-is in
    inr (at.index, at.code, at.is ∙ ap (Unreadable at.index) why, subst (λ address. Printed (other_lines address at.code) (g.E.Write.contents c.args.errors.now) (g.E.Write.contents c.report_other.new.errors)) c.as_str.ensures.value c.report_other.ensures.printed)
