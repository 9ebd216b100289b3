use Rattle.std.proofs.Common.{map, string_bytes}
use Rattle.command_line.proofs.Lines.{one_line}
use Rattle.command_line.proofs.reporting.print_report.Goals as goal

pub returns-in_default : goal.returns-in_default
returns-in_default g c =
    one_line c.args.fault (map string_bytes c.args.names.now) (g.E.Write.contents c.args.errors.now) (g.E.Write.contents c.print_words.new.errors) c.in_default.not-Unreadable c.print_words.ensures
