use Rattle.archive_log.proofs.Printing.{line_printable}
use Rattle.archive_log.proofs.laws.line_law.Goals as goal

pub returns : goal.returns
returns c = line_printable
