use Rattle.std.proofs.Common.{rules}
use Rattle.command_line.proofs.Statuses.{line_some}
use Rattle.command_line.proofs.help.write_help.Goals as goal

pub returns-clause-written : goal.returns-clause-written
returns-clause-written g c = record {
  page = c.as_bytes.result.now;
  some = line_some c.trim_end.result.now c.as_bytes.result.now (search rules);
  written = c.in_ok-put.ensures.ok;
}
