use Rattle.std.proofs.Common.{string_bytes}
use Rattle.archive_commands.proofs.Said.{said_then, unsaid_then}
use Rattle.archive_commands.proofs.put_files.say_and_send.Goals as goal

pub returns-in-Ok-clause-printed : goal.returns-in-Ok-clause-printed
returns-in-Ok-clause-printed g c =
    said_then g.E.Write.contents c.args.note.now c.args.sources.now (string_bytes c.args.arguments.now.target.address) c.args.errors.now c.say.new.errors (g.E.Write.contents c.send_each.new.errors) c.in-Ok.ensures.said c.send_each.ensures.printed

pub returns-in-Err-clause-printed : goal.returns-in-Err-clause-printed
returns-in-Err-clause-printed g c =
    unsaid_then c.args.note.now c.args.sources.now (string_bytes c.args.arguments.now.target.address) c.in-Err.fault (g.E.Write.contents c.args.errors.now) (g.E.Write.contents c.say.new.errors) (g.E.Write.contents c.report.new.errors)
    c.in-Err.ensures.fails c.in-Err.ensures.cut c.report.ensures.printed
