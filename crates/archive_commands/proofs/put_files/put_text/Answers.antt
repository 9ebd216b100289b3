use Rattle.archive_commands.proofs.Files.{text_put, text_unput}
use Rattle.archive_commands.proofs.put_files.put_text.Goals as goal

pub returns-in-Ok-clause-puts : goal.returns-in-Ok-clause-puts
returns-in-Ok-clause-puts g c =
    text_put _ _ c.args.to c.put_shown.result _ _ c.in-Ok.len c.say_sent.result _ _ c.in-Ok.is c.put_shown.ensures c.say_sent.ensures.said c.say_sent.ensures.fails

pub returns-in-Err-clause-puts : goal.returns-in-Err-clause-puts
returns-in-Err-clause-puts g c =
    text_unput _ _ c.args.to c.put_shown.result _ _ c.in-Err.fault c.of_run.result _ c.in-Err.is c.put_shown.ensures c.of_run.ensures
