-- Why the files were not read.
use Rattle.std.proofs.Common.{rules}
use Rattle.web_answers.proofs.both.read_both.Goals as goal

pub returns-in-Err-clause-fails : goal.returns-in-Err-clause-fails
returns-in-Err-clause-fails g c = c.first.ensures.both c.args.first.now c.args.second.now c.in-Err.ensures.fault

pub returns-in-Err-read_file-clause-fails : goal.returns-in-Err-read_file-clause-fails
returns-in-Err-read_file-clause-fails g c = c.second.ensures c.args.first.now c.args.second.now c.in-Err-read_file.ensures.fault

pub returns-then-ne-clause-fails : goal.returns-then-ne-clause-fails
returns-then-ne-clause-fails g c =
    (c.in-Ok.file, c.in-Ok-read_file.file, c.in-Ok.ensures.read, c.in-Ok-read_file.ensures.read, search rules)
