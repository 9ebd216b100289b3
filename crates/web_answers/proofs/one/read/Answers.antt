use Rattle.web_answers.proofs.one.read.Goals as goal

pub returns-in-Err-clause-fails : goal.returns-in-Err-clause-fails
returns-in-Err-clause-fails g c = c.first.ensures.alone c.args.bytes.now c.in-Err.ensures.fault
