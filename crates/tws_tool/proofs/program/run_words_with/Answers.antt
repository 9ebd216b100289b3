use Rattle.tws_tool.proofs.program.run_words_with.Goals as goal

pub returns-clause-ran : goal.returns-clause-ran
returns-clause-ran g c = (c.job_of.result, c.job_of.ensures, c.run_answer.ensures.ran, c.run_answer.ensures.said)
