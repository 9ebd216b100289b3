use Rattle.tws_tool.proofs.program.run_words.Goals as goal

pub returns-clause-ran : goal.returns-clause-ran
returns-clause-ran g c = c.run_words_with.ensures.ran
