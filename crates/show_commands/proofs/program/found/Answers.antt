use Rattle.std.proofs.Common.{subst, inl, Err, map, string_bytes}
use Rattle.std.proofs.lemmas.Result.{IfErr-weaker, IfOk-weaker}
use Rattle.clap.specs.Words.{App}
use Rattle.command_line.specs.CommandLine.{FindsCommand, HasFault}
use Rattle.show_commands.specs.ShowJobs.{FindsShowCommand, AnswersShowWords}
use Rattle.show_commands.proofs.program.found.Goals as goal

pub returns-clause-found : goal.returns-clause-found
returns-clause-found c =
    let words = map string_bytes c.args.words.now in
    IfOk-weaker c.found_in.result _ (FindsShowCommand words)
    (λ found finds. subst (λ (a : App). FindsCommand a words found) c.in_ok-show_program.ensures finds)
    c.found_in.ensures.found

pub returns-clause-refused : goal.returns-clause-refused
returns-clause-refused c =
    let words = map string_bytes c.args.words.now in
    IfErr-weaker c.found_in.result _ (λ why. AnswersShowWords words (Err why))
    (λ why has. inl (subst (λ (a : App). HasFault a words why) c.in_ok-show_program.ensures has))
    c.found_in.ensures.refused
