use Rattle.std.proofs.Common.{subst, inl, Err, map, string_bytes}
use Rattle.std.proofs.lemmas.Result.{IfErr-weaker, IfOk-weaker}
use Rattle.clap.specs.Words.{App}
use Rattle.command_line.specs.CommandLine.{FindsCommand, HasFault}
use Rattle.tws_tool.specs.CommandLine.{FindsWords, AnswersWords}
use Rattle.tws_tool.proofs.words.found.Goals as goal

pub returns-clause-found : goal.returns-clause-found
returns-clause-found c =
    let words = map string_bytes c.args.words.now in
    IfOk-weaker c.found_in.result _ (FindsWords words)
    (λ found finds. (c.args.names, c.requires, subst (λ (a : App). FindsCommand a words found) c.in_ok-command.ensures finds))
    c.found_in.ensures.found

pub returns-clause-refused : goal.returns-clause-refused
returns-clause-refused c =
    let words = map string_bytes c.args.words.now in
    IfErr-weaker c.found_in.result _ (λ why. AnswersWords words (Err why))
    (λ why has. (c.args.names, c.requires, inl (subst (λ (a : App). HasFault a words why) c.in_ok-command.ensures has)))
    c.found_in.ensures.refused
