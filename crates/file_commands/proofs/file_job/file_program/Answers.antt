use Rattle.std.proofs.lemmas.Result.{IfOk-weaker}
use Rattle.clap.specs.Words.{with_subcommand}
use Rattle.show_commands.specs.ShowJobs.{shows_app}
use Rattle.file_commands.specs.Best.{best_app}
use Rattle.file_commands.specs.Compare.{compare_app}
use Rattle.file_commands.specs.Page.{page_app}
use Rattle.file_commands.specs.Without.{without_app}
use Rattle.file_commands.proofs.file_job.file_program.Goals as goal

pub returns : goal.returns
returns c =
    let one = with_subcommand shows_app without_app.top in
    let two = with_subcommand one (best_app c.args.names).top in
    let three = with_subcommand two compare_app.top in
    let first = IfOk-weaker c.add_command-program.result _ _ (λ built adds. adds shows_app without_app c.show_program.ensures c.command.ensures.app c.command.ensures.local) c.add_command-program.ensures in
    let second = IfOk-weaker c.add_command-program-2.result _ _ (λ built adds. adds one (best_app c.args.names) first c.command-2.ensures.app c.command-2.ensures.local) c.add_command-program-2.ensures in
    let third = IfOk-weaker c.add_command-program-3.result _ _ (λ built adds. adds two compare_app second c.command-3.ensures.app c.command-3.ensures.local) c.add_command-program-3.ensures in
    IfOk-weaker c.add_command.result _ _ (λ built adds. adds three page_app third c.command-4.ensures.app c.command-4.ensures.local) c.add_command.ensures
