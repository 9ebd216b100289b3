use Rattle.std.proofs.lemmas.Result.{IfOk-weaker}
use Rattle.clap.specs.Words.{with_subcommand}
use Rattle.command_line.specs.CommandLine.{top_app}
use Rattle.show_commands.specs.Pack.{pack_app}
use Rattle.show_commands.specs.Show.{show_app}
use Rattle.show_commands.proofs.show_job.show_program.Goals as goal

pub returns : goal.returns
returns c =
    let first = IfOk-weaker c.add_command-program.result _ _ (λ built adds. adds top_app show_app c.new_program.ensures c.command.ensures.app c.command.ensures.local) c.add_command-program.ensures in
    IfOk-weaker c.add_command.result _ _
    (λ built adds. adds (with_subcommand top_app show_app.top) pack_app first c.command-2.ensures.app c.command-2.ensures.local)
    c.add_command.ensures
