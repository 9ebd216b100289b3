use Rattle.std.proofs.lemmas.Result.{IfOk-weaker}
use Rattle.clap.specs.Words.{with_subcommand}
use Rattle.file_commands.specs.FileJobs.{files_app}
use Rattle.archive_commands.specs.Get.{get_app}
use Rattle.archive_commands.specs.Put.{put_app}
use Rattle.archive_serving.specs.Serve.{serve_app}
use Rattle.archive_commands.specs.Sync.{sync_app}
use Rattle.tws_tool.proofs.job.command.Goals as goal

pub returns : goal.returns
returns c =
    let files = files_app c.args.names in
    let one = with_subcommand files serve_app.top in
    let two = with_subcommand one put_app.top in
    let first = IfOk-weaker c.add_command-program.result _ _ (λ built adds. adds files serve_app c.file_program.ensures c.command.ensures.app c.command.ensures.local) c.add_command-program.ensures in
    let second = IfOk-weaker c.add_command-program-2.result _ _ (λ built adds. adds one put_app first c.command-2.ensures.app c.command-2.ensures.local) c.add_command-program-2.ensures in
    let three = with_subcommand two (get_app c.args.names).top in
    let third = IfOk-weaker c.add_command-program-3.result _ _ (λ built adds. adds two (get_app c.args.names) second c.command-3.ensures.app c.command-3.ensures.local) c.add_command-program-3.ensures in
    IfOk-weaker c.add_command.result _ _ (λ built adds. adds three sync_app third c.command-4.ensures.app c.command-4.ensures.local) c.add_command.ensures
