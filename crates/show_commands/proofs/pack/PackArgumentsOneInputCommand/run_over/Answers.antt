use Rattle.std.proofs.Common.{refl}
use Rattle.tws_file.specs.Packing.{packed_text}
use Rattle.command_line.proofs.Statuses.{map_ok}
use Rattle.show_commands.proofs.Said.{silent_of}
use Rattle.show_commands.proofs.pack.PackArgumentsOneInputCommand.run_over.Goals as goal

pub returns-clause-said : goal.returns-clause-said
returns-clause-said g c =
    let said = g.E.Write.contents c.args._errors.now in
    map_ok c.run_pack.result (λ wrote. silent_of packed_text _ (g.R.Read.remaining c.args.input.now) _ _ said said wrote refl) c.run_pack.ensures.packed
