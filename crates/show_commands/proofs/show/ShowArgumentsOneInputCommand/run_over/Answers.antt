use Rattle.std.proofs.Common.{refl}
use Rattle.tws_tables.specs.Csv.{csv_of}
use Rattle.tws_tables.specs.Listing.{listing_of}
use Rattle.command_line.proofs.Statuses.{map_ok}
use Rattle.show_commands.proofs.Said.{silent_of}
use Rattle.show_commands.proofs.show.ShowArgumentsOneInputCommand.run_over.Goals as goal

pub returns-then-self-clause-said : goal.returns-then-self-clause-said
returns-then-self-clause-said g c =
    let said = g.E.Write.contents c.args._errors.now in
    map_ok c.run_csv.result (λ wrote. silent_of csv_of _ (g.R.Read.remaining c.args.input.now) _ _ said said wrote refl) c.run_csv.ensures.written

pub returns-else-self-clause-said : goal.returns-else-self-clause-said
returns-else-self-clause-said g c =
    let said = g.E.Write.contents c.args._errors.now in
    map_ok c.run_show.result (λ wrote. silent_of (listing_of c.args.self.now.moves) _ (g.R.Read.remaining c.args.input.now) _ _ said said wrote refl) c.run_show.ensures.listed
