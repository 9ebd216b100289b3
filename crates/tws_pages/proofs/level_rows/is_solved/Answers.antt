use Rattle.std.proofs.Common.{◌∙◌}
use Rattle.tws_file.specs.Record.{record_of}
use Rattle.tws_pages.specs.LevelTable.{solves}
use Rattle.tws_pages.proofs.Leveled.{any_map}
use Rattle.tws_pages.proofs.level_rows.is_solved.Goals as goal

pub returns : goal.returns
returns g c = c.one_solves.ensures ∙ any_map (solves c.args.level.now) record_of c.args.records.now
