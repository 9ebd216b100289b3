use Rattle.std.proofs.Common.{sym, ◌∙◌}
use Rattle.std.proofs.lemmas.List.Folds.{fold-map}
use Rattle.tws_file.specs.Record.{record_of}
use Rattle.tws_pages.specs.SideBySide.{with_record}
use Rattle.tws_pages.proofs.side_by_side.with_records.Goals as goal

pub returns : goal.returns
returns g c = c.with_each.ensures ∙ sym (fold-map (with_record c.args.level.now) record_of c.args.so_far c.args.records.now)
