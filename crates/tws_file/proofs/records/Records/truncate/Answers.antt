use Rattle.std.proofs.Common.{◌∙◌, ap, sym, take}
use Rattle.std.proofs.lemmas.List.{take-map}
use Rattle.tws_file.specs.Record.{records_of, record_of}
use Rattle.tws_file.proofs.records.Records.truncate.Goals as goal

pub returns : goal.returns
returns g c = ap records_of c.truncate.ensures.items ∙ sym (take-map record_of c.args.count c.self.inside.records.items) ∙ ap (take c.args.count) c.self.view_is
