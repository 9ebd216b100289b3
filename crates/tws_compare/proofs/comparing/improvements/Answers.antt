use Rattle.std.proofs.Common.{rules}
use Rattle.std.proofs.lemmas.Fn.{filter_same}
use Rattle.tws_file.specs.Record.{record_of}
use Rattle.tws_compare.specs.Compare.{improves}
use Rattle.tws_compare.proofs.Filters.{records_kept}
use Rattle.tws_compare.proofs.comparing.improvements.Goals as goal

pub returns : goal.returns
returns g c =
    let test = improves c.args.sides.now in
    let items = c.into_vec-records.result.items in
    let left = c.retain.new.self.items in
    records_kept test items left c.args.records c.of.result
    (filter_same _ (λ one. test (record_of one)) _ (λ x b f' k. search rules) items left c.retain.ensures.filtered)
    c.into_vec-records.ensures c.of.ensures
