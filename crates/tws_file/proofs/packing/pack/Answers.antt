use Rattle.std.proofs.Common.{◌∙◌, ap, map}
use Rattle.tws_file.specs.Packing.{packed_record}
use Rattle.tws_file.specs.TwsFile.{file_of}
use Rattle.tws_file.proofs.Packs.{packed_parts_fit}
use Rattle.tws_file.proofs.packing.pack.Goals as goal

pub invariant_of-result : goal.invariant_of-result
invariant_of-result g c =
    let extra-is = c.of-extra.ensures.list ∙ c.in_ok-from_slice.ensures.items ∙ c.as_slice.ensures.list in
    let records-is = c.of-records.ensures ∙ c.in_ok-pack_records.ensures ∙ ap (map packed_record) c.as_slice-2.ensures in
    packed_parts_fit (file_of c.file.inside) c.of-extra.result c.of-records.result c.file.invariant extra-is records-is
