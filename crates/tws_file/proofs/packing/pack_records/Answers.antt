use Rattle.tws_file.proofs.Packs.{packed_more}
use Rattle.tws_file.proofs.packing.pack_records.Goals as goal

pub loop-record-preserved : goal.loop-record-preserved
loop-record-preserved g c =
    packed_more c.loop-record.packed.items c.push.new.self.items c.args.records.now c.loop-record.record-index c.record-item.result c.in_ok-pack_record.field-0 c.loop-record.invariant c.loop-record-test.true c.record-item.is c.in_ok-pack_record.ensures c.in_ok-push.ensures.items
