use Rattle.std.proofs.Common.{length-take, take, arith}
use Rattle.tws_best.proofs.Windows.{none_pushed, body_pushed, full_block}
use Rattle.tws_best.proofs.block.put_bodies.Goals as goal

pub loop-body-init : goal.loop-body-init
loop-body-init g c = record {
  bytes = none_pushed (take c.args.len c.args.block.now) (omega (arith, c.requires, length-take c.args.len c.args.block.now));
  most = c.requires;
  size = c.told-block;
}

pub returns-then-end-eq-BLOCK_SIZE-clause-bytes : goal.returns-then-end-eq-BLOCK_SIZE-clause-bytes
returns-then-end-eq-BLOCK_SIZE-clause-bytes g c =
    let so_far = c.loop-body in
    full_block (take c.args.len c.args.block.now)
    (take so_far.end so_far.block) c.args.bodies.now so_far.body-index so_far.invariant.bytes
    (omega (arith, so_far.invariant.size, length-take so_far.end so_far.block, c.if-end-eq-BLOCK_SIZE.true))

pub loop-body-preserved : goal.loop-body-preserved
loop-body-preserved g c =
    let before = c.loop-body in
    let next = c.put_record-end in
    record {
      bytes = body_pushed (take c.args.len c.args.block.now)
          (take before.end before.block) c.args.bodies.now before.body-index before.invariant.bytes c.body-item.result
          (take next.result next.new.block) c.loop-body-test.true c.body-item.is next.ensures.bytes;
      most = next.ensures.most;
      size = next.array_long;
    }
