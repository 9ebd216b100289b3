use Rattle.std.proofs.Common.{◌≡◌, ◌-◌, length, take, ◌∙◌, arith}
use Rattle.std.proofs.lemmas.List.{length-take-le}
use Rattle.tws_best.proofs.Windows.{part_pushed}
use Rattle.tws_best.proofs.block.put_part.Goals as goal

pub returns-clause-bytes : goal.returns-clause-bytes
returns-clause-bytes c =
    let before = take c.args.len c.args.block.now in
    let size : length before ≡ c.args.len = length-take-le c.args.len c.args.block.now (omega (arith, c.told-block, c.requires)) in
    c.put.ensures.bytes ∙ part_pushed before c.args.bytes.now (512 - c.args.len) c.min-count.result (omega (arith, size, c.requires)) (omega (arith, size)) c.min-count.ensures
