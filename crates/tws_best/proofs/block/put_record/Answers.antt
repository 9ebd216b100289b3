use Rattle.std.proofs.Common.{List, ℕ, ◌-◌, ◌++◌, length, take, drop, refl, ap, sym, ◌∙◌, arith}
use Rattle.std.proofs.lemmas.List.{take_rest}
use Rattle.byteorder.specs.Endian.{little_bytes}
use Rattle.tws_best.proofs.Windows.{head_pushed, tail_pushed}
use Rattle.tws_best.proofs.block.put_record.Goals as goal

pub returns-then-skip-lt4-clause-bytes : goal.returns-then-skip-lt4-clause-bytes
returns-then-skip-lt4-clause-bytes g c =
    let body = c.args.body.now in
    let size = c.size_bytes.result in
    let first = take c.put_part-with_size.result c.put_part-with_size.new.block in
    head_pushed (take c.args.len c.args.block.now) first (little_bytes 4 (length body))
    (take (4 - c.args.skip) (drop c.args.skip size)) body (take c.put_part.result c.put_part.new.block) c.args.skip
    (omega arith)
    (ap (λ n. take (n - c.args.skip) (drop c.args.skip size)) (sym (ap length c.size_bytes.ensures)) ∙ take_rest size c.args.skip ∙ ap (drop c.args.skip) c.size_bytes.ensures)
    c.put_part-with_size.ensures.bytes
    (c.put_part.ensures.bytes ∙ ap (λ (xs : List ℕ). take 512 (first ++ xs)) c.as_slice.ensures.bytes)

pub returns-else-skip-lt4-clause-bytes : goal.returns-else-skip-lt4-clause-bytes
returns-else-skip-lt4-clause-bytes g c =
    let body = c.args.body.now in
    let slice = c.as_slice-else-skip-lt4.result.now in
    let from = c.args.skip - 4 in
    tail_pushed (take c.args.len c.args.block.now) (little_bytes 4 (length body))
    (take (length slice - from) (drop from slice)) body
    (take c.put_part-else-skip-lt4.result c.put_part-else-skip-lt4.new.block) c.args.skip refl c.if-skip-lt4.false
    (take_rest slice from ∙ ap (drop from) c.as_slice-else-skip-lt4.ensures.bytes)
    c.put_part-else-skip-lt4.ensures.bytes
