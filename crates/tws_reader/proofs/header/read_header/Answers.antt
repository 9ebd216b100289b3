use Rattle.std.proofs.Common.{rules, arith}
use Rattle.std.proofs.lemmas.List.{take_rest}
use Rattle.tws_reader.proofs.Headers.{header_from}
use Rattle.tws_reader.proofs.header.read_header.Goals as goal

pub returns-clause-header : goal.returns-clause-header
returns-clause-header c =
    header_from c.args.bytes.now c.in-Some.ruleset _ c.split_at.result.0.now c.split_at.result.1.now c.from-count.result
    (λ i. omega (arith, c.type_inv.bytes i)) c.in-len8-up.len_at_least
    (search rules) c.in-Some.ensures.known c.from-count.ensures (take_rest c.args.bytes.now 8)
    (omega arith) c.split_at.ensures.front c.split_at.ensures.back
