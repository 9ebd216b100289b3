use Rattle.std.proofs.Common.{◌∙◌, sym, refl}
use Rattle.std.proofs.lemmas.Result.{err_from_is_err_and, IfOk-weaker, IfErr-weaker}
use Rattle.byte_output.proofs.Lists.{at_some, at_none}
use Rattle.tws_reader.proofs.Continuing.{short_continues, first_continues, next_continues, next_fails, first_fails}
use Rattle.tws_reader.proofs.part_reader.advance.Goals as goal

pub returns-then-is_some-clause-continues : goal.returns-then-is_some-clause-continues
returns-then-is_some-clause-continues g c =
    let some = sym c.is_some.ensures ∙ c.if-is_some.true in
    IfOk-weaker c.read_on.result _ _ (λ n h. next_continues c.args.header.now c.args.records.now c.read_on.new.records c.args.offset c.args.bytes.now n some h) c.read_on.ensures.read

pub returns-then-is_some-clause-fault : goal.returns-then-is_some-clause-fault
returns-then-is_some-clause-fault g c =
    let some = sym c.is_some.ensures ∙ c.if-is_some.true in
    IfErr-weaker c.read_on.result _ _ (λ e h. next_fails c.args.header.now c.args.offset c.args.bytes.now e some h) c.read_on.ensures.fault

pub returns-in_default-clause-continues : goal.returns-in_default-clause-continues
returns-in_default-clause-continues g c =
    short_continues c.args.header.now c.args.records.now c.args.offset c.args.bytes.now (sym c.is_some.ensures ∙ c.if-is_some.false) (at_none _ c.in_default.is c.in_ok-head.ensures.short)

pub returns-in_err-count-clause-fault : goal.returns-in_err-count-clause-fault
returns-in_err-count-clause-fault g c =
    let p = err_from_is_err_and c.from_residual-in_err-count.result c.from_residual-in_err-count.ensures.1 in
    rw (p.1, p.2) (first_fails c.args.header.now c.in-Some.head c.args.offset c.args.bytes.now c.in-Some.rest.now _ _
    (sym c.is_some.ensures ∙ c.if-is_some.false)
    (at_some _ _ _ c.in-Some.is c.in_ok-head.ensures.head) refl c.in_err-count.ensures.fault)

pub returns-clause-continues : goal.returns-clause-continues
returns-clause-continues g c =
    first_continues c.args.header.now c.in-Some.head c.args.records.now c.read_on-2.new.records c.args.offset c.args.bytes.now c.in-Some.rest.now _ c.in_ok-count.count
    (sym c.is_some.ensures ∙ c.if-is_some.false)
    (at_some _ _ _ c.in-Some.is c.in_ok-head.ensures.head) refl c.in_ok-count.ensures.read
