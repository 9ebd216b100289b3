use Rattle.std.proofs.Common.{◌+◌, refl, sym, ◌∙◌, arith}
use Rattle.archive_table.specs.Table.{is_same}
use Rattle.archive_world.proofs.Firsts.{none_more, first_here, none_all}
use Rattle.archive_world.proofs.seats.find.Goals as goal

pub returns-then-is_at-clause-first : goal.returns-then-is_at-clause-first
returns-then-is_at-clause-first g c =
    first_here (is_same c.args.e) c.args.clients.now c.loop-i.i c.index-clients-i.result c.loop-i.invariant.1 (omega arith)
    (sym c.index-clients-i.is) (sym c.is_at.ensures ∙ c.if-is_at.true)

pub loop-i-preserved : goal.loop-i-preserved
loop-i-preserved g c = (
  omega arith,
  none_more (is_same c.args.e) c.args.clients.now c.loop-i.i (c.loop-i.i + 1) c.index-clients-i.result c.loop-i.invariant.1
      (omega arith) (sym c.index-clients-i.is) (sym c.is_at.ensures ∙ c.if-is_at.false) refl,
)

pub returns-clause-none : goal.returns-clause-none
returns-clause-none g c none = none_all (is_same c.args.e) c.args.clients.now c.loop-i.i (omega arith) c.loop-i.invariant.1
