use Rattle.std.proofs.Common.{◌∙◌, [], Some, subst}
use Rattle.show_commands.specs.Opening.{ReportsUnopened}
use Rattle.command_line.specs.Inputs.{known_of}
use Rattle.show_commands.proofs.Opened.{can_next, first_unopened, known_next}
use Rattle.show_commands.proofs.opening.open_each.Goals as goal

pub returns-in-Err-clause-not_opened : goal.returns-in-Err-clause-not_opened
returns-in-Err-clause-not_opened g c =
    let before = c.loop-source in
    let new = g.E.Write.contents c.open_source.new.errors in (
      c.source-item.result,
      first_unopened (g.S.FileSystem.opens_of c.args.system.now) c.args.sources.now before.source-index c.source-item.result c.loop-source-test.true c.source-item.is before.invariant.can
          c.in-Err.ensures.cannot.1,
      subst (λ (e : g.row.E.Denot). ReportsUnopened c.source-item.result (g.E.Write.contents e) new) before.invariant.silent c.in-Err.ensures.printed,
    )

pub loop-source-preserved : goal.loop-source-preserved
loop-source-preserved g c =
    let before = c.loop-source in
    let source = c.source-item.result in
    let inside = c.loop-source-test.true in
    record {
      opened = known_next _ (known_of (g.S.FileSystem.bytes_of c.args.system.now) (Some c.args.standard.now)) [] before.inputs.items c.push.new.self.items c.in-Ok.input c.args.sources.now before.source-index source
          inside c.source-item.is c.in_ok-push-in-Ok.ensures.items c.in-Ok.ensures.opened before.invariant.opened;
      can = can_next (g.S.FileSystem.opens_of c.args.system.now) c.args.sources.now before.source-index source inside c.source-item.is before.invariant.can c.in-Ok.ensures.can;
      silent = c.in-Ok.ensures.silent ∙ before.invariant.silent;
    }
