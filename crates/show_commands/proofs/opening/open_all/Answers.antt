use Rattle.std.proofs.Common.{List, Some, subst}
use Rattle.std.proofs.lemmas.Result.{IfOk-weaker}
use Rattle.command_line.specs.Inputs.{known_of}
use Rattle.command_line.specs.declared.source.Source.{Source}
use Rattle.show_commands.specs.Opening.{AreNotOpened, CanOpenAll}
use Rattle.show_commands.proofs.Opened.{first_part, known_all, on_ok}
use Rattle.show_commands.proofs.opening.open_all.Goals as goal

pub returns-in-Ok-clause-opened : goal.returns-in-Ok-clause-opened
returns-in-Ok-clause-opened g c =
    IfOk-weaker c.add_closed.result _ _
    (λ all added. known_all (known_of (g.S.FileSystem.bytes_of c.args.system.now) (Some c.args.standard.now)) _ _ c.split_at.result.0.now c.split_at.result.1.now c.args.sources.now c.min.result
    c.split_at.ensures.front c.split_at.ensures.back c.in-Ok.ensures.opened added)
    c.add_closed.ensures.added

pub returns-in-Err-clause-not_opened : goal.returns-in-Err-clause-not_opened
returns-in-Err-clause-not_opened g c =
    subst (λ (sources : List Source). AreNotOpened (g.S.FileSystem.opens_of c.args.system.now) sources (g.E.Write.contents c.args.errors.now) (g.E.Write.contents c.open_each.new.errors) c.in-Err.why)
    (first_part c.split_at.result.0.now c.args.sources.now c.min.result c.args.at_once c.split_at.ensures.front c.min.ensures) c.in-Err.ensures.not_opened

pub returns-in-Ok-clause-can : goal.returns-in-Ok-clause-can
returns-in-Ok-clause-can g c =
    on_ok c.add_closed.result
    (subst (λ (sources : List Source). CanOpenAll (g.S.FileSystem.opens_of c.args.system.now) sources)
    (first_part c.split_at.result.0.now c.args.sources.now c.min.result c.args.at_once c.split_at.ensures.front c.min.ensures) c.in-Ok.ensures.can)
