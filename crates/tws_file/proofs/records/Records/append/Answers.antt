use Rattle.std.proofs.Common.{◌∙◌, ◌++◌, ap, sym}
use Rattle.tws_file.specs.Record.{records_of}
use Rattle.tws_file.proofs.records.Records.append.Goals as goal

pub returns-then-is_empty-clause-ok : goal.returns-then-is_empty-clause-ok
returns-then-is_empty-clause-ok g c =
    c.drop.view_is ∙ c.of.ensures ∙ ap (λ front. front ++ records_of c.args.more.items) (sym (c.is_empty.ensures.0 c.if-is_empty.true))
