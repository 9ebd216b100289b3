use Rattle.std.proofs.Common.{◌∙◌, arith}
use Rattle.file_commands.proofs.Noting.{name_beyond, name_there}
use Rattle.file_commands.proofs.notes.name_at.Goals as goal

pub returns-then-index-sources : goal.returns-then-index-sources
returns-then-index-sources c = name_beyond c.args.sources.now c.args.index (omega (arith, c.if-index-sources.true))

pub returns : goal.returns
returns c =
    c.source_text.ensures ∙ name_there c.args.sources.now c.args.index c.index-sources-index.result (omega (arith, c.if-index-sources.false)) c.index-sources-index.is
