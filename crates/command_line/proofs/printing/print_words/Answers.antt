use Rattle.std.proofs.Common.{◌∙◌, sym}
use Rattle.command_line.specs.Printing.{plain_line}
use Rattle.command_line.proofs.Lines.{at_ok, prints_by, prints_value}
use Rattle.command_line.proofs.printing.print_words.Goals as goal

pub returns-then-is_ok : goal.returns-then-is_ok
returns-then-is_ok g c =
    let old = g.E.Write.contents c.args.errors.now in
    let new = g.E.Write.contents c.put_words.new.errors in
    prints_value _ (λ s. s.bytes) (λ _ _ _ t. t) c.new-text.result c.write.new.self (g.D.Display.output c.args.words) plain_line c.as_str.result.now old new c.new-text.ensures c.as_str.ensures.value
    (at_ok c.write.result (sym c.is_ok.ensures.value ∙ c.if-is_ok.true) c.write.ensures.writes)
    (prints_by c.put_words.result (plain_line c.as_str.result.now) old new c.put_words.ensures.ok c.put_words.ensures.err)
