use Rattle.std.proofs.Common.{string_bytes}
use Rattle.std.proofs.lemmas.Result.{on_ok_weaker}
use Rattle.tws_pages.proofs.Parts.{counts_written}
use Rattle.tws_pages.proofs.page_head.push_counts.Goals as goal

pub returns : goal.returns
returns g c =
    on_ok_weaker c.writeln.result
    (λ p. counts_written c.args.totals.solutions c.args.totals.ticks (string_bytes c.args.text.now) (string_bytes c.writeln.new.self) p) c.writeln.ensures.bytes
